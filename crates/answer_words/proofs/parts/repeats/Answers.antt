-- The refusal as it stands. Assumes nothing.
use Rattle.answer_words.proofs.parts.repeats.Goals as goal

pub returns-in-Broken : goal.returns-in-Broken
returns-in-Broken c = rw c.in-Broken.is
