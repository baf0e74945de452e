-- Each part of the refusal from its words. Assumes nothing.
use Rattle.answer_words.proofs.parts.refusal_of.Goals as goal

pub returns : goal.returns
returns c = rw c.cut_of-cut.ensures
