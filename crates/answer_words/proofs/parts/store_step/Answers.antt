-- The state's words, then the answer's. Assumes nothing.
use Rattle.answer_words.proofs.PartWords.{state-long}
use Rattle.answer_words.proofs.parts.store_step.Goals as goal

pub returns : goal.returns
returns c =
    record { told = c.store_part.ensures; left = rw (state-long _) at c.store_reader.ensures.words_are }
