-- Each part of the reader from its words. Assumes nothing.
use Rattle.answer_words.proofs.parts.reader_in.Goals as goal

pub returns : goal.returns
returns c = rw c.standing_of-standing.ensures
