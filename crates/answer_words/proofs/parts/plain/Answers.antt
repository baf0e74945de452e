-- The run or the refusal as it stands. Assumes nothing.
use Rattle.answer_words.proofs.parts.plain.Goals as goal

pub returns-in-Run : goal.returns-in-Run
returns-in-Run c = rw (c.new.ensures, c.in-Run.is)

pub returns-in-Refused : goal.returns-in-Refused
returns-in-Refused c = rw c.in-Refused.is
