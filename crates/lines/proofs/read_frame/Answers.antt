-- The run stands after the flag, so the run reader's promise from byte 1 on is the frame's. Assumes nothing.
use Rattle.lines.proofs.read_frame.Goals as goal

pub returns : goal.returns
returns c = rw c.new.ensures at c.read_run.ensures
