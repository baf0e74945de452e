-- No bytes are a bad line, and others are read as the run reader does. Assumes nothing.
use native.Mathlib.Omega.{arith}
use Rattle.lines.proofs.Frames.{frame-fits, frame-long}
use Rattle.lines.proofs.Readings.{read-bad, read-run}
use Rattle.lines.proofs.read_line.Goals as goal

pub returns-in_err-size : goal.returns-in_err-size
returns-in_err-size c = rw c.from_residual.ensures (read-bad _ _ c.in_err-size.ensures)

pub slice_bounds-frame-end : goal.slice_bounds-frame-end
slice_bounds-frame-end c = frame-fits _ _ _ c.in_ok-size.ensures.0

pub slice_bounds-read_frame-end : goal.slice_bounds-read_frame-end
slice_bounds-read_frame-end c = frame-long _ _ _ c.in_ok-size.ensures.0

pub read_frame-requires : goal.read_frame-requires
read_frame-requires c = omega (arith, c.in_ok-size.ensures.1, frame-long _ _ _ c.in_ok-size.ensures.0)

pub returns : goal.returns
returns c =
    read-run _ _ _ _ _ _ c.in_ok-size.ensures.0 c.in_ok-size.ensures.1 c.read_frame.ensures
