-- `taking::take_line` meets its contract: a bad line, or what the run reader answers. Assumes nothing.
use mathlib.Core.Path.{sym}
use native.Mathlib.Omega.{arith}
use lib.Seq.{length-take-le}
use Rattle.totals.proofs.Answers.{read-within, took-bad, took}
use Rattle.totals.proofs.taking.take_line.Goals as goal

pub slice_bounds-take-end-in-Some : goal.slice_bounds-take-end-in-Some
slice_bounds-take-end-in-Some c =
    omega (arith, c.rows-count.ensures, read-within _ _ _ _ (rw c.in-Some.is at c.read_line.ensures))

pub slice_bounds-take-end-in-Some-2 : goal.slice_bounds-take-end-in-Some-2
slice_bounds-take-end-in-Some-2 c =
    sym (length-take-le _ _ (omega (arith, c.rows-count.ensures, read-within _ _ _ _ (rw c.in-Some.is at c.read_line.ensures))))

pub returns-in-None : goal.returns-in-None
returns-in-None c =
    took-bad _ _ _ _ _ (rw c.in-None.is at c.read_line.ensures) c.take.ensures

pub returns-in-Some : goal.returns-in-Some
returns-in-Some c =
    took _ _ _ _ _ _ c.requires (rw c.in-Some.is at c.read_line.ensures) (rw (c.from.ensures, c.rows-count.ensures) at c.take-in-Some.ensures)
