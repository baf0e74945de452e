-- Each turn takes one number from the places that are left, so what is left is too little for the others exactly if all are too many.
-- Assumes nothing.
use mathlib.Core.Path.{◌≡◌}
use lib.ListN.{drop}
use lib.Dec.{ltb}
use Rattle.rescue.specs.Rescue.{sum}
use Rattle.rescue.proofs.listed.too_many.Given as goal

abbrev pub invariant-loop-n : goal.invariant-loop-n
invariant-loop-n l = ltb l.initial.left (sum l.counts) ≡ ltb l.left (sum (drop l.n-index l.counts))
