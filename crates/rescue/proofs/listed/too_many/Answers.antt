use mathlib.Core.Path.{◌≡◌, sym, ◌∙◌}
use Prim.Native.Nat.{suc, ◌+◌}
use native.Mathlib.Omega.{arith}
use lib.ListN.{drop, get_or}
use borrow.Author.Tests.{lt-ltb, le-ltb}
use Rattle.rescue.specs.Rescue.{sum}
use Rattle.rescue.proofs.ListedColumns.{sum-at, sum-end, fewer}
use Rattle.rescue.proofs.listed.too_many.Goals as goal

pub returns-then-left-n : goal.returns-then-left-n
returns-then-left-n c =
    let l = c.loop-n in
    let ns = c.args.counts.now in
    let e = sum-at ns l.n-index (omega arith) in
    sym (l.invariant ∙ rw e (lt-ltb l.left _ (omega arith)))

pub loop-n-preserved : goal.loop-n-preserved
loop-n-preserved c =
    let l = c.loop-n in
    let ns = c.args.counts.now in
    let s : l.n-index + 1 ≡ suc l.n-index = omega arith in
    rw s (l.invariant ∙ rw (sum-at ns l.n-index (omega arith))
    (fewer l.left (get_or ns l.n-index 0) (sum (drop (suc l.n-index) ns)) (omega arith)))

pub returns : goal.returns
returns c =
    let l = c.loop-n in
    let ns = c.args.counts.now in
    sym (l.invariant ∙ rw (sum-end ns l.n-index (omega arith)) (le-ltb l.left 0 (omega arith)))
