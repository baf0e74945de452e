-- Where it says so, ten rows are enough. Assumes nothing.
use mathlib.Core.Path.{◌≡◌}
use Prim.Native.Nat.{ℕ}
use native.Mathlib.Omega.{arith}
use borrow.Author.Tests.{ltb-true, eqb-true}
use Rattle.format.proofs.Below.{below_all}
use Rattle.exports.proofs.Room.{enough-ten}
use Rattle.exports.proofs.bytes.is_short.Goals as goal

pub returns-then-input-lt2 : goal.returns-then-input-lt2
returns-then-input-lt2 c = λ e. let z : ◌≡◌ {A = ℕ} 0 1 = cc in absurd (omega arith)

pub returns-then-input-eq0 : goal.returns-then-input-eq0
returns-then-input-eq0 c = let s = c.args.input.now in λ e. enough-ten s (below_all 256 s (λ i. (c.shared_slice_known-then-input-eq0-1.given i).fits)) c.if-input-eq0.true (ltb-true _ 10 e)

pub returns-else-input-eq0 : goal.returns-else-input-eq0
returns-else-input-eq0 c = λ e. absurd (c.if-input-eq0.false (eqb-true _ _ e))
