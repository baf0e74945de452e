-- Both numbers that are looked for are small, so the bits of a negative error are neither. Assumes nothing.
use Rattle.std.proofs.Common.{◌≡◌, eqb, ℤ, pos, negsuc, arith, w32, SFits, of_z, eq-eqb, ne_eqb}
use Rattle.blocks.specs.Blocks.{not_ready}
use Rattle.blocks.proofs.is_not_ready.Goals as goal

broken-off : (z : ℤ) → SFits w32 z → of_z w32 z ≡ 4 → eqb (of_z w32 z) 4 ≡ not_ready z
unfolding not_ready
broken-off (pos n) f h = rw (eq-eqb n 4 h)
broken-off (negsuc n) f h = absurd (omega (arith, f.sfits, h))

nothing-there : (z : ℤ) → SFits w32 z → (of_z w32 z ≡ 4 → ⊥) → eqb (of_z w32 z) 11 ≡ not_ready z
unfolding not_ready
nothing-there (pos n) f h = rw (ne_eqb n 4 h)
nothing-there (negsuc n) f h = ne_eqb (of_z w32 (negsuc n)) 11 (λ e. omega (arith, f.sfits, e))

pub returns-then-error-eq-EINTR : goal.returns-then-error-eq-EINTR
returns-then-error-eq-EINTR c = broken-off c.args.error c.ranges.error c.if-error-eq-EINTR.true

pub returns-else-error-eq-EINTR : goal.returns-else-error-eq-EINTR
returns-else-error-eq-EINTR c = nothing-there c.args.error c.ranges.error c.if-error-eq-EINTR.false
