-- The low word has the row's bits, and the high word its sign. Assumes nothing.
use Rattle.std.proofs.Common.{◌≡◌, suc, ◌-◌, ◌^◌, Bool, true, false, ℤ, pos, negsuc, arith, to_z-of_z, w64, SFits, of_z, ltb-true}
use lib.Signed.{lt_z}
use Rattle.format.proofs.Tests.{never}
use Rattle.tally.specs.Wide.{wide_of}
use Rattle.tally.proofs.WideSums.{row_low, row-high}
use Rattle.tally.proofs.sums.Wide.of_row.Goals as goal
use Rattle.tally.proofs.sums.Wide.of_row.Goals.{then-row-lt0, else-row-lt0}

below : (z : ℤ) → SFits w64 z → lt_z z (pos 0) ≡ true → wide_of z ≡ record { high = 18446744073709551615; low = of_z w64 z }
below (pos n) f t = absurd (omega (arith, ltb-true n 0 t))
below (negsuc k) f t =
    let e : 2 ^ 64 - suc k ≡ 2 ^ 64 - 1 - k = omega arith in
    rw e (row-high k f.sfits)

above : (z : ℤ) → SFits w64 z → lt_z z (pos 0) ≡ false → wide_of z ≡ record { high = 0; low = of_z w64 z }
above (pos n) f t = row_low n f.sfits
above (negsuc k) f t =
    let h : ◌≡◌ {A = Bool} true false = t in
    never (cc)

pub returns : goal.returns
returns c =
    let f = c.ranges.row in
    rw (c.cast_unsigned.ensures, to_z-of_z f)
    (elim c.if-row-lt0.branch [
      | then-row-lt0 w ↦ rw (w.result-is, below c.args.row f (rw (to_z-of_z f) at w.if-row-lt0.true))
      | else-row-lt0 w ↦ rw (w.result-is, above c.args.row f (rw (to_z-of_z f) at w.if-row-lt0.false))
    ])
