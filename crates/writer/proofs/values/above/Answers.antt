-- No number of 64 bits has anything above them. Assumes nothing.
use Rattle.format.proofs.Common.{sym, ◌<◌, ◌^◌, lt_of_lt_of_le, pow_mono}
use native.Mathlib.Nat.{div-eq_of_lt}
use Rattle.writer.proofs.values.above.Goals as goal

pub returns-else-bits-lt64 : goal.returns-else-bits-lt64
returns-else-bits-lt64 c = let h : c.args.x < 2 ^ c.args.bits = lt_of_lt_of_le c.ranges.x.fits (pow_mono c.if-bits-lt64.false) in
    sym (div-eq_of_lt h)
