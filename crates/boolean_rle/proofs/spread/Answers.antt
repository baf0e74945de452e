-- `boolean_rle::spread` meets its contract, byte by byte. Assumes nothing.
use native.Mathlib.Omega.{arith}
use lib.Bits.{and_le_r}
use Rattle.boolean_rle.proofs.ByteBits.{spread_of, spread-is}
use Rattle.boolean_rle.proofs.spread.Goals as goal

pub returns : goal.returns
unfolding spread_of
returns c = rw c.from-zeros.ensures (spread-is c.args.byte (omega arith))

pub overflow_sub-result : goal.overflow_sub-result
overflow_sub-result c = search and_le_r
