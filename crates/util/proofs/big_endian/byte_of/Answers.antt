-- A shift by 8·k divides by 256^k. Assumes nothing.
use Rattle.format.proofs.Digits.{pow-256}
use Rattle.util.proofs.big_endian.byte_of.Goals as goal

pub returns : goal.returns
returns c = rw (pow-256 c.args.k)
