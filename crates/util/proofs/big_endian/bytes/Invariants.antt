-- The loop's invariant: x is the number that the bytes so far write. Assumes nothing.
use Rattle.format.proofs.Common.{◌≡◌, take, drop}
use Rattle.format.specs.Digits.{number}
use Rattle.util.proofs.big_endian.bytes.Given as goal

abbrev pub invariant-loop-byte : goal.invariant-loop-byte
invariant-loop-byte l = l.x ≡ number 256 (take l.byte-index (drop l.at l.s))
