-- The loop's invariant: what stands so far, then the digits that are left, is the whole. Assumes nothing.
use Rattle.format.proofs.Common.{◌++◌, ◌≡◌, ◌+◌, ◌-◌, length, take, drop}
use Rattle.format.specs.Digits.{digits}
use Rattle.util.proofs.big_endian.write.Given as goal

abbrev pub invariant-loop-i : goal.invariant-loop-i
invariant-loop-i l =
    (length l.out ≡ length l.initial.out)
    × (take (l.at + l.i) l.out ++ digits 256 (l.n - l.i) l.x ≡ take l.at l.initial.out ++ digits 256 l.n l.x)
    × (drop (l.at + l.i) l.out ≡ drop (l.at + l.i) l.initial.out)
