-- The loop's invariant: what stands so far, then the bytes of the rest, is the whole. Assumes nothing.
use Rattle.format.proofs.Common.{◌++◌, ◌≡◌, ℕ, ◌≤◌, ◌<◌, ◌+◌, ◌^◌, length, take, drop}
use Rattle.format.specs.Fields.{shortest_in, shortest}
use Rattle.util.proofs.varint.write.Given as goal

abbrev pub invariant-loop-rest : goal.invariant-loop-rest
invariant-loop-rest l =
    (k : ℕ)
    × (1 ≤ k)
    × (l.rest < 128 ^ k)
    × (l.place + length (shortest_in k l.rest) ≡ l.at + length (shortest l.x))
    × (length l.out ≡ length l.initial.out)
    × (take l.place l.out ++ shortest_in k l.rest ≡ take l.at l.initial.out ++ shortest l.x)
    × (drop l.place l.out ≡ drop l.place l.initial.out)

abbrev pub decreases-loop-rest : goal.decreases-loop-rest
decreases-loop-rest l = l.rest
