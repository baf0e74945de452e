-- THE LAW OF BATCHES: n values and then m at the position after them are n + m at once, and so for any batches. Assumes nothing.
use mathlib.Core.Path.{◌≡◌, refl, sym, ◌∙◌}
use Prim.Native.Nat.{ℕ, ◌+◌}
use native.Mathlib.Omega.{arith}
use mathlib.Core.List.{List, [], ◌∷◌}
use lib.ListN.{drop}
use Rattle.format.specs.Digits.{AllBelow}
use Rattle.format.specs.Booleans.{bits}
use Rattle.format.proofs.Booleans.{length-bits}
use Rattle.boolean_rle.specs.Column.{whole_runs, column, runs_at}
use Rattle.boolean_rle.specs.Positions.{skipped, past, past_flags}
use Rattle.boolean_rle.specs.Batches.{Batch, took, missing, bytes_from, flags_from}
use Rattle.boolean_rle.specs.BatchTheorems.{and_then, in_batches, total, InParts, HoweverCut}
use Rattle.boolean_rle.proofs.Onward.{onward}
use Rattle.boolean_rle.proofs.FlagsOnward.{plain-le, flags-onward}
use Rattle.boolean_rle.proofs.Batches.{seen_parts, bytes-seen, flags-seen}

pub bytes-in-parts : (s : List ℕ) → AllBelow 256 s → InParts λ p n. bytes_from p n s
unfolding column
bytes-in-parts s b p n m =
    let bs = drop p.run.bytes s in
    let q = past p.run.bytes (p.bytes.bytes + n) (whole_runs bs).runs in
    let cs = drop q.run.bytes s in
    rw (bytes-seen s b p n, bytes-seen s b p (n + m))
    (seen_parts p.bytes.bytes n m q.bytes.bytes (column bs) (column cs) q
    (past p.run.bytes (p.bytes.bytes + (n + m)) (whole_runs bs).runs)
    (whole_runs bs).why (λ x. bytes_from x m s)
    λ h.
    let (o, w) = onward s b p.run.bytes (p.bytes.bytes + n) h in
    let z : p.bytes.bytes + (n + m) ≡ p.bytes.bytes + n + m = omega arith in
    (o.same_bytes, plain-le q.bytes.bytes (whole_runs cs).runs o.inside, bytes-seen s b q m ∙ rw (w, z, o.past-on m)))

pub flags-in-parts : (s : List ℕ) → AllBelow 256 s → InParts λ p n. flags_from p n s
flags-in-parts s b p n m =
    let k = skipped p in
    let at = p.run.bytes in
    let q = past_flags at (k + n) (runs_at s at).runs in
    rw (flags-seen s b p n, flags-seen s b p (n + m))
    (seen_parts k n m (skipped q) (bits (column (drop at s))) (bits (column (drop q.run.bytes s))) q
    (past_flags at (k + (n + m)) (runs_at s at).runs)
    (runs_at s at).why (λ x. flags_from x m s) λ h.
    let o = flags-onward s b at (k + n) (rw length-bits at h) in
    let z : k + (n + m) ≡ k + n + m = omega arith in
    (o.same_flags, o.there, flags-seen s b q m ∙ rw (o.same-why, z, o.past-on m)))

-- ---- and so for any batches

however-cut : {P : Type 0} (read : P → ℕ → Batch P) → InParts read → HoweverCut read
however-cut read parts p [] = refl
however-cut {P = P} read parts p (n ∷ ns) = sym (parts p n (total ns) ∙ go (read p n) λ q. sym (however-cut read parts q ns))
  where
    go : (b : Batch P) → ((q : P) → read q (total ns) ≡ in_batches read q ns)
        → and_then b (λ q. read q (total ns)) ≡ and_then b (λ q. in_batches read q ns)
    go (took vs q) again = rw (again q)
    go (missing r) again = refl

pub bytes-however-cut : (s : List ℕ) → AllBelow 256 s → HoweverCut λ p n. bytes_from p n s
bytes-however-cut s b = however-cut (λ p n. bytes_from p n s) (bytes-in-parts s b)

pub flags-however-cut : (s : List ℕ) → AllBelow 256 s → HoweverCut λ p n. flags_from p n s
flags-however-cut s b = however-cut (λ p n. flags_from p n s) (flags-in-parts s b)
