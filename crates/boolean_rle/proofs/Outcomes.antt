-- A batch by the column, the plain position after it, and one outcome for each promise: each is a line of the laws of batches. Assumes
-- nothing.
use mathlib.Core.Path.{◌≡◌, sym, ◌∙◌}
use Prim.Native.Nat.{ℕ, ◌+◌, ◌<◌, ◌≤◌}
use native.Mathlib.Omega.{arith}
use native.Mathlib.Decide.{dec_lt}
use mathlib.Core.List.{List}
use lib.ListN.{length, drop}
use borrow.Author.Tests.{lt-leb, le-leb}
use Rattle.format.specs.Digits.{AllBelow}
use Rattle.format.specs.Booleans.{bits}
use Rattle.format.proofs.Booleans.{length-bits}
use Rattle.format.proofs.Tests.{never}
use Rattle.boolean_rle.specs.Column.{whole_runs, column}
use Rattle.boolean_rle.specs.Positions.{skipped, past, past_flags}
use Rattle.boolean_rle.specs.Batches.{took, missing}
use Rattle.boolean_rle.specs.BatchTheorems.{FlagsOfColumn, BytesOfColumn, NextIsPlain, Determined}
use Rattle.boolean_rle.proofs.Onward.{onward}
use Rattle.boolean_rle.proofs.FlagsOnward.{flags-onward}
use Rattle.boolean_rle.proofs.Batches.{seen, bytes-seen, flags-seen}

-- ---- by the column

pub bytes-of-column : (s : List ℕ) → AllBelow 256 s → BytesOfColumn s
bytes-of-column s b = bytes-seen s b

pub flags-of-column : (s : List ℕ) → AllBelow 256 s → FlagsOfColumn s
flags-of-column s b = flags-seen s b

-- ---- plain positions

-- what is seen was there
pub seen-took : {P : Type 0} (k n : ℕ) (l : List ℕ) (q q' : P) (why : _) (vs : List ℕ) → seen k n l q why ≡ took vs q' → (k + n ≤ length l)
    × (q ≡ q')
seen-took k n l q q' why vs e = by (dec_lt (length l) (k + n))
  where
    by : Dec (length l < k + n) → (k + n ≤ length l) × (q ≡ q')
    by (yes h) =
        let f : missing why ≡ took vs q' = rw (lt-leb (k + n) (length l) h) at e in
        never (cc)
    by (no h) =
        let f = rw (le-leb (k + n) (length l) (omega arith)) at e in
        (omega arith, cc)

pub next-is-plain : (s : List ℕ) → AllBelow 256 s → NextIsPlain s
unfolding column
next-is-plain s b = (
  (λ p q n vs e.
      let bs = drop p.run.bytes s in
      let next = past p.run.bytes (p.bytes.bytes + n) (whole_runs bs).runs in
      let (h, z) = seen-took p.bytes.bytes n (column bs) next q (whole_runs bs).why vs
      (sym (bytes-seen s b p n) ∙ e) in
      rw (← z) (onward s b p.run.bytes (p.bytes.bytes + n) h).0.inside),
  (λ p q n vs e.
      let bs = drop p.run.bytes s in
      let (h, z) = seen-took (skipped p) n (bits (column bs)) (past_flags p.run.bytes (skipped p + n) (whole_runs bs).runs) q
      (whole_runs bs).why vs (sym (flags-seen s b p n) ∙ e) in
      let o = flags-onward s b p.run.bytes (skipped p + n) (rw length-bits at h) in
      rw (← z) (o.in-run, o.in-byte)),
)

-- ---- one outcome

pub determined : Determined
determined = (
  (λ input p n out places places' r r' g h. (g.places ∙ sym h.places, g.answer ∙ sym h.answer)),
  (λ input p n out places places' r r' g h. (g.places ∙ sym h.places, g.answer ∙ sym h.answer)),
)
