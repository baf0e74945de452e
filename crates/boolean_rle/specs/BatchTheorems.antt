-- The statements of the theorems on batches: however a column is cut into them they are its values, where they end and why, and what a
-- batch has to do with the boolean reader. Assumes nothing.
use Rattle.std.specs.Prelude.{◌≡◌, ℕ, ◌+◌, ◌<◌, ◌≤◌, List, [], ◌∷◌, ◌++◌, length, take, drop, leb, Err, Ok}
use Rattle.format.specs.Fields.{pick}
use Rattle.format.specs.Answers.{Answer, ran}
use Rattle.format.specs.Booleans.{bits, BooleansRead}
use Rattle.format.specs.declared.Kind.TheVariants.{Booleans}
use Rattle.boolean_rle.specs.declared.positions.BytePosition.{BytePosition}
use Rattle.boolean_rle.specs.declared.positions.FlagPosition.{FlagPosition}
use Rattle.boolean_rle.specs.Column.{whole_runs, runs_at, column}
use Rattle.boolean_rle.specs.Positions.{byte_at, flag_at, skipped, past, past_flags, Plain}
use Rattle.boolean_rle.specs.Batches.{ByteBatch, FlagBatch, Batch, took, missing, bytes_from, flags_from, BytesGiven, FlagsGiven}

-- more in front of what a batch took
abbrev pub in_front : {P : Type 0} → List ℕ → Batch P → Batch P
in_front vs (took ws q) = took (vs ++ ws) q
in_front vs (missing r) = missing r

-- a batch, and another from the position after it
abbrev pub and_then : {P : Type 0} → Batch P → (P → Batch P) → Batch P
and_then (took vs q) f = in_front vs (f q)
and_then (missing r) f = missing r

-- one batch after another, each from the position after the one before
abbrev pub in_batches : {P : Type 0} → (P → ℕ → Batch P) → P → List ℕ → Batch P
in_batches read p [] = read p 0
in_batches read p (n ∷ ns) = and_then (read p n) λ q. in_batches read q ns

abbrev pub total : List ℕ → ℕ
total [] = 0
total (n ∷ ns) = n + total ns

-- n and then m are n + m: what is taken, the position after it, and exactly when and why not
abbrev pub InParts : {P : Type 0} → (P → ℕ → Batch P) → Type 0
InParts {P = P} read = (p : P) (n m : ℕ) → read p (n + m) ≡ and_then (read p n) λ q. read q m

-- however a column is cut into batches, they are the column's values
abbrev pub HoweverCut : {P : Type 0} → (P → ℕ → Batch P) → Type 0
HoweverCut {P = P} read = (p : P) (ns : List ℕ) → in_batches read p ns ≡ read p (total ns)

-- The flags are the bits of the column's bytes after the skipped ones. They are taken exactly if all of them are there, and else the
-- reason is the column's.
abbrev pub FlagsOfColumn : List ℕ → Type 0
FlagsOfColumn input = (p : FlagPosition) (n : ℕ)
    → let bs = drop p.run.bytes input in
    flags_from p n input
    ≡ pick (leb (skipped p + n) (length (bits (column bs))))
    (took (take n (drop (skipped p) (bits (column bs)))) (past_flags p.run.bytes (skipped p + n) (whole_runs bs).runs))
    (missing (whole_runs bs).why)

abbrev pub BytesOfColumn : List ℕ → Type 0
BytesOfColumn input = (p : BytePosition) (n : ℕ)
    → let bs = drop p.run.bytes input in
    bytes_from p n input
    ≡ pick (leb (p.bytes.bytes + n) (length (column bs)))
    (took (take n (drop p.bytes.bytes (column bs))) (past p.run.bytes (p.bytes.bytes + n) (whole_runs bs).runs))
    (missing (whole_runs bs).why)

-- the position after a batch is plain
abbrev pub NextIsPlain : List ℕ → Type 0
NextIsPlain input =
    ((p q : BytePosition) (n : ℕ) (vs : List ℕ) → bytes_from p n input ≡ took vs q
    → Plain q.bytes.bytes (runs_at input q.run.bytes).runs)
    × ((p q : FlagPosition) (n : ℕ) (vs : List ℕ) → flags_from p n input ≡ took vs q
    → Plain q.bytes.bytes (runs_at input q.run.bytes).runs × (q.bits < 8))

-- A batch from the byte where a run begins is what the boolean reader gives there: it is refused alike, and else n are read.
abbrev pub Alike : ℕ → FlagBatch → Answer → Type 0
Alike n (Ok x) r = (x.rows.rows ≡ n) × ((consumed : ℕ) × (r ≡ ran Booleans 1 n consumed))
Alike n (Err f) r = r ≡ Err f

abbrev pub FromRun : Type 0
FromRun = (input : List ℕ) (at n : ℕ) (out places places' : List ℕ) (batch : FlagBatch) (r : Answer)
    → FlagsGiven input (flag_at (byte_at at 0) 0) n out places batch → BooleansRead input at n out places' r
    → (places ≡ places') × Alike n batch r

-- From any position, with places enough for both: a batch is refused as the boolean reader at that byte refuses the skipped booleans and
-- the n after them; else it is the last n of what that reader gives.
abbrev pub LastOf : ℕ → ℕ → List ℕ → List ℕ → FlagBatch → Answer → Type 0
LastOf k n places places' (Ok x) r =
    (x.rows.rows ≡ n) × ((consumed : ℕ) × (r ≡ ran Booleans 1 (k + n) consumed)) × (take n places ≡ drop k (take (k + n) places'))
LastOf k n places places' (Err f) r = r ≡ Err f

abbrev pub AsBooleans : Type 0
AsBooleans = (input : List ℕ) (p : FlagPosition) (n : ℕ) (out places out' places' : List ℕ) (batch : FlagBatch) (r : Answer)
    → FlagsGiven input p n out places batch → BooleansRead input p.run.bytes (skipped p + n) out' places' r
    → n ≤ length out → skipped p + n ≤ length out'
    → LastOf (skipped p) n places places' batch r

-- Two calls, the second at the position that the first answers, and one call for all, with places enough: it reads what the two read, in
-- order, and answers the position that the second answers.
abbrev pub CallsInParts : {P A : Type 0} → (P → ℕ → List ℕ → List ℕ → A → Type 0) → (ℕ → P → A) → Type 0
CallsInParts {P = P} {A = A} given read = (p q r : P) (n m : ℕ) (out₁ places₁ out₂ places₂ out places : List ℕ) (batch : A)
    → given p n out₁ places₁ (read n q) → given q m out₂ places₂ (read m r)
    → given p (n + m) out places batch → n + m ≤ length out
    → (batch ≡ read (n + m) r) × (take (n + m) places ≡ take n places₁ ++ take m places₂)

-- any two outcomes that a promise allows are equal
abbrev pub Determined : Type 0
Determined =
    ((input : List ℕ) (p : BytePosition) (n : ℕ) (out places places' : List ℕ) (r r' : ByteBatch)
    → BytesGiven input p n out places r → BytesGiven input p n out places' r' → (places ≡ places') × (r ≡ r'))
    × ((input : List ℕ) (p : FlagPosition) (n : ℕ) (out places places' : List ℕ) (r r' : FlagBatch)
    → FlagsGiven input p n out places r → FlagsGiven input p n out places' r' → (places ≡ places') × (r ≡ r'))
