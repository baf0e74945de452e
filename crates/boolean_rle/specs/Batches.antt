-- Bytes and flags in batches (FORMAT.md, "Flags and bytes in batches"): what is read from a position, the position after it, and what the
-- two readers promise. Assumes nothing.
use Rattle.std.specs.Prelude.{◌≡◌, ℕ, ◌+◌, ◌-◌, List, [], ◌++◌, length, take, drop, ltb, Result, Ok, Err}
use Rattle.format.specs.Fields.{pick}
use Rattle.format.specs.Parse.{Reason, plain, cut_in, Parsed, end, got, refused}
use Rattle.format.specs.Answers.{refusal}
use Rattle.format.specs.declared.Refusal.{Refusal}
use Rattle.format.specs.Booleans.{ByteRun, joined_bytes, booleans_of, byte_runs, booleans}
use Rattle.boolean_rle.specs.declared.positions.BytePosition.{BytePosition}
use Rattle.boolean_rle.specs.declared.positions.FlagPosition.{FlagPosition}
use Rattle.boolean_rle.specs.declared.batch.Read.{Read}
use Rattle.boolean_rle.specs.Positions.{skipped, past, past_flags}

-- what was taken, with the position after it; or why it can't be
pub data Batch (P : Type 0) : Type 0 where
  took : List ℕ → P → Batch P
  missing : Reason → Batch P

-- n bytes after those that the position skips: the runs that all of these need are read, each whole
abbrev pub take_bytes : BytePosition → ℕ → Parsed (List ByteRun) → Batch BytePosition
take_bytes p n end = missing (cut_in 6 [])
take_bytes p n (got ds rest) =
    took (drop p.bytes.bytes (take (p.bytes.bytes + n) (joined_bytes ds))) (past p.run.bytes (p.bytes.bytes + n) ds)
take_bytes p n (refused r) = missing r

unfoldable pub bytes_from : BytePosition → ℕ → List ℕ → Batch BytePosition
bytes_from p n input =
    let bs = drop p.run.bytes input in
    take_bytes p n (byte_runs (length bs) (p.bytes.bytes + n) bs)

-- n flags after those that the position skips: what the boolean reader reads for all of these, without the skipped
abbrev pub take_flags : FlagPosition → ℕ → Parsed (List ByteRun) → Batch FlagPosition
take_flags p n end = missing (cut_in 6 [])
take_flags p n (got ds rest) = took (drop (skipped p) (booleans_of (skipped p + n) ds)) (past_flags p.run.bytes (skipped p + n) ds)
take_flags p n (refused r) = missing r

unfoldable pub flags_from : FlagPosition → ℕ → List ℕ → Batch FlagPosition
flags_from p n input = take_flags p n (booleans (skipped p + n) (drop p.run.bytes input))

-- refusal 8: the output has too few places
abbrev pub placed : {P : Type 0} → ℕ → ℕ → Batch P → Batch P
placed places n (took vs q) = pick (ltb places n) (missing (plain 8)) (took vs q)
placed places n (missing r) = missing r

-- ---- THE PROMISES

-- what a reader answers: a batch, or a refusal
abbrev pub ByteBatch : Type 0
ByteBatch = Result (Read BytePosition) Refusal

abbrev pub FlagBatch : Type 0
FlagBatch = Result (Read FlagPosition) Refusal

-- n are read, and q is the position after them
abbrev pub read_bytes : ℕ → BytePosition → ByteBatch
read_bytes n q = Ok (record { rows = record { rows = n }; next = q })

abbrev pub read_flags : ℕ → FlagPosition → FlagBatch
read_flags n q = Ok (record { rows = record { rows = n }; next = q })

-- what is answered: that, or a refusal, at the byte of the call's position, from which on the input has `total` bytes
abbrev pub bytes_answer : ℕ → ℕ → ℕ → Batch BytePosition → ByteBatch
bytes_answer at total n (took vs q) = read_bytes n q
bytes_answer at total n (missing r) = Err (refusal at total r)

abbrev pub flags_answer : ℕ → ℕ → ℕ → Batch FlagPosition → FlagBatch
flags_answer at total n (took vs q) = read_flags n q
flags_answer at total n (missing r) = Err (refusal at total r)

-- what was taken in the first n places, and what stood in the others; a refused call leaves every place unchanged
abbrev pub places_after : {P : Type 0} → ℕ → List ℕ → Batch P → List ℕ
places_after n out (took vs q) = vs ++ drop n out
places_after n out (missing r) = out

-- THE BYTE READER and THE FLAG READER: the answer r, and the lent places out' at exit
pub record BytesGiven (input : List ℕ) (p : BytePosition) (n : ℕ) (out out' : List ℕ) (r : ByteBatch) : Type 0 where
  pub answer : r ≡ bytes_answer p.run.bytes (length input - p.run.bytes) n (placed (length out) n (bytes_from p n input))
  pub places : out' ≡ places_after n out (placed (length out) n (bytes_from p n input))

pub record FlagsGiven (input : List ℕ) (p : FlagPosition) (n : ℕ) (out out' : List ℕ) (r : FlagBatch) : Type 0 where
  pub answer : r ≡ flags_answer p.run.bytes (length input - p.run.bytes) n (placed (length out) n (flags_from p n input))
  pub places : out' ≡ places_after n out (placed (length out) n (flags_from p n input))
