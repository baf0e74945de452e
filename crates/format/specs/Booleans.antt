-- Booleans (FORMAT.md, "Booleans"): byte runs, their layout, reading the runs that n booleans need, and what the boolean reader promises.
-- Assumes nothing.
use Rattle.std.specs.Prelude.{◌≡◌, ℕ, zero, suc, ◌+◌, ◌-◌, ◌<◌, ◌≤◌, List, [], ◌∷◌, ◌++◌, length, take, drop, replicate, ltb, eqb, Err}
use Rattle.format.specs.declared.Kind.TheVariants.{Booleans}
use Rattle.format.specs.Digits.{AllBelow, spread}
use Rattle.format.specs.Fields.{pick, bytes_for}
use Rattle.format.specs.Parse.{cut_in, Parsed, end, got, refused, then, unless, bytes}
use Rattle.format.specs.Answers.{Answer, ran, cut_at, refusal}

-- ---- BYTE RUNS: copies of one byte, with their count; or literal bytes

pub data ByteRun : Type 0 where
  repeat : ℕ → ℕ → ByteRun
  literals : List ℕ → ByteRun

-- Control c from 0 to 127: c+3 copies of the next byte.
pub record ValidRepeat (count byte : ℕ) : Type 0 where
  pub few : 3 ≤ count
  pub many : count ≤ 130
  pub fits : byte < 256

-- From 128 to 255: 256-c literal bytes.
pub record ValidLiterals (bs : List ℕ) : Type 0 where
  pub some : 1 ≤ length bs
  pub many : length bs ≤ 128
  pub fits : AllBelow 256 bs

abbrev pub ValidRun : ByteRun → Type 0
ValidRun (repeat count byte) = ValidRepeat count byte
ValidRun (literals bs) = ValidLiterals bs

-- a control byte, then the one byte or the literal bytes
unfoldable pub run_layout : ByteRun → List ℕ
run_layout (repeat count byte) = (count - 3) ∷ byte ∷ []
run_layout (literals bs) = (256 - length bs) ∷ bs

-- the bytes that a run stands for, and how many they are
unfoldable pub run_bytes : ByteRun → List ℕ
run_bytes (repeat count byte) = replicate count byte
run_bytes (literals bs) = bs

unfoldable pub byte_count : ByteRun → ℕ
byte_count (repeat count byte) = count
byte_count (literals bs) = length bs

-- ---- several runs, one after another

abbrev pub AllValidRuns : List ByteRun → Type 0
AllValidRuns [] = Unit {0}
AllValidRuns (d ∷ ds) = ValidRun d × AllValidRuns ds

unfoldable pub joined_runs : List ByteRun → List ℕ
joined_runs [] = []
joined_runs (d ∷ ds) = run_layout d ++ joined_runs ds

unfoldable pub joined_bytes : List ByteRun → List ℕ
joined_bytes [] = []
joined_bytes (d ∷ ds) = run_bytes d ++ joined_bytes ds

-- only as many runs as m bytes need: none for no bytes; else one run, and those that the bytes still missing need
abbrev pub Needed : ℕ → List ByteRun → Type 0
Needed m [] = m ≡ 0
Needed m (d ∷ ds) = (0 < m) × Needed (m - byte_count d) ds

-- ---- BOOLEANS: highest bit first; n of them are the first n bits

abbrev pub bits : List ℕ → List ℕ
bits bs = spread 2 8 bs

unfoldable pub booleans_of : ℕ → List ByteRun → List ℕ
booleans_of n ds = take n (bits (joined_bytes ds))

-- ---- READING: a missing control byte is refusal 6; a run cut after its control byte is 13, even if the bytes that are needed are there

unfoldable pub repeat_run : ℕ → List ℕ → Parsed ByteRun
repeat_run c [] = refused (cut_in 13 [])
repeat_run c (b ∷ rest) = got (repeat (c + 3) b) rest

unfoldable pub byte_run : List ℕ → Parsed ByteRun
byte_run [] = refused (cut_in 6 [])
byte_run (c ∷ bs) = pick (ltb c 128) (repeat_run c bs) (then (bytes 13 (256 - c) bs) λ v rest. got (literals v) rest)

-- as many runs as m bytes need, and at most `fuel`: every run takes at least one byte, so the input's length is fuel enough
unfoldable pub byte_runs : ℕ → ℕ → List ℕ → Parsed (List ByteRun)
byte_runs zero m bs = pick (eqb m 0) (got [] bs) (refused (cut_in 6 bs))
byte_runs (suc fuel) m bs =
    pick (eqb m 0) (got [] bs)
    (then (byte_run bs) λ d s.
    then (byte_runs fuel (m - byte_count d) s) λ ds rest.
    got (d ∷ ds) rest)

-- n booleans need n / 8 bytes, rounded up
unfoldable pub booleans : ℕ → List ℕ → Parsed (List ByteRun)
booleans n bs = byte_runs (length bs) (bytes_for n) bs

-- refusal 8: the output has too few places
unfoldable pub booleans_into : ℕ → ℕ → List ℕ → Parsed (List ByteRun)
booleans_into places n bs = then (booleans n bs) λ ds rest. unless (ltb places n) 8 (got ds rest)

-- ---- THE PROMISE

-- booleans, one bit wide: n rows, and the bytes of all the runs, each consumed whole; or a refusal, at the call's position
abbrev pub booleans_answer : ℕ → ℕ → ℕ → Parsed (List ByteRun) → Answer
booleans_answer at total n end = cut_at 6 at at
booleans_answer at total n (got ds rest) = ran Booleans 1 n (length (joined_runs ds))
booleans_answer at total n (refused r) = Err (refusal at total r)

-- n bytes of 0 or 1 in the first places, the others as they were; a refused call leaves every place unchanged
abbrev pub booleans_places : ℕ → List ℕ → Parsed (List ByteRun) → List ℕ
booleans_places n out end = out
booleans_places n out (got ds rest) = booleans_of n ds ++ drop n out
booleans_places n out (refused r) = out

-- THE BOOLEAN READER: the answer r, and the caller's places out' at exit. It reads from the position on.
pub record BooleansRead (input : List ℕ) (at n : ℕ) (out out' : List ℕ) (r : Answer) : Type 0 where
  pub answer : r ≡ booleans_answer at (length input - at) n (booleans_into (length out) n (drop at input))
  pub places : out' ≡ booleans_places n out (booleans_into (length out) n (drop at input))
