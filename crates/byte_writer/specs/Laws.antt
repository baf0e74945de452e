-- What is shown of the writers, over the definitions: the runs that they choose, how many bytes those have, and that the readers give back
-- what was written. Assumes nothing.
use Rattle.std.specs.Prelude.{◌≡◌, ◌↔◌, ℕ, ◌+◌, ◌/◌, ◌<◌, ◌≤◌, List, ◌++◌, map, length, drop}
use Rattle.format.specs.declared.Kind.TheVariants.{Booleans}
use Rattle.format.specs.Answers.{Answer, ran, refused_at}
use Rattle.format.specs.Digits.{AllBelow}
use Rattle.format.specs.Fields.{bytes_for}
use Rattle.format.specs.Parse.{got}
use Rattle.format.specs.Booleans.{ByteRun, AllValidRuns, joined_runs, joined_bytes, byte_runs, booleans, booleans_of, BooleansRead}
use Rattle.byte_writer.specs.Choice.{runs_of, written}
use Rattle.byte_writer.specs.Flags.{bit, flag_bytes}
use Rattle.byte_writer.specs.Written.{BytesAnswer, refused_with, wrote_bytes, in_front, BytesWritten, BooleansWritten}

-- enough places for m bytes, whatever they are: a control byte for each 128 begun
abbrev pub enough_for : ℕ → ℕ
enough_for m = m + (m + 127) / 128

-- ---- BYTES: every run is valid, the runs give the bytes, and reading as many bytes takes these runs and leaves what follows
pub record BytesHold (bs : List ℕ) : Type 0 where
  pub valid : AllValidRuns (runs_of bs)
  pub gives : joined_bytes (runs_of bs) ≡ bs
  pub reads : (rest : List ℕ) → byte_runs (length (written bs ++ rest)) (length bs) (written bs ++ rest) ≡ got (runs_of bs) rest
  pub enough : length (written bs) ≤ enough_for (length bs)

abbrev pub EveryBytes : Type 0
EveryBytes = (bs : List ℕ) → AllBelow 256 bs → BytesHold bs

-- ---- BOOLEANS: the same of the flags' bytes. The boolean reader, wherever what was written stands, gives the flags as 0 and 1, and
-- consumes all of it.
pub record FlagsHold (fs : List ℕ) : Type 0 where
  pub size : length (flag_bytes fs) ≡ bytes_for (length fs)
  pub valid : AllValidRuns (runs_of (flag_bytes fs))
  pub reads : (rest : List ℕ) → booleans (length fs) (written (flag_bytes fs) ++ rest) ≡ got (runs_of (flag_bytes fs)) rest
  pub gives : booleans_of (length fs) (runs_of (flag_bytes fs)) ≡ map bit fs
  pub enough : length (written (flag_bytes fs)) ≤ enough_for (bytes_for (length fs))
  pub read_back : (front rest out out' : List ℕ) (r : Answer)
      → BooleansRead (front ++ (written (flag_bytes fs) ++ rest)) (length front) (length fs) out out' r
      → length fs ≤ length out
      → (r ≡ ran Booleans 1 (length fs) (length (written (flag_bytes fs)))) × (out' ≡ map bit fs ++ drop (length fs) out)

abbrev pub EveryFlags : Type 0
EveryFlags = (fs : List ℕ) → FlagsHold fs

-- ---- THE CALLS: refused exactly if the places are too few, and then every place is as it was; so never with enough of them for m bytes
pub record Exactly {A : Type 0} (refuse : ℕ → A) (wrote : A) (m : ℕ) (w out out' : List ℕ) (r : A) : Type 0 where
  pub fits : length w ≤ length out → (r ≡ wrote) × (out' ≡ in_front w out)
  pub eight : (k : ℕ) → (r ≡ refuse k) ↔ ((k ≡ 8) × (length out < length w))
  pub unchanged : length out < length w → out' ≡ out
  pub never : enough_for m ≤ length out → (r ≡ wrote) × (out' ≡ in_front w out)

abbrev pub BytesCall : Type 0
BytesCall =
    (bytes out out' : List ℕ) (r : BytesAnswer)
    → BytesWritten bytes out out' r
    → Exactly refused_with (wrote_bytes (length bytes) (length (written bytes))) (length bytes) (written bytes) out out' r

abbrev pub BooleansCall : Type 0
BooleansCall =
    (flags out out' : List ℕ) (r : Answer)
    → BooleansWritten flags out out' r
    → Exactly (λ k. refused_at k 0) (ran Booleans 1 (length flags) (length (written (flag_bytes flags)))) (bytes_for (length flags))
    (written (flag_bytes flags)) out out' r

-- any two outcomes that the promise allows are equal
abbrev pub BytesDetermined : Type 0
BytesDetermined =
    (bytes out o o' : List ℕ) (r r' : BytesAnswer) → BytesWritten bytes out o r → BytesWritten bytes out o' r' → (o ≡ o') × (r ≡ r')

abbrev pub BooleansDetermined : Type 0
BooleansDetermined =
    (flags out o o' : List ℕ) (r r' : Answer) → BooleansWritten flags out o r → BooleansWritten flags out o' r' → (o ≡ o') × (r ≡ r')

-- flags that were written, and then read where they were written, are the flags
abbrev pub RoundTrip : Type 0
RoundTrip =
    (flags out out' rows rows' : List ℕ) (r r' : Answer)
    → BooleansWritten flags out out' r
    → length (written (flag_bytes flags)) ≤ length out
    → BooleansRead out' 0 (length flags) rows rows' r'
    → length flags ≤ length rows
    → (r' ≡ r) × (rows' ≡ map bit flags ++ drop (length flags) rows)

-- ---- THE FEWEST BYTES: no list of valid runs of the same bytes has fewer bytes than what is written
abbrev pub Fewest : Type 0
Fewest = (bs : List ℕ) (ds : List ByteRun) → AllValidRuns ds → joined_bytes ds ≡ bs → length (written bs) ≤ length (joined_runs ds)
