-- What `orc_read_run` promises: the number that comes back, and every byte of the output at exit, for every input and every output. Rows go out as bytes.
-- Assumes nothing.
use Rattle.std.specs.Prelude.{◌≡◌, ℕ, ◌*◌, ◌/◌, Bool, not, List, [], ◌∷◌, ◌++◌, length, drop, eqb, ℤ}
use Rattle.format.specs.Digits.{lowest_first}
use Rattle.format.specs.Runs.{Description, row_count}
use Rattle.format.specs.Rows.{as_u64, i64_rows}
use Rattle.format.specs.Parse.{Parsed, end, got, refused, parse, into}
use Rattle.format.specs.Answers.{answer_packed}
use Rattle.format.specs.Promises.{answer_of}

-- its flag is a number: 0 unsigned, any other signed (FORMAT.md, "Exported functions")
abbrev pub is_signed : ℕ → Bool
is_signed flag = not (eqb flag 0)

-- a trailing part of fewer than eight bytes is no place
abbrev pub places_in : List ℕ → ℕ
places_in out = length out / 8

-- rows go out as eight bytes each, lowest first
unfoldable pub row_bytes : List ℤ → List ℕ
row_bytes [] = []
row_bytes (z ∷ zs) = lowest_first 8 (as_u64 z) ++ row_bytes zs

-- the output at exit: the rows in its first bytes, and what stood in the others; a refused call leaves every byte unchanged
abbrev pub bytes_of : Bool → List ℕ → Parsed Description → List ℕ
bytes_of signed out end = out
bytes_of signed out (got d rest) = row_bytes (i64_rows signed d) ++ drop (8 * row_count d) out
bytes_of signed out (refused r) = out

-- the number and the bytes at exit, of the run that the input begins with, in as many places as the output has whole eights of bytes
pub record LoadedAs (input : List ℕ) (signed : Bool) (out out' : List ℕ) (r : ℕ) : Type 0 where
  pub number : r ≡ answer_packed (answer_of 0 (length input) (into (places_in out) (parse input)))
  pub bytes : out' ≡ bytes_of signed out (into (places_in out) (parse input))

-- THE FUNCTION THAT ANSWERS BY A NUMBER
abbrev pub Loaded : List ℕ → ℕ → List ℕ → List ℕ → ℕ → Type 0
Loaded input flag out out' r = LoadedAs input (is_signed flag) out out' r
