-- The run writer (FORMAT.md, "Run writer"): the description that rows, flag, form and width stand for, when they are refused, and what a
-- call promises.
-- Rows are 64-bit patterns here, as in Rows; the promise turns i64 rows into them. Nothing here reads.
-- Assumes nothing.
use Rattle.std.specs.Prelude.{◌≡◌, ℕ, ◌+◌, ◌-◌, ◌*◌, ◌%◌, ◌^◌, Bool, true, false, not, ◌&&◌, List, [], ◌∷◌, ◌++◌, map, length, get_or, drop, leb, ltb, eqb, ℤ}
use Rattle.std.specs.Int.{w64}
use Rattle.std.proofs.Common.{SFits}
use Rattle.format.specs.declared.Form.{Form}
use Rattle.format.specs.declared.Form.TheVariants.{ShortRepeat, Direct, FixedDelta, PackedDelta}
use Rattle.format.specs.Answers.{Answer}
use Rattle.format.specs.Digits.{digits}
use Rattle.format.specs.Fields.{pick, width, two64, zigzagged, Block, varint_value, shortest, Shortest}
use Rattle.format.specs.Kept.{is_kept}
use Rattle.format.specs.Runs.{Description, short, direct, fixed, delta, layout}
use Rattle.format.specs.Rows.{as_u64}
use Rattle.format.specs.Parse.{Parsed, end, got, refused, unless}
use Rattle.format.specs.Promises.{answer_of}

-- ---- VALUES

-- a row as a stored value: zigzagged if signed
unfoldable pub stored : Bool → ℕ → ℕ
stored true b = zigzagged b
stored false b = b

-- modulo 2^64
abbrev pub minus : ℕ → ℕ → ℕ
minus x y = (x + (two64 - y)) % two64

-- the step modulo 2^64 from x to y, in the direction given
abbrev pub step_to : Bool → ℕ → ℕ → ℕ
step_to falling x y = pick falling (minus x y) (minus y x)

-- the steps from each row to the next
unfoldable pub steps_of : Bool → List ℕ → List ℕ
steps_of falling [] = []
steps_of falling (x ∷ []) = []
steps_of falling (x ∷ y ∷ rs) = step_to falling x y ∷ steps_of falling (y ∷ rs)

-- the base delta is row 1 - row 0; one row writes delta 0
unfoldable pub base_delta : List ℕ → ℕ
base_delta rs = get_or (steps_of false rs) 0 0

-- read as i64, it is below 0
abbrev pub falls : ℕ → Bool
falls step = leb (2 ^ 63) step

-- what has to fit the width: a short repeat or direct row (zigzagged if signed), or a magnitude, the step in the base delta's direction
unfoldable pub values_of : Bool → Form → List ℕ → List ℕ
values_of signed ShortRepeat rs = map (stored signed) rs
values_of signed Direct rs = map (stored signed) rs
values_of signed FixedDelta rs = []
values_of signed PackedDelta rs = steps_of (falls (base_delta rs)) (drop 1 rs)

-- ---- WHAT IS WRITTEN: zero padding and shortest varints

abbrev pub padded : List ℕ → Block
padded vs = record { values = vs; pad = 0 }

abbrev pub first_of : Bool → List ℕ → ℕ
first_of signed rs = stored signed (get_or rs 0 0)

-- the width counts bytes for a short repeat, and is a code otherwise
unfoldable pub described : Bool → Form → ℕ → List ℕ → Description
described signed ShortRepeat w rs = short (length rs) (digits 256 w (first_of signed rs))
described signed Direct w rs = direct w (padded (values_of signed Direct rs))
described signed FixedDelta w rs = fixed (length rs) (shortest (first_of signed rs)) (shortest (zigzagged (base_delta rs)))
described signed PackedDelta w rs =
    delta w (shortest (first_of signed rs)) (shortest (zigzagged (base_delta rs))) (padded (values_of signed PackedDelta rs))

-- ---- WHEN IT IS REFUSED

-- every number of a list passes the test
unfoldable pub every : (ℕ → Bool) → List ℕ → Bool
every test [] = true
every test (x ∷ xs) = test x && every test xs

abbrev pub between : ℕ → ℕ → ℕ → Bool
between low high n = leb low n && leb n high

-- rows: short repeat 3 to 10; direct 1 to 512; fixed delta 1 to 512; packed delta 2 to 512
abbrev pub count_allowed : Form → ℕ → Bool
count_allowed ShortRepeat n = between 3 10 n
count_allowed Direct n = between 1 512 n
count_allowed FixedDelta n = between 1 512 n
count_allowed PackedDelta n = between 2 512 n

-- short repeat: equal rows; fixed delta: one step modulo 2^64
unfoldable pub have_form : Form → List ℕ → Bool
have_form ShortRepeat rs = every (λ x. eqb x (get_or rs 0 0)) rs
have_form Direct rs = true
have_form FixedDelta rs = every (λ s. eqb s (base_delta rs)) (steps_of false rs)
have_form PackedDelta rs = true

-- fixed delta takes code 0 only, packed delta the kept codes except 0, direct the kept codes, short repeat 1 to 8 bytes
abbrev pub width_allowed : Form → ℕ → Bool
width_allowed ShortRepeat w = between 1 8 w
width_allowed Direct w = is_kept w
width_allowed FixedDelta w = eqb w 0
width_allowed PackedDelta w = leb 1 w && is_kept w

-- the width in bits
abbrev pub bits_of : Form → ℕ → ℕ
bits_of ShortRepeat w = 8 * w
bits_of Direct w = width w
bits_of FixedDelta w = width w
bits_of PackedDelta w = width w

unfoldable pub fit_width : Bool → Form → ℕ → List ℕ → Bool
fit_width signed f w rs = every (λ x. ltb x (2 ^ bits_of f w)) (values_of signed f rs)

-- writing order: 9, 10, 11, 8
unfoldable pub writing : Bool → Form → ℕ → List ℕ → ℕ → Parsed Description
writing signed f w rs places =
    unless (not (count_allowed f (length rs))) 9
    (unless (not (have_form f rs && width_allowed f w)) 10
    (unless (not (fit_width signed f w rs)) 11
    (unless (ltb places (length (layout (described signed f w rs)))) 8
    (got (described signed f w rs) []))))

-- the rows are i64
abbrev pub AllI64 : List ℤ → Type 0
AllI64 [] = Unit {0}
AllI64 (z ∷ zs) = SFits w64 z × AllI64 zs

-- ---- THE PROMISE: the answer, whose place is 0 if it refuses (no field is cut), and every place of the caller's at exit

-- the run's bytes in the first places, the others as they were; a refused call leaves every place unchanged
abbrev pub bytes_in : List ℕ → Parsed Description → List ℕ
bytes_in out end = out
bytes_in out (got d rest) = layout d ++ drop (length (layout d)) out
bytes_in out (refused r) = out

pub record Written (rows : List ℤ) (signed : Bool) (f : Form) (w : ℕ) (out out' : List ℕ) (r : Answer) : Type 0 where
  pub answer : r ≡ answer_of 0 0 (writing signed f w (map as_u64 rows) (length out))
  pub places : out' ≡ bytes_in out (writing signed f w (map as_u64 rows) (length out))

-- ---- A run as the writer lays it down, by its form and width: a kept width, zero padding, shortest varints, and delta 0 for a single row.

pub data AsWritten : Form → ℕ → Description → Type 0 where
  short-repeat : {w count : ℕ} {value : List ℕ} → length value ≡ w → AsWritten ShortRepeat w (short count value)
  direct-run : {w : ℕ} {vs : List ℕ} → is_kept w ≡ true → AsWritten Direct w (direct w (padded vs))
  fixed-delta : {n : ℕ} {first base : List ℕ} → Shortest first → Shortest base → (n ≡ 1 → varint_value base ≡ 0)
      → AsWritten FixedDelta 0 (fixed n first base)
  packed-delta : {w : ℕ} {first base vs : List ℕ} → is_kept w ≡ true → Shortest first → Shortest base
      → AsWritten PackedDelta w (delta w first base (padded vs))
