-- How many bytes a run has, without writing it. Assumes nothing.
use Rattle.std.specs.Prelude.{◌≡◌, ℕ, ◌≤◌, Bool, true, false, ◌&&◌, List, map, length, ℤ}
use Rattle.format.specs.declared.Form.{Form}
use Rattle.format.specs.declared.Kind.{Kind}
use Rattle.format.specs.Answers.{Answer, ran}
use Rattle.format.specs.declared.ByteOffset.{ByteOffset}
use Rattle.std.specs.Prelude.{Option, None, Some}
use Rattle.format.specs.Fields.{width}
use Rattle.format.specs.Runs.{Description, layout}
use Rattle.format.specs.Rows.{as_u64}
use Rattle.format.specs.Parse.{Parsed, end, got, refused}
use Rattle.format.specs.Writing.{have_form, fit_width, described, writing, Written}

-- the bytes of the run that is written; 0 if it is refused
abbrev pub size_in : Parsed Description → ℕ
size_in end = 0
size_in (got d rest) = length (layout d)
size_in (refused r) = 0

-- the same for rows whose count and width the form allows: 0 if they don't have the form or don't fit the width
pub data Sized (signed : Bool) (f : Form) (w : ℕ) (rs : List ℕ) : ℕ → Type 0 where
  unfit : have_form f rs && fit_width signed f w rs ≡ false → Sized signed f w rs 0
  fit : {r : ℕ} → have_form f rs ≡ true → fit_width signed f w rs ≡ true → r ≡ length (layout (described signed f w rs)) → 1 ≤ r
      → r ≤ 4356 → Sized signed f w rs r

-- what a measure answers: none if the rows don't have the form or don't fit the width, or else the bytes
abbrev pub Measured : Bool → Form → ℕ → List ℕ → Option ByteOffset → Type 0
Measured signed f w rs None = have_form f rs && fit_width signed f w rs ≡ false
Measured signed f w rs (Some b) = Sized signed f w rs b.bytes × (1 ≤ b.bytes)

-- its bytes, and 0 if there are none
abbrev pub bytes_of : Option ByteOffset → ℕ
bytes_of None = 0
bytes_of (Some b) = b.bytes

-- the run stands in its places: with the answer for it, it is written
abbrev pub Lays : List ℤ → Bool → Form → ℕ → Kind → ℕ → List ℕ → List ℕ → Type 0
Lays rows signed f w kind bytes out out' = (r : Answer) → r ≡ ran kind (width w) (length rows) bytes → Written rows signed f w out out' r

-- any two answers that the promise of `size_of_run` allows are equal: 4,356 places are room for any run
abbrev pub SizeDetermined : Type 0
SizeDetermined =
    (rows : List ℤ) (signed : Bool) (f : Form) (w r r' : ℕ)
    → r ≡ size_in (writing signed f w (map as_u64 rows) 4356) → r' ≡ size_in (writing signed f w (map as_u64 rows) 4356) → r ≡ r'
