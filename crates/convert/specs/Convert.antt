-- THE CONVERTER (FORMAT.md, "Converter"): each direct or packed delta run of an odd width is replaced by the writer's run of the same rows
-- at the next kept width, and every other run is copied.
-- Assumes nothing.
use Rattle.std.specs.Prelude.{◌≡◌, ℕ, ◌+◌, ◌-◌, Bool, false, not, List, [], ◌∷◌, ◌++◌, map, length, drop, ltb}
use Rattle.format.specs.declared.Form.TheVariants.{Direct, PackedDelta}
use Rattle.format.specs.Fields.{pick}
use Rattle.format.specs.Kept.{is_kept, next_kept}
use Rattle.format.specs.Runs.{Description, short, direct, fixed, delta, patched, joined}
use Rattle.format.specs.Rows.{rows_of}
use Rattle.format.specs.Parse.{Reason}
use Rattle.format.specs.Streams.{Reading, whole, broken, stream}
use Rattle.format.specs.Writing.{described}
use Rattle.format.specs.Answers.{refusing, refusal}
use Rattle.std.specs.Prelude.{Result}
use Rattle.format.specs.declared.Refusal.{Refusal}
use Rattle.convert.specs.declared.Conversion.{Conversion}
use Rattle.std.specs.Prelude.{Ok, Err}

-- ---- ONE RUN

-- a direct or packed delta run of an odd width
abbrev pub is_odd : Description → Bool
is_odd (short count value) = false
is_odd (direct code k) = not (is_kept code)
is_odd (fixed rows first base) = false
is_odd (delta code first base k) = not (is_kept code)
is_odd (patched code base pc gw k l) = false

-- the writer's run of the same rows at the next kept width
unfoldable pub rewritten : Bool → Description → Description
rewritten signed (short count value) = short count value
rewritten signed (direct code k) = described signed Direct (next_kept code) (rows_of signed (direct code k))
rewritten signed (fixed rows first base) = fixed rows first base
rewritten signed (delta code first base k) = described signed PackedDelta (next_kept code) (rows_of signed (delta code first base k))
rewritten signed (patched code base pc gw k l) = patched code base pc gw k l

-- each run of an odd width is replaced, and every other is copied
unfoldable pub converted : Bool → Description → Description
converted signed d = pick (is_odd d) (rewritten signed d) d

-- ---- THE STREAM

abbrev pub converted_all : Bool → List Description → List Description
converted_all signed ds = map (converted signed) ds

-- how many runs are altered
unfoldable pub odd_runs : List Description → ℕ
odd_runs [] = 0
odd_runs (d ∷ ds) = pick (is_odd d) 1 0 + odd_runs ds

-- the runs altered and the bytes; the stream's own refusal, with the byte where the refused run begins; or 8
pub data Outcome : Type 0 where
  result : ℕ → List ℕ → Outcome
  own : Reason → ℕ → Outcome
  eight : Outcome

abbrev pub outcome_of : Bool → ℕ → Reading → Outcome
outcome_of signed places (whole ds) =
    pick (ltb places (length (joined (converted_all signed ds)))) eight (result (odd_runs ds) (joined (converted_all signed ds)))
outcome_of signed places (broken ds r rest) = own r (length (joined ds))

-- the stream is read with room enough
unfoldable pub convert : Bool → List ℕ → ℕ → Outcome
convert signed bs places = outcome_of signed places (stream bs)

-- ---- THE PROMISE: the answer, and the lent bytes at exit: the runs in the
-- first of them, and what stood in the others; nothing is written on a refusal

abbrev pub outcome_bytes : List ℕ → Outcome → List ℕ
outcome_bytes out (result altered bytes) = bytes ++ drop (length bytes) out
outcome_bytes out (own r place) = out
outcome_bytes out eight = out

-- as the call tells it, of an input of so many bytes: the runs altered and how
-- many bytes; or the refusal, a stream's own with its place and its cut field
abbrev pub done : ℕ → ℕ → Result Conversion Refusal
done altered bytes = Ok (record { altered = altered; bytes = record { bytes = bytes } })

abbrev pub told_as : ℕ → Outcome → Result Conversion Refusal
told_as total (result altered bytes) = done altered (length bytes)
told_as total (own r place) = Err (refusal place (total - place) r)
told_as total eight = Err (refusing 8 0)

pub record Converts (signed : Bool) (bs out out' : List ℕ) (r : Result Conversion Refusal) : Type 0 where
  pub answer : r ≡ told_as (length bs) (convert signed bs (length out))
  pub places : out' ≡ outcome_bytes out (convert signed bs (length out))
