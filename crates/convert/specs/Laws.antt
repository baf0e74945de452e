-- What the converter's definition says. Assumes nothing.
use Rattle.std.specs.Prelude.{◌≡◌, ◌≢◌, ◌↔◌, ℕ, ◌*◌, ◌<◌, ◌≤◌, Bool, true, false, List, [], map, length}
use Rattle.format.specs.declared.Form.TheVariants.{Direct, PackedDelta}
use Rattle.format.specs.Digits.{AllBelow}
use Rattle.format.specs.Fields.{Block, varint_value, shortest}
use Rattle.format.specs.Runs.{Description, direct, delta, Valid, AllValid, layout, joined}
use Rattle.format.specs.Rows.{as_u64, rows_of, i64_rows}
use Rattle.format.specs.Parse.{Reason, got}
use Rattle.format.specs.Streams.{whole, broken, read_all, total_rows, joined_rows, stream}
use Rattle.format.specs.Writing.{padded, writing}
use Rattle.format.specs.Kept.{next_kept}
use Rattle.std.specs.Prelude as Std
use Rattle.format.specs.declared.Refusal.{Refusal}
use Rattle.convert.specs.declared.Conversion.{Conversion}
use Rattle.convert.specs.Convert.{is_odd, rewritten, converted, converted_all, odd_runs, Outcome, result, own, eight, convert, Converts}

-- ---- ONE RUN

pub record Run (signed : Bool) (d : Description) : Type 0 where
  pub valid : Valid (converted signed d)
  pub rows : rows_of signed (converted signed d) ≡ rows_of signed d
  pub not-odd : is_odd (converted signed d) ≡ false
  -- a run of no odd width is the same run
  pub copied : is_odd d ≡ false → converted signed d ≡ d

abbrev pub RunsHold : Type 0
RunsHold = (signed : Bool) (d : Description) → Valid d → Run signed d

-- an altered run keeps its packed values, in zero padding, and its varints come out shortest
pub record Altered (signed : Bool) : Type 0 where
  pub direct-run : (code : ℕ) (k : Block) → Valid (direct code k)
      → rewritten signed (direct code k) ≡ direct (next_kept code) (padded k.values)
  pub delta-run : (code : ℕ) (first base : List ℕ) (k : Block) → Valid (delta code first base k)
      → rewritten signed (delta code first base k)
      ≡ delta (next_kept code) (shortest (varint_value first)) (shortest (varint_value base)) (padded k.values)

-- The writer accepts each altered run: of the rows, in the run's form, at the next kept width and in any room that holds it, it writes just
-- that run. (A run of another kind is not odd, and is not altered.)
pub record WriterAccepts (signed : Bool) (places : ℕ) : Type 0 where
  pub direct-run : (code : ℕ) (k : Block) → let d : Description = direct code k in
      Valid d → is_odd d ≡ true → length (layout (converted signed d)) ≤ places
      → writing signed Direct (next_kept code) (map as_u64 (i64_rows signed d)) places ≡ got (converted signed d) []
  pub delta-run : (code : ℕ) (first base : List ℕ) (k : Block) → let d : Description = delta code first base k in
      Valid d → is_odd d ≡ true → length (layout (converted signed d)) ≤ places
      → writing signed PackedDelta (next_kept code) (map as_u64 (i64_rows signed d)) places ≡ got (converted signed d) []

abbrev pub AlteredWritten : Type 0
AlteredWritten = (signed : Bool) (places : ℕ) → WriterAccepts signed places

-- ---- THE STREAM

pub record Stream (signed : Bool) (ds : List Description) : Type 0 where
  -- as many runs as before, in order, each of them the run or its altered one (`converted_all` is `map`)
  pub runs : length (converted_all signed ds) ≡ length ds
  pub valid : AllValid (converted_all signed ds)
  pub rows : joined_rows signed (converted_all signed ds) ≡ joined_rows signed ds
  pub none-odd : odd_runs (converted_all signed ds) ≡ 0
  -- a stream of no odd width comes out as it went in, and so does what was converted
  pub copied : odd_runs ds ≡ 0 → converted_all signed ds ≡ ds
  pub again : converted_all signed (converted_all signed ds) ≡ converted_all signed ds

abbrev pub StreamsHold : Type 0
StreamsHold = (signed : Bool) (ds : List Description) → AllValid ds → Stream signed ds

-- ---- THE CALL

-- each outcome, exactly when: the stream's own refusals, then 8
pub data Gives (signed : Bool) (bs : List ℕ) (places : ℕ) : Outcome → Type 0 where
  gives-own : (ds : List Description) (r : Reason) (rest : List ℕ) → stream bs ≡ broken ds r rest
      → Gives signed bs places (own r (length (joined ds)))
  gives-eight : (ds : List Description) → AllValid ds → bs ≡ joined ds → places < length (joined (converted_all signed ds))
      → Gives signed bs places eight
  gives-result : (ds : List Description) → AllValid ds → bs ≡ joined ds → length (joined (converted_all signed ds)) ≤ places
      → Gives signed bs places (result (odd_runs ds) (joined (converted_all signed ds)))

abbrev pub ConvertExactly : Type 0
ConvertExactly = (signed : Bool) (bs : List ℕ) (places : ℕ) (r : Outcome) → AllBelow 256 bs
    → (convert signed bs places ≡ r) ↔ Gives signed bs places r

-- what comes out reads whole, as the same rows, with as many runs and none of an odd width; converting again alters 0 and changes no byte
pub record Result (signed : Bool) (bs : List ℕ) (altered : ℕ) (out : List ℕ) : Type 0 where
  pub before : List Description
  pub read-before : (n : ℕ) → total_rows before ≤ n → read_all n bs ≡ whole before
  pub read-after : (n : ℕ) → total_rows before ≤ n → read_all n out ≡ whole (converted_all signed before)
  pub rows : joined_rows signed (converted_all signed before) ≡ joined_rows signed before
  pub none-odd : odd_runs (converted_all signed before) ≡ 0
  pub count : altered ≡ odd_runs before
  pub same_bytes : altered ≡ 0 → out ≡ bs
  pub again : (places : ℕ) → length out ≤ places → convert signed out places ≡ result 0 out

abbrev pub ResultsHold : Type 0
ResultsHold =
    (signed : Bool) (bs : List ℕ) (places altered : ℕ) (out : List ℕ) → AllBelow 256 bs → convert signed bs places ≡ result altered out
    → Result signed bs altered out

-- what comes out has at most twice the bytes that went in, so that twice the input's length is room for any: then 8 is never given
pub record Twice (signed : Bool) : Type 0 where
  pub run : (d : Description) → Valid d → length (layout (converted signed d)) ≤ 2 * length (layout d)
  pub runs : (ds : List Description) → AllValid ds → length (joined (converted_all signed ds)) ≤ 2 * length (joined ds)
  pub stream : (bs : List ℕ) (places altered : ℕ) (out : List ℕ) → AllBelow 256 bs → convert signed bs places ≡ result altered out
      → length out ≤ 2 * length bs
  pub never-8 : (bs : List ℕ) (places : ℕ) → AllBelow 256 bs → 2 * length bs ≤ places → convert signed bs places ≢ eight

abbrev pub TwiceHolds : Type 0
TwiceHolds = (signed : Bool) → Twice signed

-- the room that is enough: the stream's own refusals are those of any larger number of places, and never 8 for want of places
abbrev pub RoomEnough : Type 0
RoomEnough = (bs : List ℕ) (n : ℕ) → AllBelow 256 bs → 512 * length bs ≤ n → read_all n bs ≡ stream bs

-- any two outcomes that the promise allows are equal
abbrev pub ConvertDetermined : Type 0
ConvertDetermined =
    (signed : Bool) (bs out o o' : List ℕ) (r r' : Std.Result Conversion Refusal) → Converts signed bs out o r → Converts signed bs out o' r'
    → (r ≡ r') × (o ≡ o')
