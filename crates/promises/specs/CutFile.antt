-- The user's fourth question: a file that is cut inside a run is never taken for a shorter good one.
-- Assumes nothing.
use Rattle.std.specs.Prelude.{◌≡◌, ◌≢◌, ℕ, ◌+◌, ◌<◌, ◌≤◌, Bool, List, ◌∷◌, ◌++◌, length, take, drop, ℤ}
use Rattle.format.specs.declared.Refusal.{Refusal}
use Rattle.format.specs.Answers.{Stream, refusing, cutting, broke_at}
use Rattle.format.specs.Runs.{Description, row_count, AllValid, layout, joined}
use Rattle.format.specs.Streams.{total_rows, joined_rows}
use Rattle.format.specs.Promises.{last_of, StreamRead}
use Rattle.promises.specs.WholeStreamExactly.{IsWhole}
use Rattle.promises.specs.Refusals.{CutNumber}

-- the first n bytes of the joined runs end inside a run: they are not all, and not those of the first k runs, whatever k is
abbrev pub EndInside : ℕ → List Description → Type 0
EndInside n ds = (n < length (joined ds)) × ((k : ℕ) → n ≢ length (joined (take k ds)))

-- the refusal of a run that begins at the byte `from`, where the input ends at the byte `to`: 1 in its header, else 6, 12, 13 or 14 with
-- the byte where the cut field begins, which lies in the run, at or before the end
pub data CutBetween (from to : ℕ) : Refusal → Type 0 where
  in-header : CutBetween from to (refusing 1 from)
  in_field : {n byte : ℕ} → CutNumber n → from < byte → byte ≤ to → CutBetween from to (cutting n from byte)

-- the run that the cut is in: some of its bytes are left, and not all
pub record Inside (n : ℕ) (ds : List Description) : Type 0 where
  pub before : List Description
  pub cut : Description
  pub later : List Description
  pub runs : ds ≡ before ++ (cut ∷ later)
  pub begun : length (joined before) < n
  pub ended : n < length (joined before) + length (layout cut)

-- with room for the rows of the runs before the cut one: its refusal, and exactly the rows of the runs before it, counted, and the last
-- of them
pub record Refuses {n : ℕ} {ds : List Description} (i : Inside n ds) (at : ℕ) (signed : Bool) (out out' : List ℤ) (r : Stream)
    : Type 0 where
  pub refusal : Refusal
  pub where-cut : CutBetween (at + length (joined i.before)) (at + n) refusal
  pub answer : r ≡ broke_at refusal (total_rows i.before) (length (joined i.before)) (last_of i.before)
  pub places : out' ≡ joined_rows signed i.before ++ drop (total_rows i.before) out

-- with less room: refusal 8 at the first run that lacks room, and exactly the rows of the runs before that one, counted, and the last
-- of them
pub record LacksRoom (ds : List Description) (at : ℕ) (signed : Bool) (out out' : List ℤ) (r : Stream) : Type 0 where
  pub before : List Description
  pub short : Description
  pub later : List Description
  pub runs : ds ≡ before ++ (short ∷ later)
  pub room : total_rows before ≤ length out
  pub lacks : length out < total_rows before + row_count short
  pub answer : r ≡ broke_at (refusing 8 (at + length (joined before))) (total_rows before) (length (joined before)) (last_of before)
  pub places : out' ≡ joined_rows signed before ++ drop (total_rows before) out

-- Of every stream of valid runs, of which the first n bytes are left, at any position and with any number of places: ..
pub record CutFile (at : ℕ) (signed : Bool) (out out' : List ℤ) (r : Stream) (n : ℕ) (ds : List Description) : Type 0 where
  -- .. the cut is in a run ..
  pub inside : Inside n ds
  -- .. which is refused where it begins, if the rows before it have room ..
  pub refuses : (i : Inside n ds) → total_rows i.before ≤ length out → Refuses i at signed out out' r
  -- .. else one of the runs before it is refused with 8 ..
  pub lacks-room : (i : Inside n ds) → length out < total_rows i.before → LacksRoom i.before at signed out out' r
  -- .. and the answer is never "whole stream read"
  pub never-whole : IsWhole r → ⊥

abbrev pub CutFileHolds : Type 0
CutFileHolds =
    (input : List ℕ) (at : ℕ) (signed : Bool) (out out' : List ℤ) (r : Stream) → StreamRead input at signed out out' r
    → (n : ℕ) (ds : List Description) → AllValid ds → EndInside n ds → drop at input ≡ take n (joined ds)
    → CutFile at signed out out' r n ds
