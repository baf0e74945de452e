-- Demand 3: the stream reader answers "whole stream read" exactly of joined layouts of valid run descriptions, with their joined rows, and
-- the descriptions are the only ones. Stated of the promise of the stream reader, for every input of bytes, position, flag and places.
-- Assumes nothing.
use Rattle.std.specs.Prelude.{◌≡◌, ◌↔◌, ℕ, ◌≤◌, Bool, List, [], ◌∷◌, ◌++◌, length, drop, ℤ, Some}
use Rattle.format.specs.Answers.{LastRun, Stream, read_whole}
use Rattle.format.specs.Digits.{AllBelow}
use Rattle.format.specs.Runs.{Description, AllValid, joined}
use Rattle.format.specs.Streams.{total_rows, joined_rows}
use Rattle.format.specs.Promises.{run_of, last_of, StreamRead}

-- the bytes are the layouts of valid run descriptions, joined
pub record LaidOut (bs : List ℕ) (ds : List Description) : Type 0 where
  pub valid : AllValid ds
  pub bytes : bs ≡ joined ds

-- the answer is "whole stream read"
abbrev pub IsWhole : Stream → Type 0
IsWhole r = (rows bytes : ℕ) × (last : LastRun) × (r ≡ read_whole rows bytes last)

pub record WholeStreamExactly (bs : List ℕ) (signed : Bool) (out out' : List ℤ) (r : Stream) : Type 0 where
  -- "whole stream read" exactly when the bytes are such a list, with room for all its rows ..
  pub exactly : IsWhole r ↔ ((ds : List Description) × LaidOut bs ds × (total_rows ds ≤ length out))
  -- .. whose rows and bytes are then those counted, and whose last run is the one named (none of no runs) ..
  pub counts : (ds : List Description) → LaidOut bs ds → total_rows ds ≤ length out → r ≡ read_whole (total_rows ds) (length bs) (last_of ds)
  pub last-run : (before : List Description) (d : Description) → LaidOut bs (before ++ d ∷ []) → total_rows (before ++ d ∷ []) ≤ length out
      → r ≡ read_whole (total_rows (before ++ d ∷ [])) (length bs) (Some (run_of d))
  -- .. the rows standing joined in the first places and the other places unchanged ..
  pub rows : (ds : List Description) → LaidOut bs ds → total_rows ds ≤ length out → out' ≡ joined_rows signed ds ++ drop (total_rows ds) out
  -- .. and no second list has these bytes
  pub only : (ds ds' : List Description) → LaidOut bs ds → LaidOut bs ds' → ds ≡ ds'

abbrev pub WholeStreamExactlyHolds : Type 0
WholeStreamExactlyHolds =
    (input : List ℕ) → AllBelow 256 input → (at : ℕ) (signed : Bool) (out out' : List ℤ) (r : Stream)
    → StreamRead input at signed out out' r
    → WholeStreamExactly (drop at input) signed out out' r
