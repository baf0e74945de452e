-- Any two answers that a promise of this room allows are equal, but for `read_on`: its answer and the bytes that came are the system's, and
-- no contract names them before. Assumes nothing.
use Rattle.std.specs.Prelude.{◌≡◌, ℕ, ◌+◌, Bool, List, drop, replicate, ℤ}
use Rattle.blocks.specs.Blocks.{line_length, not_ready}

-- `line_end`, `is_not_ready`, `input_places`
abbrev pub LineEndDetermined : Type 0
LineEndDetermined = (input : List ℕ) (at r r' : ℕ) → r ≡ at + line_length (drop at input) → r' ≡ at + line_length (drop at input) → r ≡ r'

abbrev pub NotReadyDetermined : Type 0
NotReadyDetermined = (error : ℤ) (r r' : Bool) → r ≡ not_ready error → r' ≡ not_ready error → r ≡ r'

abbrev pub InputPlacesDetermined : Type 0
InputPlacesDetermined = (r r' : List ℕ) → r ≡ replicate 74337 0 → r' ≡ replicate 74337 0 → r ≡ r'
