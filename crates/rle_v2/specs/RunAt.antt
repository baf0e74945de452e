-- The run at a place, by the kind that its first byte names: a kind's definition takes that byte and all that follows it. Assumes nothing.
use Rattle.std.specs.Prelude.{◌≡◌, ℕ, ◌+◌, ◌-◌, Bool, List, length, get_or, drop, ℤ, Err}
use Rattle.format.specs.Runs.{Description}
use Rattle.format.specs.Parse.{Parsed}
use Rattle.format.specs.Promises.{answer_of, Gives}
use Rattle.format.specs.Answers.{Answer}
use Rattle.format.specs.declared.Refusal.{Refusal}

abbrev pub run_at : (ℕ → List ℕ → Parsed Description) → List ℕ → ℕ → Parsed Description
run_at kind s at = kind (get_or s at 0) (drop (at + 1) s)

-- what its measure answers
abbrev pub MeasuredAs : (ℕ → List ℕ → Parsed Description) → List ℕ → ℕ → Answer → Type 0
MeasuredAs kind s at r = r ≡ answer_of at (length s - at) (run_at kind s at)

-- what its reader answers, and leaves in the places
abbrev pub ReadAs : (ℕ → List ℕ → Parsed Description) → List ℕ → ℕ → Bool → List ℤ → List ℤ → Answer → Type 0
ReadAs kind s at signed out out' r = Gives at (length s - at) signed (run_at kind s at) out out' r

-- reading gives m, and the run at `at` is refused
abbrev pub Refuses : List ℕ → ℕ → Parsed Description → Refusal → Type 0
Refuses s at m f = Err f ≡ answer_of at (length s - at) m
