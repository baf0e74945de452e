-- What the reader of a batch comes to, by the two positions that it finds: `end p n` is the plain position after n values from p on, or
-- where the input is cut; `ahead p` are the values after p. A refused call leaves every place unchanged. Assumes nothing.
use Rattle.std.specs.Prelude.{◌≡◌, ℕ, ◌<◌, ◌≤◌, List, length, max, Result, Ok, Err}
use Rattle.format.specs.Answers.{cutting, refusing}
use Rattle.format.specs.declared.Refusal.{Refusal}
use Rattle.boolean_rle.specs.declared.Cut.{Cut}
use Rattle.boolean_rle.specs.declared.batch.Read.{Read}
use Rattle.boolean_rle.specs.Found.{Wrote}

pub data Walked {P : Type 0} (end : P → ℕ → Result P Cut) (ahead : P → List ℕ) (at : ℕ) (p : P) (n : ℕ) (out out' : List ℕ) (r : Result (Read P) Refusal) : Type 0 where
  cut_before : (f : Cut) → end p 0 ≡ Err f → out' ≡ out → r ≡ Err (cutting f.number at (max at f.field)) → Walked end ahead at p n out out' r
  cut_within : (b : P) (f : Cut) → end p 0 ≡ Ok b → end b n ≡ Err f → out' ≡ out → r ≡ Err (cutting f.number at (max at f.field))
      → Walked end ahead at p n out out' r
  no_room : (b q : P) → end p 0 ≡ Ok b → end b n ≡ Ok q → length out < n → out' ≡ out → r ≡ Err (refusing 8 at)
      → Walked end ahead at p n out out' r
  whole : (b q : P) → end p 0 ≡ Ok b → end b n ≡ Ok q → n ≤ length out → Wrote 0 n (ahead b) out out'
      → r ≡ Ok (record { rows = record { rows = n }; next = q }) → Walked end ahead at p n out out' r
