-- The number that comes back of an answer in words: the refusal's, which is word 1. Assumes nothing.
use Rattle.std.specs.Prelude.{ℕ, List, get_or}

abbrev pub number_in : {B : Type 0} → (B → List ℕ) → B → ℕ
number_in words_of b = get_or (words_of b) 1 0
