-- BOOLEANS PACKED EIGHT TO A BYTE: how many of the first n are true, a byte at a time and only the bits asked for.
-- Assumes nothing.
use Rattle.std.specs.Prelude.{◌≡◌, ◌↔◌, ℕ, ◌+◌, ◌-◌, ◌*◌, ◌/◌, ◌^◌, ◌<◌, ◌≤◌, List, [], ◌∷◌, length, take, leb, ltb, eqb, Result, Ok, Err}
use Rattle.std.specs.Int.Count.{ones}
use Rattle.format.specs.Digits.{AllBelow}
use Rattle.format.specs.Fields.{pick, bytes_for}
use Rattle.format.specs.Booleans.{ByteRun, AllValidRuns, Needed, bits, joined_bytes, booleans_of}
use Rattle.format.specs.Answers.{cutting}
use Rattle.format.specs.declared.Refusal.{Refusal}

-- how many booleans are true
unfoldable pub trues : List ℕ → ℕ
trues [] = 0
trues (b ∷ bs) = pick (eqb b 0) 0 1 + trues bs

-- the ones of whole bytes; of the last, only its highest n bits
unfoldable pub ones_in : ℕ → List ℕ → ℕ
ones_in n [] = 0
ones_in n (b ∷ bs) = pick (leb 8 n) (ones b + ones_in (n - 8) bs) (ones (b / 2 ^ (8 - n)))

abbrev pub Count : Type 0
Count = Result ℕ Refusal

-- 6 for more booleans than the bytes hold; what is cut begins at byte 0
unfoldable pub count_true : ℕ → List ℕ → Count
count_true n bytes = pick (ltb (8 * length bytes) n) (Err (cutting 6 0 0)) (Ok (ones_in n bytes))

-- ---- ONES: the count is the number of true booleans among the first n

pub record Ones (n : ℕ) (bytes : List ℕ) : Type 0 where
  pub enough : n ≤ 8 * length bytes → count_true n bytes ≡ Ok (trues (take n (bits bytes)))
  pub six : (count_true n bytes ≡ Err (cutting 6 0 0)) ↔ (8 * length bytes < n)

abbrev pub OnesHold : Type 0
OnesHold = (n : ℕ) (bytes : List ℕ) → AllBelow 256 bytes → Ones n bytes

-- of the bytes that byte runs stand for, only as many runs as n booleans need: the true booleans that the boolean reader gives
abbrev pub BooleansCounted : Type 0
BooleansCounted =
    (n : ℕ) (ds : List ByteRun) → AllValidRuns ds → Needed (bytes_for n) ds → count_true n (joined_bytes ds) ≡ Ok (trues (booleans_of n ds))

-- any two answers are equal
abbrev pub CountDetermined : Type 0
CountDetermined = (bytes : List ℕ) (n : ℕ) (r r' : Count) → r ≡ count_true n bytes → r' ≡ count_true n bytes → r ≡ r'
