-- A pass over places: each is made anew from what it holds and from what was carried to it, and something is carried on.
-- Assumes nothing.
use Rattle.std.specs.Prelude.{ℕ, ◌^◌, Bool, true, false, List, [], ◌∷◌, ℤ, leb}
use Rattle.format.specs.Fields.{pick, negative, zigzag}
use Rattle.format.specs.Rows.{plus, as_i64, as_u64}

unfoldable pub pass : {S A : Type 0} → (S → A → A) → (S → A → S) → S → List A → List A
pass new on s [] = []
pass new on s (a ∷ rest) = new s a ∷ pass new on (on s a) rest

-- ---- the passes of the readers

-- rows from the first on, each the one before it plus the step: what stood there does not count
abbrev pub stepped : ℕ → ℕ → List ℤ → List ℤ
stepped first step out = pass (λ x z. as_i64 x) (λ x z. plus x step) first out

-- each value zigzag decoded
abbrev pub unzigzagged : List ℤ → List ℤ
unzigzagged out = pass (λ (x : ℕ) z. as_i64 (zigzag (as_u64 z))) (λ x z. x) 0 out

-- if signed
abbrev pub decoded : Bool → List ℤ → List ℤ
decoded true out = unzigzagged out
decoded false out = out

-- each value with the base added
abbrev pub based : ℕ → List ℤ → List ℤ
based base out = pass (λ (x : ℕ) z. as_i64 (plus x (as_u64 z))) (λ x z. x) base out

-- the row after x, by a magnitude: subtracted when falling, and added otherwise
abbrev pub moved : Bool → ℕ → ℕ → ℕ
moved falling x m = plus x (pick falling (negative m) m)

-- each magnitude summed up from the row before the first of them
abbrev pub summed : Bool → ℕ → List ℤ → List ℤ
summed falling x out = pass (λ y z. as_i64 (moved falling y (as_u64 z))) (λ y z. moved falling y (as_u64 z)) x out

-- a packed delta's rows: the first, the second, and the magnitudes summed up from it, falling where the base delta is below 0
abbrev pub laid : ℕ → ℕ → List ℤ → List ℤ
laid first step ms = as_i64 first ∷ as_i64 (plus first step) ∷ summed (leb (2 ^ 63) step) (plus first step) ms
