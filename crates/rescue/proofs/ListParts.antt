-- Laws of lists over any element: places filled with one element, and parts that the front of a list settles. Assumes nothing.
use mathlib.Core.Path.{◌≡◌, sym, ap, ◌∙◌}
use Prim.Native.Nat.{ℕ, zero, suc, ◌+◌, ◌-◌, ◌<◌}
use native.Mathlib.Numerals.{add-one}
use native.Mathlib.Omega.{arith}
use native.Mathlib.Decide.{dec_lt}
use native.Mathlib.Nat.{zero-add}
use mathlib.Core.List.{List, [], ◌∷◌, ◌++◌}
use lib.ListN.{length, take, drop, set, replicate, replicate-append-replicate}
use lib.Seq.{take-suc-set, take_all, take-append-le, take-nil}
use Rattle.batches.proofs.RowPositions.{take_past}

-- ---- places filled with one element, one a turn

module _ {A : Type 0} (a : A) where
  pub fill-next : (out : List A) (i : ℕ) → i < length out → take i out ≡ replicate i a → take (i + 1) (set out i a) ≡ replicate (i + 1) a
  fill-next out i h e =
      ap (λ (k : ℕ). take k (set out i a)) (add-one i) ∙ take-suc-set out i a h ∙ ap (λ (l : List A). l ++ (a ∷ [])) e
      ∙ replicate-append-replicate i 1 a

  pub fill-last : (out : List A) (i n : ℕ) → i ≡ length out → length out ≡ n → take i out ≡ replicate i a → out ≡ replicate n a
  fill-last out i n h l e = sym (take_all i out (omega arith)) ∙ e ∙ ap (λ (k : ℕ). replicate k a) (h ∙ l)

-- ---- parts of lists

module _ {A : Type 0} where
  drop-take : (j m : ℕ) (x : List A) → drop j (take (j + m) x) ≡ take m (drop j x)
  drop-take zero m x = ap (λ (k : ℕ). take k x) (zero-add m)
  drop-take (suc j) m [] = ap (λ (l : List A). drop (suc j) l) (take-nil (suc j + m)) ∙ sym (take-nil m)
  drop-take (suc j) m (a ∷ x) =
      let e : suc j + m ≡ suc (j + m) = omega arith in
      ap (λ (k : ℕ). drop (suc j) (take k (a ∷ x))) e ∙ drop-take j m x

  -- the m elements after the first j are settled by the first j + m
  pub part_same : (j m : ℕ) (x y : List A) → take (j + m) x ≡ take (j + m) y → take m (drop j x) ≡ take m (drop j y)
  part_same j m x y e = sym (drop-take j m x) ∙ ap (λ (l : List A). drop j l) e ∙ drop-take j m y

  pub front_same : (k : ℕ) (x y z : List A) → take (k - length x) y ≡ take (k - length x) z → take k (x ++ y) ≡ take k (x ++ z)
  front_same k x y z e = go (dec_lt k (length x))
    where
      go : Dec (k < length x) → take k (x ++ y) ≡ take k (x ++ z)
      go (yes l) = take-append-le k x y (omega arith) ∙ sym (take-append-le k x z (omega arith))
      go (no l) = take_past x y k (omega arith) ∙ ap (λ (l : List A). x ++ l) e ∙ sym (take_past x z k (omega arith))
