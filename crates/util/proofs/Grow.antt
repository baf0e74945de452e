-- Lists that code fills, over any element type: one element a turn (`grow`, `kept`, `filled`), and by a part that was lent and came back.
-- Assumes nothing.
use Rattle.format.proofs.Common.{ℕ, ◌+◌, ◌-◌, ◌<◌, ◌≤◌, ◌≡◌, sym, ◌∙◌, ap, List, [], ◌∷◌, ◌++◌, append_assoc, append-nil, add-one, arith}
use Rattle.format.proofs.Common.{length, take, drop, set, length-append, length-drop, drop_of_length-le, take-append-drop, take-suc-set}
use Rattle.format.proofs.Common.{drop-set-lt, drop-drop, take_at, drop_at, take_all, length-take-le}

module _ {A : Type 0} where
  -- ---- a loop that fills from the front: what stands so far, then what is still to come, is the whole

  pub grow : (out : List A) (i : ℕ) (a : A) (rest whole : List A) → i < length out → take i out ++ (a ∷ rest) ≡ whole
      → take (i + 1) (set out i a) ++ rest ≡ whole
  grow out i a rest whole h e = rw (add-one, take-suc-set out i a h, append_assoc) e

  pub kept : (out out₀ : List A) (i : ℕ) (a : A) → drop i out ≡ drop i out₀ → drop (i + 1) (set out i a) ≡ drop (i + 1) out₀
  kept out out₀ i a e =
      drop-set-lt (i + 1) out i a (omega arith) ∙ sym (drop-drop 1 i out) ∙ ap (λ (l : List A). drop 1 l) e ∙ drop-drop 1 i out₀

  pub filled : (out out₀ whole : List A) (n : ℕ) → take n out ++ [] ≡ whole → drop n out ≡ drop n out₀ → out ≡ whole ++ drop n out₀
  filled out out₀ whole n e d = rw (← e, append-nil, ← d) (sym (take-append-drop n out))

  -- ---- a part from k to the end, lent to a call

  -- as the borrow checker writes it
  pub rest-is : (l : List A) (k : ℕ) → take (length l - k) (drop k l) ≡ drop k l
  rest-is l k = take_all (length l - k) (drop k l) (rw length-drop (omega arith))

  -- the list after the part came back as L: R stands at k, and the rest is as it was
  pub back_is : (out L R : List A) (k m : ℕ) → L ≡ R ++ drop m (drop k out)
      → take k out ++ (L ++ drop (length out - k) (drop k out)) ≡ (take k out ++ R) ++ drop (k + m) out
  back_is out L R k m e =
      let z : drop (length out - k) (drop k out) ≡ [] = drop_of_length-le (drop k out) {i = length out - k} (rw length-drop (omega arith)) in
      rw (z, append-nil, e, drop-drop, append_assoc)

  -- where nothing was written, the list is as it was
  pub same-is : (out : List A) (k : ℕ) → (take k out ++ []) ++ drop (k + 0) out ≡ out
  same-is out k =
      let z : k + 0 ≡ k = omega arith in
      rw (append-nil, z, take-append-drop)

  -- ---- a piece of k elements written at i: what stands before its end, what stands after it, and how long the list is

  module _ (out out' piece : List A) (i k : ℕ) (h : i ≤ length out) (p : length piece ≡ k) (e : out' ≡ (take i out ++ piece) ++ drop (i + k) out) where
    front_length : length (take i out ++ piece) ≡ i + k
    front_length = simp (length-append, length-take-le i out h, p)

    pub front-is : take (i + k) out' ≡ take i out ++ piece
    front-is = ap (λ (l : List A). take (i + k) l) e ∙ take_at (take i out ++ piece) (drop (i + k) out) (i + k) front_length

    pub kept_by : (out₀ : List A) → drop i out ≡ drop i out₀ → drop (i + k) out' ≡ drop (i + k) out₀
    kept_by out₀ d =
        ap (λ (l : List A). drop (i + k) l) e
        ∙ drop_at (take i out ++ piece) (drop (i + k) out) (i + k) front_length
        ∙ sym (drop-drop k i out)
        ∙ ap (λ (l : List A). drop k l) d
        ∙ drop-drop k i out₀

    pub long-by : i + k ≤ length out → length out' ≡ length out
    long-by q = ap length e ∙ simp (length-append, length-take-le i out h, p, length-drop) (omega arith)
