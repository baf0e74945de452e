-- Each turn lays where one name begins and adds its length, so the sum is always where the next begins. Assumes nothing.
use mathlib.Core.Path.{◌≡◌, refl, ap, ◌∙◌}
use Prim.Native.Nat.{ℕ, zero, suc, ◌+◌, ◌<◌, ◌≤◌}
use native.Mathlib.Numerals.{add-one}
use native.Mathlib.Omega.{arith}
use mathlib.Core.List.{List, [], ◌∷◌, ◌++◌}
use lib.ListN.{length, take, drop, get_or, set, length-set, drop_of_length-le, get_or-append}
use lib.Seq.{drop-cons}
use lib.IntN.{ℤ, pos}
use Rattle.util.proofs.Grow.{grow, kept, filled}
use Rattle.labels.specs.Labels.{size, total, start_of, size_of}
use Rattle.labels.specs.Column.{offsets_from}
use Rattle.labels.proofs.Labels.{start-suc}

pub offsets-length : (sum : ℕ) (lengths : List ℤ) → length (offsets_from sum lengths) ≡ length lengths
unfolding offsets_from
offsets-length sum [] = refl
offsets-length sum (z ∷ lengths) = ap suc (offsets-length (sum + size z) lengths)

offset_at : (sum : ℕ) (lengths : List ℤ) (k : ℕ) → k < length lengths → get_or (offsets_from sum lengths) k 0 ≡ sum + start_of lengths k
unfolding offsets_from start_of total
offset_at sum [] k h = absurd (omega arith)
offset_at sum (z ∷ lengths) zero h = omega arith
offset_at sum (z ∷ lengths) (suc k) h = omega (arith, offset_at (sum + size z) lengths k (omega arith))

-- the first places hold where the names begin
pub begins-at : (lengths : List ℤ) (offsets rest : List ℕ) → offsets ≡ offsets_from 0 lengths ++ rest → (k : ℕ) → k < length lengths
    → get_or offsets k 0 ≡ start_of lengths k
begins-at lengths offsets rest e k h =
    let l : k < length (offsets_from 0 lengths) = omega (arith, offsets-length 0 lengths) in
    rw (e, get_or-append (offsets_from 0 lengths) rest 0 k l) (omega (arith, offset_at 0 lengths k h))

module _ (lengths : List ℤ) (out₀ : List ℕ) where
  -- i names have their offsets, and the next begins at the sum
  pub record OffsetsSoFar (out : List ℕ) (sum i : ℕ) : Type 0 where
    pub done : i ≤ length lengths
    pub long : length out ≡ length out₀
    pub sum_is : sum ≡ start_of lengths i
    pub made : take i out ++ offsets_from sum (drop i lengths) ≡ offsets_from 0 lengths
    pub rest : drop i out ≡ drop i out₀

  pub offsets-none : OffsetsSoFar out₀ 0 0
  unfolding start_of total
  offsets-none = record { done = omega arith; long = refl; sum_is = refl; made = refl; rest = refl }

  module _ {out : List ℕ} {sum i : ℕ} (w : OffsetsSoFar out sum i) (h : i < length lengths) where
    abbrev size-here : ℕ
    size-here = size (get_or lengths i (pos 0))

    pub next-sum : sum + size-here ≡ start_of lengths (i + 1)
    unfolding size_of
    next-sum = rw (add-one i, start-suc lengths i, w.sum_is)

    more : offsets_from sum (drop i lengths) ≡ sum ∷ offsets_from (sum + size-here) (drop (i + 1) lengths)
    unfolding offsets_from
    more = rw (add-one i, drop-cons lengths i (pos 0) h)

    pub offsets-next : length lengths ≤ length out₀ → OffsetsSoFar (set out i sum) (sum + size-here) (i + 1)
    offsets-next l = record {
      done = omega arith;
      long = length-set out i sum ∙ w.long;
      sum_is = next-sum;
      made = grow out i sum _ _ (omega (arith, w.long)) (rw more at w.made);
      rest = kept out out₀ i sum w.rest;
    }

  pub offsets-all : {out : List ℕ} {sum i : ℕ} → OffsetsSoFar out sum i → length lengths ≤ i
      → out ≡ offsets_from 0 lengths ++ drop (length lengths) out₀
  unfolding offsets_from
  offsets-all {out} {sum} {i} w h =
      let d : i ≡ length lengths = omega (arith, w.done) in
      filled out out₀ _ (length lengths) (rw d at (rw (drop_of_length-le lengths {i = i} h) at w.made)) (rw d at w.rest)
