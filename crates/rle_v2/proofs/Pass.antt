-- The turns of a loop that makes a pass over its places, once for every pass; and what each reader's pass makes of the patterns it finds.
-- Assumes nothing.
use mathlib.Core.Path.{◌≡◌, refl, sym, ap, ◌∙◌}
use Prim.Native.Nat.{ℕ, zero, suc, ◌+◌, ◌-◌, ◌*◌, ◌^◌, ◌<◌, ◌≤◌}
use native.Mathlib.Nat.{zero-mul, add-zero}
use native.Mathlib.Numerals.{add-one}
use native.Mathlib.Omega.{arith}
use mathlib.Core.Bool.{Bool, true, false}
use mathlib.Core.List.{List, [], ◌∷◌, ◌++◌, map}
use lib.ListN.{length, take, drop, get_or, set, length-set}
use Rattle.format.proofs.Common.{append-nil, drop_of_length-le, take_all, negsuc, pos, w64, SFits, to_z, of_z, to_z-of_z}
use lib.Seq.{drop-cons, get_or-drop, take_at, drop_at}
use lib.IntN.{ℤ}
use Rattle.format.specs.Digits.{AllBelow}
use Rattle.format.specs.Fields.{two64, zigzag, row}
use Rattle.format.specs.Rows as Rows
use Rattle.format.specs.Rows.{plus, as_i64, as_u64}
use Rattle.format.proofs.Patterns.{as-back, as-to_z}
use Rattle.util.proofs.Grow.{grow, kept}
use Rattle.rle_v2.specs.Pass.{pass, stepped, unzigzagged, decoded, based, moved, summed}

-- ---- the loop: the first i places are made anew, s is carried to the next

module _ {S A : Type 0} (new : S → A → A) (on : S → A → S) (first : S) (out₀ : List A) where
  pub record Turn (out : List A) (i : ℕ) (s : S) : Type 0 where
    pub long : length out ≡ length out₀
    pub made : take i out ++ pass new on s (drop i out₀) ≡ pass new on first out₀
    pub rest : drop i out ≡ drop i out₀

  pub turn-first : Turn out₀ 0 first
  turn-first = record { long = refl; made = refl; rest = refl }

  pub turn-next : (out : List A) (i : ℕ) (s : S) (d a : A) (s' : S) → Turn out i s → i < length out₀
      → a ≡ new s (get_or out i d) → s' ≡ on s (get_or out i d) → Turn (set out i a) (i + 1) s'
  unfolding pass
  turn-next out i s d a s' t h ea es =
      let z : i + 0 ≡ i = omega arith in
      let g : get_or out i d ≡ get_or out₀ i d
      = rw z at (sym (get_or-drop i out 0 d) ∙ ap (λ (x : List A). get_or x 0 d) t.rest ∙ get_or-drop i out₀ 0 d) in
      let b : i < length out = omega (arith, t.long) in
      let m : take i out ++ (a ∷ pass new on s' (drop (i + 1) out₀)) ≡ pass new on first out₀ = rw (ea, es, g, add-one) (rw (drop-cons out₀ i d h) at t.made) in
      record { long = length-set out i a ∙ t.long; made = grow out i a _ _ b m; rest = kept out out₀ i a t.rest }

  pub turn_last : (out : List A) (i : ℕ) (s : S) → Turn out i s → length out₀ ≤ i → out ≡ pass new on first out₀
  unfolding pass
  turn_last out i s t h =
      let z : length out ≤ i = omega (arith, t.long) in
      let e : drop i out₀ ≡ [] = drop_of_length-le out₀ h in
      rw (take_all i out z, e, append-nil) at t.made

-- ---- an i64 that the machine writes, and one that it reads

pub written : (z : ℤ) (b : ℕ) → b < two64 → SFits w64 z → z ≡ to_z w64 b → to_z w64 (of_z w64 z) ≡ as_i64 b
written z b h f e = to_z-of_z {w = w64} f ∙ e ∙ as-to_z b h

pub bits_of : (z : ℤ) (n : ℕ) → SFits w64 z → n ≡ of_z w64 (to_z w64 (of_z w64 z)) → n ≡ as_u64 z
bits_of (pos k) n f e = e ∙ ap (of_z w64) (to_z-of_z {w = w64} f)
bits_of (negsuc k) n f e =
    let m : two64 - suc k ≡ two64 - 1 - k = omega arith in
    e ∙ ap (of_z w64) (to_z-of_z {w = w64} f) ∙ m

-- ---- what each pass makes of patterns

pub stepped-is : (first step n : ℕ) (out : List ℤ) → n ≤ length out → stepped first step (take n out) ≡ map as_i64 (Rows.steps n first step)
unfolding pass Rows.steps
stepped-is first step zero out h = refl
stepped-is first step (suc n) [] h = absurd (omega arith)
stepped-is first step (suc n) (z ∷ out) h = ap (λ (l : List ℤ). as_i64 first ∷ l) (stepped-is (plus first step) step n out (omega arith))

pub unzigzagged-is : (vs : List ℕ) → AllBelow two64 vs → unzigzagged (map as_i64 vs) ≡ map as_i64 (map zigzag vs)
unfolding pass
unzigzagged-is [] h = refl
unzigzagged-is (v ∷ vs) h = rw (as-back v h.0) (ap (λ (l : List ℤ). as_i64 (zigzag v) ∷ l) (unzigzagged-is vs h.1))

pub decoded-is : (signed : Bool) (vs : List ℕ) → AllBelow two64 vs → decoded signed (map as_i64 vs) ≡ map as_i64 (map (row signed) vs)
unfolding row
decoded-is true vs h = unzigzagged-is vs h
decoded-is false vs h = ap (map as_i64) (sym (map_same vs))
  where
    map_same : (l : List ℕ) → map (λ u. u) l ≡ l
    map_same [] = refl
    map_same (x ∷ l) = ap (λ (t : List ℕ). x ∷ t) (map_same l)

-- no patch yet
pub based-is : (base w p : ℕ) (vs : List ℕ) → AllBelow two64 vs → based base (map as_i64 vs) ≡ map as_i64 (Rows.patched_rows base w [] p vs)
unfolding pass Rows.patched_rows Rows.patch_at
based-is base w p [] h = refl
based-is base w p (v ∷ vs) h =
    let z : v + 0 * 2 ^ w ≡ v = rw (zero-mul, add-zero) in
    rw (as-back v h.0, z) (ap (λ (l : List ℤ). as_i64 (plus base v) ∷ l) (based-is base w (suc p) vs h.1))

pub summed-is : (falling : Bool) (x : ℕ) (ms : List ℕ) → AllBelow two64 ms → summed falling x (map as_i64 ms) ≡ map as_i64 (Rows.walk falling x ms)
unfolding pass Rows.walk
summed-is falling x [] h = refl
summed-is falling x (m ∷ ms) h = rw (as-back m h.0) (ap (λ (l : List ℤ). as_i64 (moved falling x m) ∷ l) (summed-is falling (moved falling x m) ms h.1))

-- a pass over what was just laid down in the first n places
pub then-pass : {A : Type 0} (f : List A → List A) (vs out one two : List A) (n : ℕ) → length vs ≡ n → one ≡ vs ++ drop n out → two ≡ f (take n one)
    → two ++ drop n one ≡ f vs ++ drop n out
then-pass f vs out one two n l e g = rw (g, e, take_at vs (drop n out) n l, drop_at vs (drop n out) n l)
