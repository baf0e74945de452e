-- The lengths add up exactly if those that are left do, with the sum so far; so a name that is found lies within the block. Assumes
-- nothing.
use mathlib.Core.Path.{◌≡◌, refl, sym, ap, ◌∙◌}
use Prim.Native.Nat.{ℕ, zero, suc, ◌+◌, ◌<◌, ◌≤◌}
use mathlib.Core.Logic.{◌≢◌}
use native.Mathlib.Omega.{arith}
use native.Mathlib.Decide.{dec_lt}
use mathlib.Core.Bool.{Bool, true, false, ◌&&◌, and-false}
use mathlib.Core.List.{List, [], ◌∷◌}
use lib.ListN.{length, drop, get_or}
use lib.Seq.{drop-cons}
use lib.Dec.{T, eqb, ltb}
use lib.IntN.{ℤ, pos, negsuc, nat_abs}
use lib.Signed.{non_neg, yes_non_neg}
use mir.Syntax.{w64}
use mir.Val.{Fits, SFits, to_z, of_z}
use mir.Facts.{to_z-of_z}
use borrow.Author.Tests.{ne_eqb, eq-eqb, lt-ltb, le-ltb, le-leb, lt-leb}
use Rattle.format.specs.Fields.{pick}
use Rattle.format.proofs.Tests.{never}
use Rattle.std.specs.Prelude.{Option, Some, None, Ok}
use Rattle.labels.specs.Whole.{whole_of, whole_at}
use Rattle.labels.specs.Labels.{size, total, none_below, add_up_to, add_up, start_of, size_of, entry_of, name_at, fallback_of}
use Rattle.labels.specs.Labels.{refused_with, numbered, named, label}
use Rattle.labels.specs.declared.Label as Label
use Rattle.labels.specs.declared.Name.{Name}
use Rattle.labels.specs.Laws.{NoneBelow, Said, the-name}
use Rattle.labels.proofs.Labels.{labels-exactly, sums_none, adds, adds_total, total-is, size_is, start-suc, start-le}

-- ---- the lengths

-- whether the lengths that are left add up with the sum so far
unfoldable pub left_over : List ℤ → ℕ → ℕ → Bool
left_over zs sum n = none_below zs && eqb (sum + total zs) n

pub begin : (l : List ℤ) (n : ℕ) → add_up_to l n ≡ left_over l 0 n
unfolding add_up_to left_over
begin l n = let s : 0 + total l ≡ total l = omega arith in rw s

-- an entry below 0 spoils them all ..
spoilt : (z : ℤ) (zs : List ℤ) (sum n : ℕ) → whole_of z ≡ None → left_over (z ∷ zs) sum n ≡ false
unfolding left_over none_below
spoilt (pos k) zs sum n e = never (cc)
spoilt (negsuc k) zs sum n e = refl

-- .. and one that passes what is left of the block too
passed : (z : ℤ) (zs : List ℤ) (sum n k : ℕ) → whole_of z ≡ Some k → n < sum + k → left_over (z ∷ zs) sum n ≡ false
unfolding left_over none_below total
passed (negsuc j) zs sum n k e h = never (cc)
passed (pos j) zs sum n k e h = let y : j ≡ k = cc in rw (ne_eqb (sum + (j + total zs)) n (λ f. omega arith)) (and-false (none_below zs))

step : (z : ℤ) (zs : List ℤ) (sum n k : ℕ) → whole_of z ≡ Some k → left_over (z ∷ zs) sum n ≡ left_over zs (sum + k) n
unfolding left_over none_below total
step (negsuc j) zs sum n k e = never (cc)
step (pos j) zs sum n k e =
    let y : j ≡ k = cc in
    let s : sum + (j + total zs) ≡ sum + k + total zs = omega arith in
    rw s

module _ (l : List ℤ) (i : ℕ) (h : i < length l) (sum n : ℕ) where
  at_next : left_over (drop i l) sum n ≡ left_over (get_or l i (pos 0) ∷ drop (suc i) l) sum n
  at_next = ap (λ (r : List ℤ). left_over r sum n) (drop-cons l i (pos 0) h)

  pub left-spoilt : whole_of (get_or l i (pos 0)) ≡ None → left_over (drop i l) sum n ≡ false
  left-spoilt e = at_next ∙ spoilt (get_or l i (pos 0)) (drop (suc i) l) sum n e

  pub left_passed : (k : ℕ) → whole_of (get_or l i (pos 0)) ≡ Some k → n < sum + k → left_over (drop i l) sum n ≡ false
  left_passed k e o = at_next ∙ passed (get_or l i (pos 0)) (drop (suc i) l) sum n k e o

  pub left_step : (k : ℕ) → whole_of (get_or l i (pos 0)) ≡ Some k → left_over (drop i l) sum n ≡ left_over (drop (suc i) l) (sum + k) n
  left_step k e = at_next ∙ step (get_or l i (pos 0)) (drop (suc i) l) sum n k e

pub left-none : (l : List ℤ) (i sum n : ℕ) → length l ≤ i → left_over (drop i l) sum n ≡ eqb sum n
unfolding left_over none_below total
left-none [] zero sum n h = let s : sum + 0 ≡ sum = omega arith in rw s
left-none [] (suc i) sum n h = let s : sum + 0 ≡ sum = omega arith in rw s
left-none (z ∷ l) zero sum n h = absurd (omega arith)
left-none (z ∷ l) (suc i) sum n h = left-none l i sum n (omega arith)

-- of lengths that add up, the sum of the first is within the block
pub adds-start : (l : List ℤ) (n k : ℕ) → add_up_to l n ≡ true → start_of l k ≤ n
adds-start l n k a = omega (arith, start-le l k, adds_total l n a)

-- a number of a column, as the code finds it
pub whole-natural : (z : ℤ) (k : ℕ) → whole_of z ≡ Some k → size z ≡ k
whole-natural (pos j) k e = cc
whole-natural (negsuc j) k e = never (cc)

pub size-at : (l : List ℤ) (i k : ℕ) → whole_of (get_or l i (pos 0)) ≡ Some k → size_of l i ≡ k
unfolding size_of
size-at l i k e = whole-natural (get_or l i (pos 0)) k e

-- of lengths that add up, each is the size that it has
pub size_in : (l : List ℤ) (n i : ℕ) → add_up_to l n ≡ true → pos (size_of l i) ≡ get_or l i (pos 0)
size_in l n i a = size_is l i (sums_none l n a)

-- an entry as the code reads it, and as it casts it where it is not below 0
pub as_read : (z : ℤ) {r x : Option ℕ} → SFits w64 z → r ≡ whole_of (to_z w64 (of_z w64 z)) → r ≡ x → whole_of z ≡ x
as_read z f e q = rw (to_z-of_z {w = w64} f) at (sym e ∙ q)

pub cast_is : (z : ℤ) {n : ℕ} → SFits w64 z → pos n ≡ z → nat_abs (to_z w64 (of_z w64 z)) ≡ n
cast_is z f e = rw (to_z-of_z {w = w64} f, sym e)

pub cast_fits : (z : ℤ) {n : ℕ} → SFits w64 z → pos n ≡ z → T (non_neg (to_z w64 (of_z w64 z))) × Fits w64 (nat_abs (to_z w64 (of_z w64 z)))
cast_fits z {n} f e = let g : SFits w64 (pos n) = rw e f in rw (to_z-of_z {w = w64} f, sym e) (tt, omega (arith, g))

-- ---- the number that stands in a row's entry

-- an entry that is found is there ..
pub whole-found : (l : List ℤ) (i k : ℕ) → whole_at l i ≡ Some k → (i < length l) × (whole_of (get_or l i (pos 0)) ≡ Some k)
whole-found [] zero k e = never (cc)
whole-found [] (suc i) k e = never (cc)
whole-found (z ∷ l) zero k e = (omega arith, e)
whole-found (z ∷ l) (suc i) k e = let r = whole-found l i k e in (omega (arith, r.0), r.1)

-- .. and of lengths that add up, one that is not found is missing
pub whole-missing : (l : List ℤ) (i : ℕ) → NoneBelow l → whole_at l i ≡ None → length l ≤ i
whole-missing [] i n e = omega arith
whole-missing (pos k ∷ l) zero n e = never (cc)
whole-missing (negsuc k ∷ l) zero n e = absurd (yes_non_neg n.0)
whole-missing (z ∷ l) (suc i) n e = omega (arith, whole-missing l i n.1 e)

module _ (lengths numbers : List ℤ) (at : ℕ) where
  pub missing : whole_at numbers at ≡ None → named lengths numbers at ≡ refused_with 19
  unfolding named numbered
  missing e = go (dec_lt at (length numbers))
    where
      by : (z : ℤ) → whole_of z ≡ None → numbered lengths z ≡ refused_with 19
      by (pos k) e = never (cc)
      by (negsuc k) e = refl

      go : Dec (at < length numbers) → named lengths numbers at ≡ refused_with 19
      go (yes h) = rw (lt-ltb at (length numbers) h) (by (get_or numbers at (pos 0)) (rw (drop-cons numbers at (pos 0) h) at e))
      go (no h) = rw (le-ltb at (length numbers) (omega arith))

  as-pick : (k : ℕ) → whole_at numbers at ≡ Some k
      → named lengths numbers at ≡ pick (ltb k (length lengths)) (name_at (start_of lengths k) (size_of lengths k)) (refused_with 19)
  unfolding named numbered
  as-pick k e = let f = whole-found numbers at k e in rw (lt-ltb at (length numbers) f.0) (go (get_or numbers at (pos 0)) f.1)
    where
      go : (z : ℤ) → whole_of z ≡ Some k → numbered lengths z ≡ pick (ltb k (length lengths)) (name_at (start_of lengths k) (size_of lengths k)) (refused_with 19)
      go (pos j) e = let y : j ≡ k = cc in rw y
      go (negsuc j) e = never (cc)

  pub outside : (block : List ℕ) (k : ℕ) → add_up lengths block ≡ true → whole_at numbers at ≡ Some k → whole_at lengths k ≡ None
      → named lengths numbers at ≡ refused_with 19
  outside block k a e o = as-pick k e ∙ rw (le-ltb k (length lengths) (whole-missing lengths k (adds lengths block a).none_below o))

  pub inside : (k n : ℕ) → whole_at numbers at ≡ Some k → whole_at lengths k ≡ Some n
      → named lengths numbers at ≡ name_at (start_of lengths k) n
  inside k n e o = let f = whole-found lengths k n o in
      as-pick k e ∙ rw (lt-ltb k (length lengths) f.0, size-at lengths k n f.1)

-- ---- the answer, by what the code tests

module _ (lengths numbers : List ℤ) (flags block fall : List ℕ) (row : ℕ) where
  pub no_row : length flags ≤ row → label lengths numbers flags block fall row ≡ refused_with 16
  unfolding label
  no_row h = rw (le-leb (length flags) row h)

  module _ (h : row < length flags) where
    pub not-added : add_up lengths block ≡ false → label lengths numbers flags block fall row ≡ refused_with 18
    unfolding label
    not-added a = rw (lt-leb (length flags) row h, a)

    module _ (a : add_up lengths block ≡ true) where
      pub without : get_or flags row 0 ≡ 0 → label lengths numbers flags block fall row ≡ fallback_of (length fall)
      unfolding label
      without n = rw (lt-leb (length flags) row h, a, eq-eqb (get_or flags row 0) 0 n)

      pub with-name : get_or flags row 0 ≢ 0 → label lengths numbers flags block fall row ≡ named lengths numbers (entry_of flags row)
      unfolding label
      with-name n = rw (lt-leb (length flags) row h, a, ne_eqb (get_or flags row 0) 0 n)

-- ---- a name lies in the block

pub name-inside : (lengths numbers : List ℤ) (flags block fall : List ℕ) (row : ℕ) (n : Name) → label lengths numbers flags block fall row ≡ Ok (Label.TheVariants.Name n)
    → n.start.bytes + n.size.bytes ≤ length block
name-inside lengths numbers flags block fall row n e = go ((labels-exactly lengths numbers flags block fall row (Ok (Label.TheVariants.Name n))).0 e)
  where
    go : {n : Name} → Said lengths numbers flags block fall row (Ok (Label.TheVariants.Name n)) → n.start.bytes + n.size.bytes ≤ length block
    go (the-name h a f k m) = omega (arith, start-suc lengths k, start-le lengths (suc k), total-is lengths block a)
