-- Each label follows from the first test that applies, and the parts of the names, one after the other, are the block. Assumes nothing.
use mathlib.Core.Path.{◌≡◌, refl, sym, ap, subst, ◌∙◌}
use Prim.Native.Nat.{ℕ, zero, suc, ◌+◌, ◌<◌, ◌≤◌, zero-le}
use native.Mathlib.Omega.{arith}
use mathlib.Core.Bool.{Bool, true, false, not, ◌&&◌}
use mathlib.Core.List.{List, [], ◌∷◌}
use lib.ListN.{length, take, get_or, length-take, length-drop}
use lib.Seq.{take-add, take-length}
use lib.Dec.{T, leb, ltb, eqb, eqb→eq, le→leb, ltb→lt}
use lib.IntN.{ℤ, pos, negsuc}
use lib.Signed.{le_z_yes, yes_non_neg}
use borrow.Author.Tests.{le-leb, lt-leb, leb-true, leb-false, lt-ltb, ltb-true, ltb-false, eq-eqb}
use Rattle.format.specs.Fields.{pick}
use Rattle.format.proofs.Tests.{never, T_true, is_false, and_left, and_right}
use Rattle.std.specs.Prelude.{Result}
use Rattle.format.specs.declared.Refusal.{Refusal}
use Rattle.labels.specs.declared.Label.{Label}
use Rattle.labels.specs.Labels.{total, none_below, add_up_to, add_up, start_of, size_of, is_name, entry_of, name_at, fallback_of, refused_with}
use Rattle.labels.specs.Labels.{numbered, named, label, part_of}
use Rattle.labels.specs.Laws.{sum, NoneBelow, AddUp, Number, Name, Said, sixteen, eighteen, nineteen, the-name, no_name, LabelsExactly, parts_before, PartsHold, LabelsGiven, LabelsDetermined}

-- ---- tests

-- ---- the lengths

none_below_lem : (l : List ℤ) → T (none_below l) → NoneBelow l
unfolding none_below
none_below_lem [] t = tt
none_below_lem (pos n ∷ l) t = (le_z_yes (le→leb 0 n zero-le), none_below_lem l t)
none_below_lem (negsuc n ∷ l) t = absurd t

pub below_none : (l : List ℤ) → NoneBelow l → T (none_below l)
unfolding none_below
below_none [] h = tt
below_none (pos n ∷ l) h = below_none l h.1
below_none (negsuc n ∷ l) h = yes_non_neg h.0

-- the whole-number sum of lengths none of which is below 0
pub sum-total : (l : List ℤ) → NoneBelow l → sum l ≡ pos (total l)
unfolding total
sum-total [] h = refl
sum-total (pos n ∷ l) h = rw (sum-total l h.1)
sum-total (negsuc n ∷ l) h = absurd (yes_non_neg h.0)

none-take : (k : ℕ) (l : List ℤ) → NoneBelow l → NoneBelow (take k l)
none-take zero l h = tt
none-take (suc k) [] h = tt
none-take (suc k) (z ∷ l) h = (h.0, none-take k l h.1)

pub sums_none : (l : List ℤ) (n : ℕ) → add_up_to l n ≡ true → NoneBelow l
unfolding add_up_to
sums_none l n e =
    let t : T (add_up_to l n) = rw e tt in
    none_below_lem l (and_left (none_below l) _ t)

pub adds : (l : List ℤ) (b : List ℕ) → add_up l b ≡ true → AddUp l b
unfolding add_up_to
adds l b e =
    let t : T (add_up l b) = rw e tt in
    let n : NoneBelow l = none_below_lem l (and_left (none_below l) _ t) in
    record { none_below = n; whole = sum-total l n ∙ ap pos (eqb→eq _ _ (and_right (none_below l) _ t)) }

-- lengths that add up to n bytes have the sum n
pub adds_total : (l : List ℤ) (n : ℕ) → add_up_to l n ≡ true → total l ≡ n
unfolding add_up_to
adds_total l n e =
    let t : T (add_up_to l n) = rw e tt in
    eqb→eq (total l) n (and_right (none_below l) (eqb (total l) n) t)

pub total-is : (l : List ℤ) (b : List ℕ) → AddUp l b → total l ≡ length b
total-is l b a = let e : pos (total l) ≡ pos (length b) = sym (sum-total l a.none_below) ∙ a.whole in cc

pub added : (l : List ℤ) (b : List ℕ) → AddUp l b → add_up l b ≡ true
unfolding add_up_to
added l b a = go (none_below l) (below_none l a.none_below)
  where
    go : (t : Bool) → T t → (t && eqb (total l) (length b)) ≡ true
    go false t = absurd t
    go true t = eq-eqb (total l) (length b) (total-is l b a)

-- ---- each answer

module _ (lengths numbers : List ℤ) (flags block fall : List ℕ) (row : ℕ) where
  abbrev Says : Result Label Refusal → Type 0
  Says r = Said lengths numbers flags block fall row r

  module _ (h : row < length flags) (a : AddUp lengths block) (n : Name lengths numbers flags block fall row) where
    says-numbered : (z : ℤ) → entry_of flags row < length numbers → get_or numbers (entry_of flags row) (pos 0) ≡ z → Says (numbered lengths z)
    unfolding numbered
    says-numbered (negsuc k) l e = nineteen h a n (λ j m. never (cc))
    says-numbered (pos k) l e = go (ltb k (length lengths)) refl
      where
        go : (t : Bool) → ltb k (length lengths) ≡ t → Says (pick t (name_at (start_of lengths k) (size_of lengths k)) (refused_with 19))
        go true f = the-name h a n k (record { there = l; entry = e; inside = ltb-true k (length lengths) f })
        go false f = nineteen h a n (λ j m. let z : k ≡ j = cc in omega (arith, ltb-false k (length lengths) f))

    says-named : Says (named lengths numbers (entry_of flags row))
    unfolding named
    says-named = go (ltb (entry_of flags row) (length numbers)) refl
      where
        go : (t : Bool) → ltb (entry_of flags row) (length numbers) ≡ t → Says (pick t (numbered lengths (get_or numbers (entry_of flags row) (pos 0))) (refused_with 19))
        go true f = says-numbered _ (ltb-true (entry_of flags row) (length numbers) f) refl
        go false f = nineteen h a n (λ j m. omega (arith, ltb-false (entry_of flags row) (length numbers) f))

  says : Says (label lengths numbers flags block fall row)
  unfolding label
  says = go (leb (length flags) row) (add_up lengths block) (is_name (get_or flags row 0)) refl refl refl
    where
      go : (r a n : Bool) → leb (length flags) row ≡ r → add_up lengths block ≡ a → is_name (get_or flags row 0) ≡ n
          → Says (pick r (refused_with 16) (pick (not a) (refused_with 18) (pick n (named lengths numbers (entry_of flags row)) (fallback_of (length fall)))))
      go true a n p q s = sixteen (leb-true (length flags) row p)
      go false false n p q s = eighteen (leb-false (length flags) row p) (λ a. let z : false ≡ true = sym q ∙ added lengths block a in never (cc))
      go false true true p q s = says-named (leb-false (length flags) row p) (adds lengths block q) (rw s tt)
      go false true false p q s = no_name (leb-false (length flags) row p) (adds lengths block q) (λ t. rw s at t)

  no_number : ((k : ℕ) → Number lengths numbers flags block fall row k → ⊥) → named lengths numbers (entry_of flags row) ≡ refused_with 19
  unfolding named numbered
  no_number o = go (ltb (entry_of flags row) (length numbers)) refl
    where
      by : (z : ℤ) → entry_of flags row < length numbers → get_or numbers (entry_of flags row) (pos 0) ≡ z → numbered lengths z ≡ refused_with 19
      by (negsuc k) l e = refl
      by (pos k) l e = rw (is_false (ltb k (length lengths)) (λ t. o k (record { there = l; entry = e; inside = ltb→lt k (length lengths) t })))

      go : (t : Bool) → ltb (entry_of flags row) (length numbers) ≡ t
          → pick t (numbered lengths (get_or numbers (entry_of flags row) (pos 0))) (refused_with 19) ≡ refused_with 19
      go true f = by _ (ltb-true (entry_of flags row) (length numbers) f) refl
      go false f = refl

  said : {r : Result Label Refusal} → Says r → label lengths numbers flags block fall row ≡ r
  unfolding label named numbered
  said (sixteen h) = rw (le-leb (length flags) row h)
  said (eighteen h a) = rw (lt-leb (length flags) row h, is_false (add_up lengths block) (λ t. a (adds lengths block (T_true (add_up lengths block) t))))
  said (nineteen h a n o) = rw (lt-leb (length flags) row h, added lengths block a, T_true (is_name (get_or flags row 0)) n) (no_number o)
  said (the-name h a n k m) =
      rw (lt-leb (length flags) row h, added lengths block a, T_true (is_name (get_or flags row 0)) n, lt-ltb (entry_of flags row) (length numbers) m.there, m.entry, lt-ltb k (length lengths) m.inside)
  said (no_name h a n) = rw (lt-leb (length flags) row h, added lengths block a, is_false (is_name (get_or flags row 0)) n)

pub labels-exactly : LabelsExactly
labels-exactly lengths numbers flags block fall row r = (
  λ e. subst (λ (x : Result Label Refusal). Said lengths numbers flags block fall row x) e (says lengths numbers flags block fall row),
  λ s. said lengths numbers flags block fall row s,
)

-- ---- the parts

pub start-suc : (l : List ℤ) (k : ℕ) → start_of l (suc k) ≡ start_of l k + size_of l k
unfolding start_of size_of total
start-suc [] zero = refl
start-suc [] (suc k) = refl
start-suc (z ∷ l) zero = omega arith
start-suc (z ∷ l) (suc k) = omega (arith, start-suc l k)

pub start-le : (l : List ℤ) (k : ℕ) → start_of l k ≤ total l
unfolding start_of total
start-le l zero = zero-le
start-le [] (suc k) = zero-le
start-le (z ∷ l) (suc k) = omega (arith, start-le l k)

parts-before : (l : List ℤ) (b : List ℕ) (k : ℕ) → parts_before l b k ≡ take (start_of l k) b
unfolding start_of total
parts-before l b zero = refl
parts-before l b (suc k) = rw (parts-before l b k, start-suc l k) (sym (take-add (start_of l k) (size_of l k) b))

pub size_is : (l : List ℤ) (k : ℕ) → NoneBelow l → pos (size_of l k) ≡ get_or l k (pos 0)
unfolding size_of
size_is [] k h = refl
size_is (pos n ∷ l) zero h = refl
size_is (negsuc n ∷ l) zero h = absurd (yes_non_neg h.0)
size_is (z ∷ l) (suc k) h = size_is l k h.1

pub sound_sizes : (l : List ℤ) (k : ℕ) → none_below l ≡ true → pos (size_of l k) ≡ get_or l k (pos 0)
sound_sizes l k e = size_is l k (none_below_lem l (rw e tt))

pub parts-hold : PartsHold
unfolding start_of total
parts-hold lengths block a = record {
  starts = λ k. sym (sum-total (take k lengths) (none-take k lengths a.none_below));
  first = refl;
  adjacent = start-suc lengths;
  length-is = λ k h. ap pos (simp (length-take, length-drop) (omega (arith, start-suc lengths k, start-le lengths (suc k), total-is lengths block a))) ∙ size_is lengths k a.none_below;
  before = parts-before lengths block;
  all = parts-before lengths block (length lengths) ∙ rw (take-length lengths, total-is lengths block a, take-length block);
}

-- ---- the promises

pub labels-given : LabelsGiven
labels-given lengths numbers flags block fall row r part p q = record {
  name-part = λ k e. part-of e;
  fall-part = λ n e. part-of e;
  no_part = λ k e. part-of e;
  untouched = λ n e lengths' numbers' block' a.
      let same : label lengths' numbers' flags block' fall row ≡ fallback_of n =
      said lengths' numbers' flags block' fall row (without ((labels-exactly lengths numbers flags block fall row (fallback_of n)).0 (sym p.answer ∙ e)) a) in
      (e ∙ sym same, part-of e ∙ ap (part_of block' fall) (sym same));
}
  where
    without : {n : ℕ} {lengths' numbers' : List ℤ} {block' : List ℕ} → Said lengths numbers flags block fall row (fallback_of n) → AddUp lengths' block'
        → Said lengths' numbers' flags block' fall row (fallback_of n)
    without (no_name h a n) a' = no_name h a' n

    part-of : {x : Result Label Refusal} → r ≡ x → part ≡ part_of block fall x
    part-of e = q.part-is ∙ ap (part_of block fall) (sym p.answer ∙ e)

pub labels-determined : LabelsDetermined
labels-determined lengths numbers flags block fall row r r' part part' p q p' q' = (p.answer ∙ sym p'.answer, q.part-is ∙ sym q'.part-is)
