-- Two columns side by side have at each number what both have there: so the groups from a number on begin at the position that the code
-- finds there, and their order and sums are tested one by one. Assumes nothing.
use mathlib.Core.Path.{◌≡◌, refl, sym, ap, ◌∙◌}
use Prim.Native.Nat.{ℕ, zero, suc, ◌+◌, ◌-◌, ◌<◌, ◌≤◌}
use native.Mathlib.Omega.{arith}
use native.Mathlib.Decide.{dec_lt}
use mathlib.Core.Bool.{◌&&◌}
use mathlib.Core.List.{List, [], ◌∷◌}
use lib.ListN.{length, drop, get_or, drop_of_length-le, get_or-eq_default}
use lib.Seq.{drop-cons}
use lib.Dec.{leb, ltb, eqb}
use borrow.Author.Tests.{le-ltb, lt-ltb}
use Rattle.batches.specs.Batches.{Position}
use Rattle.batches.specs.BatchPromise.{position_in}
use Rattle.rescue.specs.Rescue.{position, Group, group, paired, positions, groups, beginning, not_after, rising, in_order, sum}
use Rattle.rescue.specs.RescueSteps.{position_at}

-- ---- side by side

module _ {A B C : Type 0} (f : A → B → C) where
  pub paired_at : (xs : List A) (ys : List B) (i : ℕ) (a : A) (b : B) → i < length xs → i < length ys
      → drop i (paired f xs ys) ≡ f (get_or xs i a) (get_or ys i b) ∷ drop (suc i) (paired f xs ys)
  unfolding paired
  paired_at [] ys i a b h k = absurd (omega arith)
  paired_at (x ∷ xs) [] i a b h k = absurd (omega arith)
  paired_at (x ∷ xs) (y ∷ ys) zero a b h k = refl
  paired_at (x ∷ xs) (y ∷ ys) (suc i) a b h k = paired_at xs ys i a b (omega arith) (omega arith)

  pub paired_long : (xs : List A) (ys : List B) → length ys ≡ length xs → length (paired f xs ys) ≡ length xs
  unfolding paired
  paired_long [] ys e = refl
  paired_long (x ∷ xs) [] e = absurd (omega arith)
  paired_long (x ∷ xs) (y ∷ ys) e = ap suc (paired_long xs ys (omega arith))

  pub paired-getD : (xs : List A) (ys : List B) (i : ℕ) (a : A) (b : B) → length ys ≡ length xs
      → get_or (paired f xs ys) i (f a b) ≡ f (get_or xs i a) (get_or ys i b)
  unfolding paired
  paired-getD [] [] i a b e = refl
  paired-getD [] (y ∷ ys) i a b e = absurd (omega arith)
  paired-getD (x ∷ xs) [] i a b e = absurd (omega arith)
  paired-getD (x ∷ xs) (y ∷ ys) zero a b e = refl
  paired-getD (x ∷ xs) (y ∷ ys) (suc i) a b e = paired-getD xs ys i a b (omega arith)

pub default : {A : Type 0} (l : List A) (i : ℕ) (a b : A) → i < length l → get_or l i a ≡ get_or l i b
default [] i a b h = absurd (omega arith)
default (x ∷ l) zero a b h = refl
default (x ∷ l) (suc i) a b h = default l i a b (omega arith)

-- ---- the groups from a number on

module _ (end : ℕ) (rs ss ns : List ℕ) (l : length ss ≡ length rs) (k : length ns ≡ length rs) where
  abbrev gs : List Group
  gs = groups (positions rs ss) ns

  abbrev group_at : ℕ → Group
  group_at i = group (position_in (position_at end rs ss i)) (get_or ns i 0)

  pub groups-long : length gs ≡ length ns
  groups-long = paired_long group (positions rs ss) ns (k ∙ sym (paired_long position rs ss l)) ∙ paired_long position rs ss l ∙ sym k

  pub groups-at : (i : ℕ) → i < length ns → drop i gs ≡ group_at i ∷ drop (suc i) gs
  groups-at i h =
      paired_at group (positions rs ss) ns i (position end 0) 0 (omega (arith, paired_long position rs ss l)) h
      ∙ ap (λ (q : Position). group q (get_or ns i 0) ∷ drop (suc i) gs) (paired-getD position rs ss i end 0 l)

  pub groups-end : (i : ℕ) → length ns ≤ i → drop i gs ≡ []
  groups-end i h = drop_of_length-le gs {i = i} (omega (arith, groups-long))

  pub begin-is : (i : ℕ) → beginning end (drop i gs) ≡ position_in (position_at end rs ss i)
  begin-is i = go (dec_lt i (length ns))
    where
      go : Dec (i < length ns) → beginning end (drop i gs) ≡ position_in (position_at end rs ss i)
      go (yes h) = ap (beginning end) (groups-at i h)
      go (no h) =
          ap (beginning end) (groups-end i (omega arith))
          ∙ sym (rw (get_or-eq_default rs end {n = i} (omega arith), get_or-eq_default ss 0 {n = i} (omega arith)))

-- ---- in order

module _ (end : ℕ) (rs ss : List ℕ) (l : length ss ≡ length rs) where
  abbrev ps : List Position
  ps = positions rs ss

  abbrev here : ℕ → Position
  here i = position_in (position_at end rs ss i)

  pub order-none : length rs ≡ 0 → in_order end ps ≡ eqb end 0
  unfolding in_order paired
  order-none e = rw (none rs e)
    where
      none : (xs : List ℕ) → length xs ≡ 0 → paired position xs ss ≡ []
      none [] q = refl
      none (x ∷ xs) q = absurd (omega arith)

  pub order-some : 0 < length rs → in_order end ps
      ≡ (eqb (get_or rs 0 0) 0 && (eqb (get_or ss 0 0) 0 && rising end (position (get_or rs 0 0) (get_or ss 0 0)) (drop 1 ps)))
  unfolding in_order
  order-some h = ap (in_order end) (paired_at position rs ss 0 0 0 h (omega arith))

  pub rising_step : (p : Position) (i : ℕ) → i < length rs
      → rising end p (drop i ps) ≡ (not_after p (here i) && rising end (here i) (drop (suc i) ps))
  unfolding rising
  rising_step p i h = ap (rising end p) (paired_at position rs ss i end 0 h (omega arith))

  pub rising-end : (p : Position) (i : ℕ) → length rs ≤ i → rising end p (drop i ps) ≡ leb p.run end
  unfolding rising
  rising-end p i h = ap (rising end p) (drop_of_length-le ps {i = i} (omega (arith, paired_long position rs ss l)))

-- ---- sums

pub sum-at : (ns : List ℕ) (i : ℕ) → i < length ns → sum (drop i ns) ≡ get_or ns i 0 + sum (drop (suc i) ns)
unfolding sum
sum-at ns i h = ap sum (drop-cons ns i 0 h)

pub sum-end : (ns : List ℕ) (i : ℕ) → length ns ≤ i → sum (drop i ns) ≡ 0
unfolding sum
sum-end ns i h = ap sum (drop_of_length-le ns {i = i} h)

pub fewer : (left n t : ℕ) → n ≤ left → ltb left (n + t) ≡ ltb (left - n) t
fewer left n t h = go (dec_lt left (n + t))
  where
    go : Dec (left < n + t) → ltb left (n + t) ≡ ltb (left - n) t
    go (yes l) = rw (lt-ltb left (n + t) l, lt-ltb (left - n) t (omega arith))
    go (no l) = rw (le-ltb left (n + t) (omega arith), le-ltb (left - n) t (omega arith))
