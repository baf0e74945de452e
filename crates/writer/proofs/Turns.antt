-- The writer's loops over the numbers of a list, one a turn: a loop that fills places with them, and one that tests them all.
-- `rest k` is what is left of the list after k turns, so `rest 0` is all of it. Assumes nothing.
use Rattle.format.proofs.Common.{◌≡◌, refl, sym, ap, ◌∙◌, ℕ, zero, suc, ◌+◌, ◌<◌, ◌≤◌, add-one, arith, Bool, true, false, ◌&&◌, List, []}
use Rattle.format.proofs.Common.{◌∷◌, ◌++◌, map, ℤ, length, get_or, drop, take, set, length-set, length-map, drop_of_length-le, drop-cons}
use Rattle.std.specs.Bool.{MatchBool}
use Rattle.std.specs.List.{AllWithin, HoldsAt}
use Rattle.format.proofs.Common.{and-false}
use Rattle.format.specs.Rows.{as_u64}
use Rattle.format.specs.Writing.{step_to, steps_of, every}
use Rattle.util.proofs.Grow.{grow, kept, filled}

-- ---- filling: what stands so far, then what is still to come, is the whole, and the places after it are as they were

pub record Filled (n : ℕ) (rest : ℕ → List ℕ) (out₀ out : List ℕ) (i : ℕ) : Type 0 where
  pub few : i ≤ n
  pub long : length out ≡ length out₀
  pub all : take i out ++ rest i ≡ rest 0
  pub others : drop i out ≡ drop i out₀

pub fill-first : (n : ℕ) (rest : ℕ → List ℕ) (out : List ℕ) → Filled n rest out out 0
fill-first n rest out = record { few = omega arith; long = refl; all = refl; others = refl }

module _ {n : ℕ} {rest : ℕ → List ℕ} {out₀ out : List ℕ} {i : ℕ} (f : Filled n rest out₀ out i) where
  pub fill-next : i < n → n ≤ length out₀ → {x r : ℕ} → rest i ≡ x ∷ rest (i + 1) → r ≡ x → Filled n rest out₀ (set out i r) (i + 1)
  fill-next h l {x} {r} e w = record {
    few = omega arith;
    long = length-set out i r ∙ f.long;
    all = grow out i r (rest (i + 1)) (rest 0) (omega (arith, f.long)) (rw (e, ← w) at f.all);
    others = kept out out₀ i r f.others;
  }

  pub fill_end : n ≤ i → rest n ≡ [] → out ≡ rest 0 ++ drop n out₀
  fill_end h e =
      let z : i ≡ n = omega (arith, f.few) in
      filled out out₀ (rest 0) n (rw (z, e) at f.all) (rw z at f.others)

-- ---- testing: the whole passes exactly if what is left of it passes

pub record Tested (test : ℕ → Bool) (n : ℕ) (rest : ℕ → List ℕ) (i : ℕ) : Type 0 where
  pub few : i ≤ n
  pub left : every test (rest 0) ≡ every test (rest i)

pub test-first : (test : ℕ → Bool) (n : ℕ) (rest : ℕ → List ℕ) → Tested test n rest 0
test-first test n rest = record { few = omega arith; left = refl }

module _ {test : ℕ → Bool} {n : ℕ} {rest : ℕ → List ℕ} {i : ℕ} (t : Tested test n rest i) where
  next : {x : ℕ} → rest i ≡ x ∷ rest (i + 1) → every test (rest 0) ≡ test x && every test (rest (i + 1))
  unfolding every
  next e = t.left ∙ ap (λ (l : List ℕ). every test l) e

  pub test-stop : {x : ℕ} → rest i ≡ x ∷ rest (i + 1) → test x ≡ false → false ≡ every test (rest 0)
  test-stop e h = sym (next e ∙ rw h)

  pub test-next : i < n → {x : ℕ} → rest i ≡ x ∷ rest (i + 1) → test x ≡ true → Tested test n rest (i + 1)
  test-next l e h = record { few = omega arith; left = next e ∙ rw h }

  pub test-end : rest i ≡ [] → true ≡ every test (rest 0)
  unfolding every
  test-end e = sym (t.left ∙ ap (λ (l : List ℕ). every test l) e)

-- ---- what `all` answers of the rows: each passes, or one doesn't

module _ (test : ℕ → Bool) where
  passing : (rows : List ℤ) → AllWithin (λ z. test (as_u64 z) ≡ true) rows 0 (length rows) → true ≡ every test (map as_u64 rows)
  unfolding every
  passing [] h = refl
  passing (z ∷ rows) h = rw (h 0 z (omega arith) (omega arith)) (passing rows (λ k d a b. h (suc k) d (omega arith) (omega arith)))

  failing : (rows : List ℤ) (k : ℕ) → k < length rows → HoldsAt (λ z. test (as_u64 z) ≡ false) rows k → false ≡ every test (map as_u64 rows)
  unfolding every
  failing [] k h e = absurd (omega arith)
  failing (z ∷ rows) zero h e = rw (e z)
  failing (z ∷ rows) (suc k) h e = rw (← failing rows k (omega arith) e) (sym (and-false (test (as_u64 z))))

  pub all-answer : (rows : List ℤ) (r : Bool)
      → MatchBool r (AllWithin (λ z. test (as_u64 z) ≡ true) rows 0 (length rows)) ((k : ℕ) × (k < length rows) × HoldsAt (λ z. test (as_u64 z) ≡ false) rows k)
      → r ≡ every test (map as_u64 rows)
  all-answer rows true h = passing rows h
  all-answer rows false h = failing rows h.0 h.1 h.2

pub every-map : (test : ℕ → Bool) (f : ℕ → ℕ) (l : List ℕ) → every test (map f l) ≡ every (λ x. test (f x)) l
unfolding every
every-map test f [] = refl
every-map test f (x ∷ l) = rw (every-map test f l)

-- ---- the next number of a list, of what it is mapped to, and of the steps in it

pub row_next : (l : List ℕ) (i : ℕ) → i < length l → drop i l ≡ get_or l i 0 ∷ drop (i + 1) l
row_next l i h = rw (add-one, drop-cons l i 0 h)

pub map_next : (f : ℕ → ℕ) (l : List ℕ) (i : ℕ) → i < length l → map f (drop i l) ≡ f (get_or l i 0) ∷ map f (drop (i + 1) l)
map_next f l i h = rw (row_next l i h)

pub map-end : (f : ℕ → ℕ) (l : List ℕ) (i : ℕ) → length l ≤ i → map f (drop i l) ≡ []
map-end f l i h = rw (drop_of_length-le l h)

pub steps_next : (falling : Bool) (l : List ℕ) (i : ℕ) → i + 1 < length l
    → steps_of falling (drop i l) ≡ step_to falling (get_or l i 0) (get_or l (i + 1) 0) ∷ steps_of falling (drop (i + 1) l)
unfolding steps_of
steps_next falling [] i h = absurd (omega arith)
steps_next falling (x ∷ []) i h = absurd (omega arith)
steps_next falling (x ∷ y ∷ l) zero h = refl
steps_next falling (x ∷ y ∷ l) (suc i) h =
    let e : suc i + 1 ≡ suc (i + 1) = omega arith in
    rw e (steps_next falling (y ∷ l) i (omega arith))

pub steps-end : (falling : Bool) (l : List ℕ) (i : ℕ) → length l ≤ i + 1 → steps_of falling (drop i l) ≡ []
unfolding steps_of
steps-end falling [] zero h = refl
steps-end falling [] (suc i) h = refl
steps-end falling (x ∷ []) zero h = refl
steps-end falling (x ∷ y ∷ l) zero h = absurd (omega arith)
steps-end falling (x ∷ l) (suc i) h = steps-end falling l i (omega arith)

-- ---- the same of rows

module _ (rows : List ℤ) (i : ℕ) where
  abbrev rs : List ℕ
  rs = map as_u64 rows

  pub rows_next : i < length rows → drop i rs ≡ get_or rs i 0 ∷ drop (i + 1) rs
  rows_next h = row_next rs i (rw (length-map rows as_u64) h)

  pub rows_end : length rows ≤ i → drop i rs ≡ []
  rows_end h = drop_of_length-le rs {i = i} (rw (length-map rows as_u64) h)

  pub mapped_next : (f : ℕ → ℕ) → i < length rows → map f (drop i rs) ≡ f (get_or rs i 0) ∷ map f (drop (i + 1) rs)
  mapped_next f h = rw (rows_next h)

  pub mapped_end : (f : ℕ → ℕ) → length rows ≤ i → map f (drop i rs) ≡ []
  mapped_end f h = rw (rows_end h)

  pub stepped-next : (falling : Bool) → i + 1 < length rows
      → steps_of falling (drop i rs) ≡ step_to falling (get_or rs i 0) (get_or rs (i + 1) 0) ∷ steps_of falling (drop (i + 1) rs)
  stepped-next falling h = steps_next falling rs i (rw (length-map rows as_u64) h)

  pub stepped-end : (falling : Bool) → length rows ≤ i + 1 → steps_of falling (drop i rs) ≡ []
  stepped-end falling h = steps-end falling rs i (rw (length-map rows as_u64) h)

-- a turn of a loop that stores f of each row, and its end
module _ (f : ℕ → ℕ) (rows : List ℤ) {out₀ out : List ℕ} {i : ℕ}
    (k : Filled (length rows) (λ j. map f (drop j (map as_u64 rows))) out₀ out i) where
  pub store-next : i < length rows → length rows ≤ length out₀ → {r : ℕ} → r ≡ f (get_or (map as_u64 rows) i 0)
      → Filled (length rows) (λ j. map f (drop j (map as_u64 rows))) out₀ (set out i r) (i + 1)
  store-next h l e = fill-next k h l (mapped_next rows i f h) e

  pub store-end : length rows ≤ i → out ≡ map f (map as_u64 rows) ++ drop (length rows) out₀
  store-end h = fill_end k h (mapped_end rows (length rows) f (omega arith))
