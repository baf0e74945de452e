-- Stretches of equal bytes, and the bytes before one: their counts, and what a loop over places needs of them. Assumes nothing.
use Rattle.format.proofs.Common.{◌≡◌, refl, ap, ℕ, zero, suc, ◌+◌, ◌-◌, ◌<◌, ◌≤◌, min, arith, dec_lt, add-one, Bool, true, false, List, []}
use Rattle.format.proofs.Common.{◌∷◌, length, get_or, take, drop, replicate, length-drop, drop-cons, eqb, eqb-true, eqb-false, eq-eqb, ne_eqb}
use Rattle.format.proofs.Common.{le-leb, lt-leb}
use Rattle.format.specs.Fields.{pick}
use Rattle.byte_writer.specs.Choice.{same_as, stretch, repeats, before}
use Rattle.byte_writer.specs.Steps.{are_equal}

-- ---- counts

pub same-le : (b : ℕ) (cs : List ℕ) → same_as b cs ≤ length cs
unfolding same_as
same-le b [] = omega arith
same-le b (c ∷ cs) = by (eqb c b) (same-le b cs)
  where
    by : (t : Bool) → same_as b cs ≤ length cs → pick t (suc (same_as b cs)) 0 ≤ suc (length cs)
    by true h = omega arith
    by false h = omega arith

pub stretch-le : (bs : List ℕ) → stretch bs ≤ length bs
unfolding stretch
stretch-le [] = omega arith
stretch-le (b ∷ bs) = omega (arith, same-le b bs)

same-take : (b k : ℕ) (cs : List ℕ) → k ≤ same_as b cs → take k cs ≡ replicate k b
unfolding same_as
same-take b zero cs h = refl
same-take b (suc k) [] h = absurd (omega arith)
same-take b (suc k) (c ∷ cs) h = by (eqb c b) refl h (same-take b k cs)
  where
    by : (t : Bool) → eqb c b ≡ t → suc k ≤ pick t (suc (same_as b cs)) 0 → (k ≤ same_as b cs → take k cs ≡ replicate k b)
        → take (suc k) (c ∷ cs) ≡ replicate (suc k) b
    by true e h r = rw (eqb-true c b e, r (omega arith))
    by false e h r = absurd (omega arith)

-- a stretch, and any part of it from the first byte on, is copies of that byte
pub stretch-take : (b k : ℕ) (bs : List ℕ) → k ≤ stretch (b ∷ bs) → take k (b ∷ bs) ≡ replicate k b
unfolding stretch
stretch-take b zero bs h = refl
stretch-take b (suc k) bs h = ap (λ (l : List ℕ). b ∷ l) (same-take b k bs (omega arith))

pub before-le : (bs : List ℕ) → before bs ≤ length bs
unfolding before
before-le [] = omega arith
before-le (b ∷ bs) = by (repeats (b ∷ bs)) (before-le bs)
  where
    by : (t : Bool) → before bs ≤ length bs → pick t 0 (suc (before bs)) ≤ suc (length bs)
    by true h = omega arith
    by false h = omega arith

-- what stands after the bytes before a stretch is one, or nothing
pub before-next : (bs : List ℕ) → before bs < length bs → repeats (drop (before bs) bs) ≡ true
unfolding before
before-next [] h = absurd (omega arith)
before-next (b ∷ bs) h = by (repeats (b ∷ bs)) refl h (before-next bs)
  where
    by : (t : Bool) → repeats (b ∷ bs) ≡ t → pick t 0 (suc (before bs)) < suc (length bs)
        → (before bs < length bs → repeats (drop (before bs) bs) ≡ true)
        → repeats (drop (pick t 0 (suc (before bs))) (b ∷ bs)) ≡ true
    by true e h r = e
    by false e h r = r (omega arith)

-- ---- at a place p of some bytes: what the tests of a loop say

module _ (bs : List ℕ) (p : ℕ) where
  pub stretch-here : p < length bs → stretch (drop p bs) ≡ 1 + same_as (get_or bs p 0) (drop (p + 1) bs)
  unfolding stretch
  stretch-here h = rw (add-one, drop-cons bs p 0 h) (omega arith)

  pub same_more : (b : ℕ) → p < length bs → get_or bs p 0 ≡ b → same_as b (drop p bs) ≡ 1 + same_as b (drop (p + 1) bs)
  unfolding same_as
  same_more b h e = rw (add-one, drop-cons bs p 0 h, eq-eqb (get_or bs p 0) b e) (omega arith)

  pub same_stop : (b : ℕ) → p < length bs → (get_or bs p 0 ≡ b → ⊥) → same_as b (drop p bs) ≡ 0
  unfolding same_as
  same_stop b h e = rw (drop-cons bs p 0 h, ne_eqb (get_or bs p 0) b e)

  pub before-stop : repeats (drop p bs) ≡ true → before (drop p bs) ≡ 0
  unfolding before
  before-stop e = by (drop p bs) e
    where
      by : (l : List ℕ) → repeats l ≡ true → before l ≡ 0
      by [] e = refl
      by (x ∷ l) e = rw e

  pub before_more : p < length bs → repeats (drop p bs) ≡ false → before (drop p bs) ≡ 1 + before (drop (p + 1) bs)
  unfolding before
  before_more h e =
      let q : repeats (get_or bs p 0 ∷ drop (suc p) bs) ≡ false = rw (drop-cons bs p 0 h) at e in
      rw (add-one, drop-cons bs p 0 h, q) (omega arith)

-- ---- from a place p on, i bytes were looked at: what the next byte says

module _ (bs : List ℕ) (p i : ℕ) where
  abbrev pub Equal : ℕ → Type 0
  Equal b = stretch (drop p bs) ≡ i + same_as b (drop (p + i) bs)

  pub equal-more : (b : ℕ) → p + i < length bs → get_or bs (p + i) 0 ≡ b → Equal b
      → stretch (drop p bs) ≡ i + 1 + same_as b (drop (p + (i + 1)) bs)
  equal-more b h q e =
      let z : p + i + 1 ≡ p + (i + 1) = omega arith in
      omega (arith, rw z at (same_more bs (p + i) b h q))

  pub equal-stop : (b : ℕ) → p + i < length bs → (get_or bs (p + i) 0 ≡ b → ⊥) → Equal b → stretch (drop p bs) ≡ i
  equal-stop b h q e = omega (arith, same_stop bs (p + i) b h q)

  abbrev pub Unlike : Type 0
  Unlike = before (drop p bs) ≡ i + before (drop (p + i) bs)

  pub unlike-more : p + i < length bs → repeats (drop (p + i) bs) ≡ false → Unlike
      → before (drop p bs) ≡ i + 1 + before (drop (p + (i + 1)) bs)
  unlike-more h q e =
      let z : p + i + 1 ≡ p + (i + 1) = omega arith in
      omega (arith, rw z at (before_more bs (p + i) h q))

  pub unlike-stop : repeats (drop (p + i) bs) ≡ true → Unlike → before (drop p bs) ≡ i
  unlike-stop q e = omega (arith, before-stop bs (p + i) q)

-- three bytes from a place on: a stretch that is enough for a repeat, or not
module _ (bs : List ℕ) (p : ℕ) (h : 3 ≤ length bs - p) where
  second-unlike : (get_or bs (p + 1) 0 ≡ get_or bs p 0 → ⊥) → repeats (drop p bs) ≡ false
  second-unlike e =
      lt-leb 3 (stretch (drop p bs))
      (omega (arith, stretch-here bs p (omega arith), same_stop bs (p + 1) (get_or bs p 0) (omega arith) e))

  second-equal : get_or bs (p + 1) 0 ≡ get_or bs p 0 → repeats (drop p bs) ≡ eqb (get_or bs (p + 2) 0) (get_or bs p 0)
  second-equal e = by (eqb (get_or bs (p + 2) 0) (get_or bs p 0)) refl
    where
      z : p + 1 + 1 ≡ p + 2
      z = omega arith

      two : stretch (drop p bs) ≡ 2 + same_as (get_or bs p 0) (drop (p + 2) bs)
      two = omega (arith, stretch-here bs p (omega arith), rw z at (same_more bs (p + 1) (get_or bs p 0) (omega arith) e))

      by : (t : Bool) → eqb (get_or bs (p + 2) 0) (get_or bs p 0) ≡ t → repeats (drop p bs) ≡ t
      by true q =
          le-leb 3 (stretch (drop p bs)) (omega (arith, two, same_more bs (p + 2) (get_or bs p 0) (omega arith) (eqb-true _ _ q)))
      by false q =
          lt-leb 3 (stretch (drop p bs)) (omega (arith, two, same_stop bs (p + 2) (get_or bs p 0) (omega arith) (eqb-false _ _ q)))

  pub three-equal : repeats (drop p bs) ≡ are_equal (get_or bs p 0) (get_or bs (p + 1) 0) (get_or bs (p + 2) 0)
  three-equal = by (eqb (get_or bs (p + 1) 0) (get_or bs p 0)) refl
    where
      by : (t : Bool) → eqb (get_or bs (p + 1) 0) (get_or bs p 0) ≡ t
          → repeats (drop p bs) ≡ pick t (eqb (get_or bs (p + 2) 0) (get_or bs p 0)) false
      by true q = second-equal (eqb-true _ _ q)
      by false q = second-unlike (eqb-false _ _ q)

-- one or two bytes are no stretch
pub before_last : (bs : List ℕ) → length bs < 3 → before bs ≡ length bs
unfolding before
before_last [] h = refl
before_last (b ∷ bs) h =
    let e : repeats (b ∷ bs) ≡ false = lt-leb 3 (stretch (b ∷ bs)) (omega (arith, stretch-le (b ∷ bs))) in
    rw (e, before_last bs (omega arith))

-- the last two bytes begin no three, so the search may stop before them
module _ (bs : List ℕ) (p i most stop : ℕ) (m : most ≡ min 128 (length bs - p)) (s : stop ≡ min 128 (length bs - p - 2)) where
  pub unlike-done : 3 ≤ length bs - p → i ≤ stop → stop ≤ i → Unlike bs p i → most ≡ min 128 (before (drop p bs))
  unlike-done h l g u = by (dec_lt (length bs - p - 2) 128)
    where
      by : Dec (length bs - p - 2 < 128) → most ≡ min 128 (before (drop p bs))
      by (yes few) = omega (arith, before_last (drop (p + i) bs) (rw length-drop (omega arith)), length-drop (p + i) bs)
      by (no many) = omega arith
