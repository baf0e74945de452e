-- What is written of some bytes is the cheaper of two: literals up to the next stretch, or up to and with the byte of it that would be left
-- alone, with a control byte for each 128 begun; and then what is written of the rest. By induction on the length. Assumes nothing.
use Rattle.format.proofs.Common.{◌≡◌, ◌∙◌, ℕ, zero, suc, ◌+◌, ◌-◌, ◌/◌, ◌%◌, ◌<◌, ◌≤◌, min, arith, dec_lt, le_refl, Bool, true, false, List}
use Rattle.format.proofs.Common.{[], ◌∷◌, length, drop, length-drop, drop-drop, leb-true, lt-leb}
use Rattle.format.specs.Fields.{pick}
use Rattle.byte_writer.specs.Choice.{stretch, repeats, before, alone, in_literals}
use Rattle.byte_writer.proofs.Stretches.{stretch-le, before-next}
use Rattle.byte_writer.proofs.Cuts.{Alone, is-alone, alone-one, alone-none, alone-le, literals-are}
use Rattle.byte_writer.proofs.Fronts.{size, literals-size, stretch-drop, whole}

-- how many control bytes n literals take
abbrev pub groups : ℕ → ℕ
groups n = (n + 127) / 128

-- m literals, and what is written of the rest
abbrev pub literally : ℕ → List ℕ → ℕ
literally m bs = m + groups m + size (drop m bs)

abbrev pub Open : List ℕ → Type 0
Open bs = size bs ≡ min (literally (before bs) bs) (literally (in_literals bs) bs)

-- ---- one byte more in front

module _ (x : ℕ) (bs : List ℕ) (e : repeats (x ∷ bs) ≡ false) where
  pub before-cons : before (x ∷ bs) ≡ suc (before bs)
  unfolding before
  before-cons = rw e

  pub literals-cons : in_literals (x ∷ bs) ≡ suc (in_literals bs)
  unfolding in_literals
  literals-cons = rw before-cons (omega arith)

-- a byte that begins no stretch costs itself, and perhaps a control byte
abbrev pub Costs : List ℕ → Type 0
Costs bs = (1 + size (drop 1 bs) ≤ size bs) × (size bs ≤ 2 + size (drop 1 bs))

pub front : (bs : List ℕ) → 0 < length bs → stretch bs < 3 → Open bs → Open (drop 1 bs) → Costs bs
front [] l h o p = absurd (omega arith)
front (x ∷ bs) l h o p =
    let e : repeats (x ∷ bs) ≡ false = lt-leb 3 (stretch (x ∷ bs)) h in
    let q = rw (before-cons x bs e, literals-cons x bs e) at o in
    (omega (arith, p, q), omega (arith, p, q))

-- so does the byte that is left alone, since what is written of the others is the same with it and without it
pub left_alone : (bs : List ℕ) → 3 ≤ stretch bs → stretch bs % 130 ≡ 1 → ((k : ℕ) → 1 ≤ k → Open (drop k bs)) → Costs bs
left_alone bs h m o =
    let n = stretch bs in
    let z : n - 1 + 1 ≡ n = omega arith in
    let y : 1 + (n - 1) ≡ n = omega arith in
    let a : n - alone n ≡ n - 1 = omega (arith, alone-one n m) in
    let b : n - 1 - alone (n - 1) ≡ n - 1 = omega (arith, alone-none (n - 1) (λ e. omega arith)) in
    let s : stretch (drop 1 bs) ≡ n - 1 = stretch-drop 1 bs (omega arith) in
    let t : stretch (drop (n - 1) bs) ≡ 1 = stretch-drop (n - 1) bs (omega arith) ∙ omega arith in
    let w = rw a at (whole bs h) in
    let v = rw (s, b, drop-drop (n - 1) 1 bs, y) at (whole (drop 1 bs) (omega arith)) in
    let d : drop 1 (drop (n - 1) bs) ≡ drop n bs = rw (drop-drop 1 (n - 1) bs, z) in
    let l : 0 < length (drop (n - 1) bs) = omega (arith, stretch-le bs, length-drop (n - 1) bs) in
    let f = rw d at (front (drop (n - 1) bs) l (omega arith) (o (n - 1) (omega arith)) (rw d (o n (omega arith)))) in
    (omega (arith, w, v, f.0), omega (arith, w, v, f.1))

-- ---- any bytes, if it is so of what is left of them

before-drop : (j : ℕ) (bs : List ℕ) → j ≤ before bs → before (drop j bs) ≡ before bs - j
unfolding before
before-drop zero bs h = omega arith
before-drop (suc j) [] h = absurd (omega arith)
before-drop (suc j) (b ∷ bs) h = by (repeats (b ∷ bs)) h (before-drop j bs)
  where
    by : (t : Bool) → suc j ≤ pick t 0 (suc (before bs)) → (j ≤ before bs → before (drop j bs) ≡ before bs - j)
        → before (drop j bs) ≡ pick t 0 (suc (before bs)) - suc j
    by true h r = absurd (omega arith)
    by false h r = omega (arith, r (omega arith))

literals-drop : (j : ℕ) (bs : List ℕ) → j ≤ before bs → in_literals (drop j bs) ≡ in_literals bs - j
unfolding in_literals
literals-drop j bs h =
    let z : j + (before bs - j) ≡ before bs = omega arith in
    rw (before-drop j bs h, drop-drop (before bs - j) j bs, z) (omega arith)

pub literals-none : (bs : List ℕ) → before bs ≡ 0 → in_literals bs ≡ alone (stretch bs)
unfolding in_literals
literals-none bs z = rw z (omega arith)

open-nothing : Open []
unfolding before in_literals stretch alone
open-nothing = omega arith

module _ (bs : List ℕ) (o : (k : ℕ) → 1 ≤ k → Open (drop k bs)) where
  open_none : before bs ≡ 0 → 0 < length bs → Open bs
  open_none z l = by (is-alone (stretch bs))
    where
      three : 3 ≤ stretch bs
      three = leb-true 3 (stretch bs) (rw z at (before-next bs (omega arith)))

      by : Alone (stretch bs) → Open bs
      by (Alone.none h e) = rw (z, literals-none bs z, e) (omega arith)
      by (Alone.one h e) = rw (z, literals-none bs z, e) (omega (arith, (left_alone bs three h o).1))

  -- the literals fit one run
  open-few : 0 < before bs → in_literals bs ≤ 128 → Open bs
  open-few l k = by (is-alone (stretch rest))
    where
      rest : List ℕ
      rest = drop (before bs) bs

      cost : size bs ≡ in_literals bs + 1 + size (drop (in_literals bs) bs)
      cost = literals-size bs (in_literals bs) l (omega arith)

      -- the rest begins with a stretch that leaves a byte alone
      costs : stretch (drop (before bs) bs) % 130 ≡ 1 → Costs (drop (before bs) bs)
      costs h =
          let r = drop (before bs) bs in
          let n : before bs < length bs = omega (arith, stretch-le r, length-drop (before bs) bs) in
          left_alone r (leb-true 3 (stretch r) (before-next bs n)) h
          (λ i q. rw (drop-drop i (before bs) bs) (o (before bs + i) (omega arith)))

      by : Alone (stretch (drop (before bs) bs)) → Open bs
      by (Alone.none h e) =
          let a : in_literals bs ≡ before bs = literals-are bs ∙ omega arith in
          rw a (omega (arith, rw a at cost))
      by (Alone.one h e) =
          let a : in_literals bs ≡ before bs + 1 = literals-are bs ∙ omega arith in
          rw a (omega (arith, rw a at cost, rw (drop-drop 1 (before bs) bs) at (costs h).0))

  -- or the first run is full
  open-many : 128 < in_literals bs → Open bs
  open-many k =
      let n : 128 ≤ before bs = omega (arith, literals-are bs, (alone-le (stretch (drop (before bs) bs))).0) in
      let z : 128 + (before bs - 128) ≡ before bs = omega arith in
      let y : 128 + (in_literals bs - 128) ≡ in_literals bs = omega arith in
      let p = rw (
        before-drop 128 bs n,
        literals-drop 128 bs n,
        drop-drop (before bs - 128) 128 bs,
        drop-drop (in_literals bs - 128) 128 bs,
        z,
        y,
      ) at (o 128 (omega arith)) in
      omega (arith, literals-size bs 128 (omega arith) (omega arith), p)

open_in : (f : ℕ) (bs : List ℕ) → length bs ≤ f → Open bs
open_in zero [] h = open-nothing
open_in zero (b ∷ bs) h = absurd (omega arith)
open_in (suc f) [] h = open-nothing
open_in (suc f) (b ∷ bs) h =
    by (dec_lt 0 (before (b ∷ bs))) (dec_lt 128 (in_literals (b ∷ bs)))
    (λ k l. open_in f (drop k (b ∷ bs)) (rw length-drop (omega arith)))
  where
    by : Dec (0 < before (b ∷ bs)) → Dec (128 < in_literals (b ∷ bs)) → ((k : ℕ) → 1 ≤ k → Open (drop k (b ∷ bs))) → Open (b ∷ bs)
    by (no l) m o = open_none (b ∷ bs) o (omega arith) (omega arith)
    by (yes l) (no m) o = open-few (b ∷ bs) o l (omega arith)
    by (yes l) (yes m) o = open-many (b ∷ bs) o m

pub opens : (bs : List ℕ) → Open bs
opens bs = open_in (length bs) bs (le_refl _)
