-- Rows are whole-number sums modulo 2^64. Assumes nothing.
use Rattle.format.proofs.Common.{◌≡◌, refl, ap, ◌∙◌, ℕ, zero, suc, ◌+◌, ◌-◌, ◌*◌, ◌%◌, ◌^◌, ◌<◌, ◌≤◌, suc-mul, mod-lt, zero-mul}
use Rattle.format.proofs.Common.{lt_of_lt_of_le, mod-add-mod, add-mod-mod, arith, Bool, true, false, List, [], ◌∷◌, length, get_or, take, leb}
use Rattle.format.proofs.Common.{pow_mono, pow_pos, lt-leb, le-leb}
use native.Mathlib.Nat.{mod-mod}
use Rattle.format.specs.Digits.{AllBelow, number, sum}
use Rattle.format.specs.Fields.{two64, negative, width, Block, Varint}
use Rattle.format.specs.Runs.{Patch, fixed, delta, patched, patches}
use Rattle.format.specs.Rows.{steps, walk, patched_rows, patch_at, plus, rows_of, base_value}
use Rattle.format.proofs.Varints.{varint-lt}
use Rattle.format.proofs.Rows.{width-le, row_lt}
use Rattle.promises.specs.Sums.{first_row, first_step, Sums}

steps-at : (n x step i : ℕ) → x < two64 → i < n → get_or (steps n x step) i 0 ≡ (x + i * step) % two64
unfolding steps
steps-at zero x step i h l = absurd (omega arith)
steps-at (suc n) x step zero h l = rw (zero-mul step) (omega arith)
steps-at (suc n) x step (suc i) h l =
    steps-at n (plus x step) step i (mod-lt (x + step) (pow_pos 64)) (omega (arith, l)) ∙ rw (suc-mul i step) (omega arith)

rising-at : (y : ℕ) (ms : List ℕ) (i : ℕ) → y < two64 → i ≤ length ms → get_or (y ∷ walk false y ms) i 0 ≡ (y + sum (take i ms)) % two64
unfolding walk
rising-at y ms zero h l = omega arith
rising-at y [] (suc i) h l = absurd (omega (arith, l))
rising-at y (m ∷ ms) (suc i) h l = rising-at (plus y m) ms i (mod-lt (y + m) (pow_pos 64)) (omega (arith, l)) ∙ omega arith

negative-sum : (m : ℕ) → m < two64 → (negative m + m) % two64 ≡ 0
unfolding negative
negative-sum m h = omega arith

-- what is taken away and added again
added-again : (g s m t y : ℕ) → (t + m) % two64 ≡ 0 → (g + s) % two64 ≡ (y + t) % two64 % two64 → (g + (m + s)) % two64 ≡ y % two64
added-again g s m t y h e =
    let a : g + (m + s) ≡ g + s + m = omega arith in
    let b : y + t + m ≡ y + (t + m) = omega arith in
    rw (a, ← (mod-add-mod (g + s) two64 m), e, mod-mod (y + t) two64, mod-add-mod (y + t) two64 m, b, ← (add-mod-mod y (t + m) two64), h) (omega arith)

falling-at : (y : ℕ) (ms : List ℕ) (i : ℕ) → AllBelow two64 ms → i ≤ length ms → (get_or (y ∷ walk true y ms) i 0 + sum (take i ms)) % two64 ≡ y % two64
unfolding walk
falling-at y ms zero b l = omega arith
falling-at y [] (suc i) b l = absurd (omega (arith, l))
falling-at y (m ∷ ms) (suc i) b l =
    added-again _ (sum (take i ms)) m (negative m) y (negative-sum m b.0) (falling-at (plus y (negative m)) ms i b.1 (omega (arith, l)))

patched-at : (base w : ℕ) (ps : List Patch) (p : ℕ) (vs : List ℕ) (i : ℕ) → i < length vs
    → get_or (patched_rows base w ps p vs) i 0 ≡ plus base (get_or vs i 0 + patch_at (p + i) ps * 2 ^ w)
unfolding patched_rows
patched-at base w ps p [] i l = absurd (omega (arith, l))
patched-at base w ps p (v ∷ vs) zero l =
    let e : p + 0 ≡ p = omega arith in
    rw e
patched-at base w ps p (v ∷ vs) (suc i) l =
    let e : p + suc i ≡ suc p + i = omega arith in
    rw e (patched-at base w ps (suc p) vs i (omega (arith, l)))

below-mono : (a b : ℕ) (l : List ℕ) → a ≤ b → AllBelow a l → AllBelow b l
below-mono a b [] h p = tt
below-mono a b (x ∷ l) h p = (lt_of_lt_of_le p.0 h, below-mono a b l h p.1)

fixed-at : (signed : Bool) (rows : ℕ) (first base : List ℕ) (i : ℕ) → Varint 10 first → i < rows
    → get_or (rows_of signed (fixed rows first base)) i 0 ≡ (first_row signed first + i * first_step base) % two64
unfolding rows_of
fixed-at signed rows first base i v h = steps-at rows _ _ i (row_lt signed _ (varint-lt first v)) h

patched-row-at : (signed : Bool) (code : ℕ) (base : List ℕ) (pc gw : ℕ) (k l : Block) (p : ℕ) → p < length k.values
    → get_or (rows_of signed (patched code base pc gw k l)) p 0
    ≡ (base_value base + (get_or k.values p 0 + patch_at p (patches (width pc) l.values) * 2 ^ width code)) % two64
unfolding rows_of
patched-row-at signed code base pc gw k l p h =
    let e : 0 + p ≡ p = omega arith in
    rw e at (patched-at (base_value base) (width code) (patches (width pc) l.values) 0 k.values p h)

-- the rows of a packed delta run, by its direction
module _ (signed : Bool) (code : ℕ) (first base : List ℕ) (k : Block) (falling : Bool) (e : leb (2 ^ 63) (first_step base) ≡ falling) where
  second : ℕ
  second = plus (first_row signed first) (first_step base)

  delta-rows : rows_of signed (delta code first base k) ≡ first_row signed first ∷ second ∷ walk falling second k.values
  unfolding rows_of second
  delta-rows = ap (λ (t : Bool). first_row signed first ∷ second ∷ walk t second k.values) e

  delta-row : (i : ℕ) → get_or (rows_of signed (delta code first base k)) (suc i) 0 ≡ get_or (second ∷ walk falling second k.values) i 0
  delta-row i = rw delta-rows

pub sums : Sums
unfolding base_value second
sums = record {
  varint-number = varint-lt;
  fixed-row = λ signed rows first base i v h. fixed-at signed rows first base i v.first-varint h;
  first-row = λ signed code first base k v. rw (delta-rows signed code first base k _ refl);
  rising-row = λ signed code first base k i v h s.
      rw (delta-row signed code first base k false (lt-leb (2 ^ 63) (first_step base) s))
      (rising-at (plus (first_row signed first) (first_step base)) k.values i (mod-lt (first_row signed first + first_step base) (pow_pos 64)) h ∙ omega arith);
  falling-row = λ signed code first base k i v h s.
      rw (delta-row signed code first base k true (le-leb (2 ^ 63) (first_step base) s))
      (falling-at (plus (first_row signed first) (first_step base)) k.values i (below-mono _ two64 k.values (pow_mono (width-le code)) v.block.fits) h
      ∙ omega arith);
  patched-row = λ signed code base pc gw k l p h. patched-row-at signed code base pc gw k l p h;
  base_above = λ base h. rw (lt-leb (2 ^ (8 * length base - 1)) (number 256 base) h);
  base-below = λ base h₁ h₈ h.
      rw (le-leb (2 ^ (8 * length base - 1)) (number 256 base) h)
      (negative-sum _ (lt_of_lt_of_le (mod-lt (number 256 base) (pow_pos (8 * length base - 1))) (pow_mono {j = 64} (omega arith))));
}
