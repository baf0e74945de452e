-- A byte's bits, spread over the bytes of a number: for each of the 256 bytes, by computation. Assumes nothing.
use mathlib.Core.Path.{◌≡◌, refl, ap, ◌∙◌, sym}
use Prim.Native.Nat.{ℕ, zero, suc, ◌+◌, ◌-◌, ◌*◌, ◌/◌, ◌%◌, ◌^◌, ◌<◌}
use native.Mathlib.Omega.{arith}
use native.Mathlib.Numerals.{add-one}
use mathlib.Core.List.{List, [], ◌∷◌}
use lib.Bits.{bit_and}
use lib.ListN.{get_or, drop}
use lib.Seq.{drop-cons}
use Rattle.format.specs.Digits.{digits, lowest_first}
use Rattle.format.proofs.Digits.{length_digits}

-- what f gives of n numbers from i on
unfoldable table : (ℕ → List ℕ) → ℕ → ℕ → List (List ℕ)
table f zero i = []
table f (suc n) i = f i ∷ table f n (suc i)

-- where the tables are equal, so are their entries
entry : (f g : ℕ → List ℕ) (n i j : ℕ) → table f n i ≡ table g n i → j < n → f (i + j) ≡ g (i + j)
unfolding table
entry f g zero i j e h = absurd (omega arith)
entry f g (suc n) i zero e h =
    let z : i + 0 ≡ i = omega arith in
    rw z cc
entry f g (suc n) i (suc j) e h =
    let z : i + suc j ≡ suc i + j = omega arith in
    let t : table f n (suc i) ≡ table g n (suc i) = cc in
    rw z (entry f g n (suc i) j t (omega arith))

-- the code's own number
unfoldable pub spread_of : ℕ → ℕ
spread_of b = 0x0101010101010101 - bit_and (((255 - b) * 0x0040201008040201 + (255 - b) % 2 * 0x8000000000000000) / 2 ^ 7) 0x0101010101010101

all : table (λ b. lowest_first 8 (spread_of b)) 256 0 ≡ table (λ b. digits 2 8 b) 256 0
unfolding table spread_of lowest_first digits
all = refl

pub spread-is : (b : ℕ) → b < 256 → lowest_first 8 (spread_of b) ≡ digits 2 8 b
spread-is b h =
    let z : 0 + b ≡ b = omega arith in
    rw z at (entry (λ b. lowest_first 8 (spread_of b)) (λ b. digits 2 8 b) 256 0 b all h)

-- ---- a turn of the loop that stores them: the byte at hand is bit j, and the others are left

abbrev pub Left : ℕ → ℕ → ℕ → Type 0
Left byte j x = lowest_first (8 - j) x ≡ drop j (digits 2 8 byte)

module _ (byte j x : ℕ) (h : j < 8) (l : Left byte j x) where
  both : x % 256 ∷ lowest_first (8 - (j + 1)) (x / 256) ≡ get_or (digits 2 8 byte) j 0 ∷ drop (suc j) (digits 2 8 byte)
  unfolding lowest_first
  both =
      let e : 8 - j ≡ suc (8 - (j + 1)) = omega arith in
      sym (ap (λ (n : ℕ). lowest_first n x) e) ∙ l ∙ drop-cons (digits 2 8 byte) j 0 (rw length_digits h)

  pub bit-here : x % 256 ≡ get_or (digits 2 8 byte) j 0
  bit-here = cc both

  pub left-next : Left byte (j + 1) (x / 256)
  left-next =
      let e : lowest_first (8 - (j + 1)) (x / 256) ≡ drop (suc j) (digits 2 8 byte) = cc both in
      e ∙ rw add-one
