-- FORMAT.md's own words for a packed block: its bits, highest bit of each byte first, are the fields. Assumes nothing.
use Rattle.format.proofs.Common.{◌≡◌, sym, ◌∙◌, ℕ, zero, suc, ◌+◌, ◌*◌, ◌^◌, ◌<◌, zero-lt-suc, zero-mul, suc-mul, arith, List, []}
use Rattle.format.proofs.Common.{◌∷◌, ◌++◌, append_assoc, length, get_or, take, drop, take_at, drop-append-add}
use Rattle.format.specs.Digits.{number, digits, spread}
use Rattle.format.specs.Fields.{Block, IsBlock, block_bytes, bytes_for, pad_bits}
use Rattle.format.proofs.Digits.{spread-number, digits-split, length_digits, number_digits}
use Rattle.format.proofs.Fields.{block_number, block_number-lt, block-below}

-- ---- FORMAT.md's own words for a packed block: its bits, highest bit of each byte first, are the fields' bits one after another, and then
-- the padding.

module _ (w n : ℕ) (k : Block) (v : IsBlock w n k) where
  bytes_bits : spread 2 8 (block_bytes w n k) ≡ digits 2 (bytes_for (n * w) * 8) (block_number w n k v)
  unfolding block_number block_bytes
  bytes_bits =
      let size : ℕ = bytes_for (n * w) in
      let x : ℕ = block_number w n k v in
      sym (rw (length_digits 256 size x, number_digits 256 (zero-lt-suc 255) size x (block_number-lt w n k v))
      at (spread-number 2 8 (block_bytes w n k) (zero-lt-suc 1) (block-below w n k v)))

  pub block-bits : spread 2 8 (block_bytes w n k) ≡ spread 2 w k.values ++ digits 2 (pad_bits w n) k.pad
  unfolding block_number
  block-bits =
      let e : bytes_for (n * w) * 8 ≡ n * w + pad_bits w n = omega arith in
      let f : digits 2 (n * w) (number (2 ^ w) k.values) ≡ spread 2 w k.values =
      rw v.count at (spread-number 2 w k.values (zero-lt-suc 1) v.fits) in
      bytes_bits ∙ rw (e, ← f) (digits-split 2 (zero-lt-suc 1) (n * w) (pad_bits w n) (number (2 ^ w) k.values) k.pad v.pad_fits)

-- So field i of a block is bits i·w to i·w+w-1 of its bytes.
field-bits : (w : ℕ) (vs : List ℕ) (i : ℕ) (rest : List ℕ) → i < length vs → take w (drop (i * w) (spread 2 w vs ++ rest)) ≡ digits 2 w (get_or vs i 0)
field-bits w [] i rest h = absurd (omega (arith, h))
field-bits w (v ∷ vs) zero rest h =
    rw (zero-mul w, append_assoc (digits 2 w v) (spread 2 w vs) rest) (take_at (digits 2 w v) (spread 2 w vs ++ rest) w (length_digits 2 w v))
field-bits w (v ∷ vs) (suc i) rest h =
    let e : suc i * w ≡ length (digits 2 w v) + i * w = suc-mul i w ∙ omega (arith, length_digits 2 w v) in
    rw (e, append_assoc (digits 2 w v) (spread 2 w vs) rest, drop-append-add (digits 2 w v) (spread 2 w vs ++ rest) (i * w))
    (field-bits w vs i rest (omega (arith, h)))

pub block-field : (w n : ℕ) (k : Block) → IsBlock w n k → (i : ℕ) → i < n
    → take w (drop (i * w) (spread 2 8 (block_bytes w n k))) ≡ digits 2 w (get_or k.values i 0)
block-field w n k v i h = rw (block-bits w n k v) (field-bits w k.values i (digits 2 (pad_bits w n) k.pad) (omega (arith, v.count)))
