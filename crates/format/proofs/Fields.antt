-- Each of the small readers (bytes, block, varint) reads back what its layout lays down (`-complete`), and takes nothing else (`-sound`).
-- Soundness is said by `Post`: what holds of a thing that was got, and of the bytes after it. Assumes nothing.
use Rattle.format.proofs.Common.{◌≡◌, refl, sym, ap, ℕ, zero, suc, ◌+◌, ◌*◌, ◌/◌, ◌^◌, ◌<◌, ◌≤◌, mod-lt, div-lt_iff_lt-mul}
use Rattle.format.proofs.Common.{div-add-mod', zero-lt-suc, lt_of_lt_of_le, mul-le-mul, arith, List, [], ◌∷◌, ◌++◌, length}
use Rattle.format.proofs.Common.{length-append, take-append-drop, take_at, drop_at, length-take-le, pow-add, pow_pos, leb, ltb}
use Rattle.format.proofs.Common.{leb→le, nltb→le, nleb→lt, le-leb, lt-leb, lt-ltb, le-ltb}
use lib.Arith.{digits_lt, digits_div, digits_mod}
use Rattle.format.specs.Digits.{AllBelow, number, digits}
use Rattle.format.specs.Fields.{Block, IsBlock, block_bytes, bytes_for, pad_bits, last_below, Varint, last, more}
use Rattle.format.specs.Parse.{Reason, got, bytes, unpack, block, varint}
use Rattle.format.proofs.Digits.{length_digits, number_lt, digits-below, number_digits, digits_number, pow-pow}
use Rattle.format.proofs.Posts.{Post, at-got, at-refused, then-post, unless-post, pick_post, Took}
use Rattle.format.proofs.Below.{below-take, below-drop}

-- ---- n bytes

pub record IsBytes (n : ℕ) (v : List ℕ) : Type 0 where
  pub count : length v ≡ n
  pub below : AllBelow 256 v

pub bytes-complete : (cut n : ℕ) (v rest : List ℕ) → length v ≡ n → bytes cut n (v ++ rest) ≡ got v rest
unfolding bytes
bytes-complete cut n v rest e =
    rw (le-leb n (length (v ++ rest)) (omega (arith, length-append v rest)), take_at v rest n e, drop_at v rest n e)

pub bytes-sound : (cut n : ℕ) (bs : List ℕ) → AllBelow 256 bs → Post (Took bs (λ v. v) (IsBytes n)) (bytes cut n bs)
unfolding bytes
bytes-sound cut n bs h =
    pick_post (leb n (length bs))
    (λ t. at-got (record {
      ok = record { count = length-take-le n bs (leb→le n (length bs) t); below = below-take 256 n bs h };
      split = sym (take-append-drop n bs);
      rest-bytes = below-drop 256 n bs h;
    }))
    (λ t. at-refused)

-- ---- a block

-- its bytes hold its fields and its padding exactly
pub block_size : (w n : ℕ) → 256 ^ bytes_for (n * w) ≡ (2 ^ w) ^ n * 2 ^ pad_bits w n
block_size w n =
    rw (pow-pow 2 8 (bytes_for (n * w)), pow-pow 2 w n, ← (pow-add 2 (n * w) (pad_bits w n)))
    (ap (λ (x : ℕ). 2 ^ x) (omega arith))

pub length-block : (w n : ℕ) (k : Block) → length (block_bytes w n k) ≡ bytes_for (n * w)
unfolding block_bytes
length-block w n k = length_digits 256 (bytes_for (n * w)) _

module _ (w n : ℕ) (k : Block) (v : IsBlock w n k) where
  unfoldable pub block_number : ℕ
  block_number = number (2 ^ w) k.values * 2 ^ pad_bits w n + k.pad

  fields-lt : number (2 ^ w) k.values < (2 ^ w) ^ n
  fields-lt = rw v.count at (number_lt (2 ^ w) k.values v.fits)

  pub block_number-lt : block_number < 256 ^ bytes_for (n * w)
  unfolding block_number
  block_number-lt = rw (block_size w n) (digits_lt fields-lt v.pad_fits)

  unpack-block : unpack w n block_number ≡ k
  unfolding block_number
  unpack-block =
      let p : digits (2 ^ w) n (number (2 ^ w) k.values) ≡ k.values = rw v.count at (digits_number (2 ^ w) k.values v.fits) in
      rw (digits_div (number (2 ^ w) k.values) v.pad_fits, digits_mod (number (2 ^ w) k.values) v.pad_fits, p)

  pub block-complete : (cut : ℕ) (rest : List ℕ) → block cut w n (block_bytes w n k ++ rest) ≡ got k rest
  unfolding block block_bytes block_number
  block-complete cut rest =
      rw (
        bytes-complete cut (bytes_for (n * w)) (digits 256 (bytes_for (n * w)) block_number) rest (length_digits 256 (bytes_for (n * w)) block_number),
        number_digits 256 (zero-lt-suc 255) (bytes_for (n * w)) block_number block_number-lt,
        unpack-block,
      )

  pub block-below : AllBelow 256 (block_bytes w n k)
  unfolding block_bytes block_number
  block-below = digits-below 256 (zero-lt-suc 255) (bytes_for (n * w)) block_number

-- what unpacking gives is a block, with the number that it was unpacked from
module _ (w n x : ℕ) (h : x < 256 ^ bytes_for (n * w)) where
  quotient-lt : x / 2 ^ pad_bits w n < (2 ^ w) ^ n
  quotient-lt = (div-lt_iff_lt-mul (pow_pos (pad_bits w n))).1 (rw (block_size w n) at h)

  unpack-ok : IsBlock w n (unpack w n x)
  unpack-ok = record {
    count = length_digits (2 ^ w) n _;
    fits = digits-below (2 ^ w) (pow_pos w) n _;
    pad_fits = mod-lt x (pow_pos (pad_bits w n));
  }

  unpack-number : number (2 ^ w) (unpack w n x).values * 2 ^ pad_bits w n + (unpack w n x).pad ≡ x
  unpack-number = rw (number_digits (2 ^ w) (pow_pos w) n _ quotient-lt) (div-add-mod' x (2 ^ pad_bits w n))

-- a run's block is small
pub block-small : (n w : ℕ) → n ≤ 512 → w ≤ 64 → bytes_for (n * w) ≤ 4096
block-small n w a b = omega (arith, mul-le-mul {n₂ = 512} {m₂ = 64} a b)

-- any bytes of a block's size are a block
pub any-block : (w n : ℕ) (s : List ℕ) → AllBelow 256 s → length s ≡ bytes_for (n * w)
    → IsBlock w n (unpack w n (number 256 s)) × (block_bytes w n (unpack w n (number 256 s)) ≡ s)
unfolding block_bytes
any-block w n s h e =
    let l : number 256 s < 256 ^ bytes_for (n * w) = rw e at (number_lt 256 s h) in
    (unpack-ok w n (number 256 s) l, rw (unpack-number w n (number 256 s) l, ← e) (digits_number 256 s h))

pub block-sound : (cut w n : ℕ) (bs : List ℕ) → AllBelow 256 bs → Post (Took bs (block_bytes w n) (IsBlock w n)) (block cut w n bs)
unfolding block
block-sound cut w n bs h =
    then-post (bytes-sound cut (bytes_for (n * w)) bs h) λ v s t.
    let (k, e) = any-block w n v t.ok.below t.ok.count in
    at-got (record { ok = k; split = rw e t.split; rest-bytes = t.rest-bytes })

-- ---- a varint

pub last-le : (k : ℕ) → last_below k ≤ 128
unfolding last_below
last-le zero = omega arith
last-le (suc k) = omega arith

pub varint-complete : (r : Reason) (k : ℕ) (v rest : List ℕ) → Varint k v → varint r k (v ++ rest) ≡ got v rest
unfolding varint
varint-complete r k v rest (last {k = j} {b = b} h) = rw (lt-ltb b 128 (lt_of_lt_of_le h (last-le j)), lt-leb (last_below j) b h)
varint-complete r k v rest (more {k = j} {b = b} {bs = bs} h _ m) = rw (le-ltb b 128 h, varint-complete r j bs rest m)

pub varint-sound : (r : Reason) (k : ℕ) (bs : List ℕ) → AllBelow 256 bs → Post (Took bs (λ v. v) (Varint k)) (varint r k bs)
unfolding varint
varint-sound r zero bs h = at-refused
varint-sound r (suc k) [] h = at-refused
varint-sound r (suc k) (b ∷ bs) h =
    pick_post (ltb b 128)
    (λ _. unless-post (leb (last_below k) b) 5 λ t. at-got (record { ok = last (nleb→lt (last_below k) b t); split = refl; rest-bytes = h.1 }))
    (λ t. then-post (varint-sound r k bs h.1) λ v s u.
    at-got (record { ok = more (nltb→le b 128 t) h.0 u.ok; split = ap (λ (r : List ℕ). b ∷ r) u.split; rest-bytes = u.rest-bytes }))

pub varint-below : (k : ℕ) (v : List ℕ) → Varint k v → AllBelow 256 v
varint-below k v (last {k = j} h) = (omega (arith, last-le j), tt)
varint-below k v (more {k = j} {bs = bs} _ h r) = (h, varint-below j bs r)
