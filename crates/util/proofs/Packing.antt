-- What packing fields rests on: a number N grows by a field at a time; of it b bytes are written, and t bits stand at the top of a word of 64.
-- Assumes nothing.
use Rattle.format.proofs.Common.{◌≡◌, sym, ap, ◌∙◌, subst, ℕ, ◌+◌, ◌-◌, ◌*◌, ◌/◌, ◌%◌, ◌^◌, ◌≤◌, ◌<◌, add-zero, add_assoc, add_comm}
use Rattle.format.proofs.Common.{mul_assoc, mul-add-mod_self_right, mul-add-div_right, mul-le-mul_right, mod-lt, add-one, arith, List, ◌++◌}
use Rattle.format.proofs.Common.{append_assoc, length, get_or, take, drop, take-append-drop, pow_pos, pow-add, shr-shr, shr_lt, split, high}
use Rattle.format.proofs.Common.{low}
use Rattle.std.proofs.Common.{shl_lt, shl_exact}
use lib.Pow.{shl-shr, field, mod-pow-add}
use Rattle.format.specs.Digits.{number, digits}
use Rattle.format.specs.Fields.{bytes_for, pad_bits, block_bytes}
use Rattle.format.proofs.Digits.{number-take-suc, digits-add, digits-high, length_digits, pow-256}
use Rattle.util.proofs.Grow.{front-is, kept_by, long-by}

-- ---- words of 64 bits

-- a word whose c lowest bits are free, with e put there
low-64 : (N c e : ℕ) → c ≤ 64 → e < 2 ^ c → (N * 2 ^ c + e) % 2 ^ 64 ≡ N % 2 ^ (64 - c) * 2 ^ c + e
low-64 N c e h l =
    let f : 64 - c + c ≡ 64 = omega arith in
    ap (λ (y : ℕ). (N * 2 ^ c + e) % 2 ^ y) (sym f) ∙ rw (mod-pow-add, high N c l, low N c l)

join : (N c e : ℕ) → c ≤ 64 → e < 2 ^ c → N * 2 ^ c % 2 ^ 64 + e ≡ (N * 2 ^ c + e) % 2 ^ 64
join N c e h l = rw (low-64 N c e h l) (ap (λ (y : ℕ). y + e) (rw (add-zero (N * 2 ^ c), add-zero) at (low-64 N c 0 h (pow_pos c))))

-- bits that are shifted out do not matter
pub raised_is : (x a c : ℕ) → x * 2 ^ a % 2 ^ 64 * 2 ^ c % 2 ^ 64 ≡ x * 2 ^ (a + c) % 2 ^ 64
raised_is x a c =
    let y = x * 2 ^ a in
    let e : x * 2 ^ (a + c) ≡ y / 2 ^ 64 * 2 ^ c * 2 ^ 64 + y % 2 ^ 64 * 2 ^ c
    = rw pow-add (sym (mul_assoc x (2 ^ a) (2 ^ c)) ∙ ap (λ (z : ℕ). z * 2 ^ c) (sym (split y 64)) ∙ omega arith) in
    rw (e, mul-add-mod_self_right (y / 2 ^ 64 * 2 ^ c) (2 ^ 64))

-- ---- bytes

digits_low : (q z : ℕ) → digits 256 q (z % 2 ^ (8 * q)) ≡ digits 256 q z
digits_low q z =
    let e : z ≡ z / 2 ^ (8 * q) * 256 ^ q + z % 2 ^ (8 * q) = rw pow-256 (sym (split z (8 * q))) in
    sym (ap (digits 256 q) e ∙ digits-high 256 (pow_pos 8) q (z / 2 ^ (8 * q)) (z % 2 ^ (8 * q)))

-- ---- a field v after the number N, of which the t lowest bits are at the top of a word

module _ (N v w t : ℕ) (hv : v < 2 ^ w) (ht : t < 64) (hw : w ≤ 64) where
  passed : (N * 2 ^ w + v) / 2 ^ (t + w) ≡ N / 2 ^ t
  passed = rw (add_comm t w, ← shr-shr, high N w hv)

  -- the word has room for it
  joined : t + w < 64 → N * 2 ^ (64 - t) % 2 ^ 64 + v * 2 ^ (64 - (t + w)) % 2 ^ 64 ≡ (N * 2 ^ w + v) * 2 ^ (64 - (t + w)) % 2 ^ 64
  joined h =
      let a = 64 - (t + w) in
      let e : 64 - t ≡ w + a = omega arith in
      let f : N * 2 ^ (w + a) + v * 2 ^ a ≡ (N * 2 ^ w + v) * 2 ^ a = rw pow-add (omega arith) in
      rw (shl_exact w a 64 hv (omega arith), e, join N (w + a) (v * 2 ^ a) (omega arith) (shl_lt w a hv), f)

  module _ (h : 64 ≤ t + w) where
    -- the word is full with its highest bits
    full : N * 2 ^ (64 - t) % 2 ^ 64 + v / 2 ^ (t + w - 64) ≡ (N * 2 ^ w + v) / 2 ^ (t + w - 64) % 2 ^ 64
    full =
        let r = t + w - 64 in
        let e : w ≡ 64 - t + r = omega arith in
        let l : v / 2 ^ r < 2 ^ (64 - t) = shr_lt (64 - t) r (subst (λ (y : ℕ). v < 2 ^ y) e hv) in
        let f : N * 2 ^ w ≡ N * 2 ^ (64 - t) * 2 ^ r = ap (λ (y : ℕ). N * 2 ^ y) e ∙ rw pow-add (sym (mul_assoc N (2 ^ (64 - t)) (2 ^ r))) in
        join N (64 - t) (v / 2 ^ r) (omega arith) l
        ∙ ap (λ (y : ℕ). y % 2 ^ 64) (sym (mul-add-div_right (pow_pos r) (N * 2 ^ (64 - t)) v) ∙ ap (λ (y : ℕ). (y + v) / 2 ^ r) (sym f))

    -- and the others are left
    left : v * 2 ^ (64 - (t + w - 64)) % 2 ^ 64 ≡ (N * 2 ^ w + v) * 2 ^ (64 - (t + w - 64)) % 2 ^ 64
    left =
        let c = 64 - (t + w - 64) in
        let e : w + c ≡ 64 - t + 64 = omega arith in
        let p : 2 ^ w * 2 ^ c ≡ 2 ^ (64 - t) * 2 ^ 64 = sym (pow-add 2 w c) ∙ ap (λ (y : ℕ). 2 ^ y) e ∙ pow-add 2 (64 - t) 64 in
        let f : (N * 2 ^ w + v) * 2 ^ c ≡ N * 2 ^ (64 - t) * 2 ^ 64 + v * 2 ^ c = omega (arith, ap (λ (y : ℕ). N * y) p) in
        rw (f, mul-add-mod_self_right (N * 2 ^ (64 - t)) (2 ^ 64))

    -- the full word's bytes after those that are written
    eight-more : (b : ℕ)
        → digits 256 (b + 8) ((N * 2 ^ w + v) / 2 ^ (t + w - 64)) ≡ digits 256 b (N / 2 ^ t) ++ digits 256 8 (N * 2 ^ (64 - t) % 2 ^ 64 + v / 2 ^ (t + w - 64))
    eight-more b =
        let e : t + w - 64 + 64 ≡ t + w = omega arith in
        rw (full, digits_low 8, digits-add 256 b 8, shr-shr _ (t + w - 64) 64, e, passed)

-- the last bytes, with zeros for padding
last-bytes : (N b t q pad : ℕ) → t < 64 → q ≤ 8 → 8 * q ≡ pad + t
    → digits 256 (b + q) (N * 2 ^ pad) ≡ digits 256 b (N / 2 ^ t) ++ digits 256 q (N * 2 ^ (64 - t) % 2 ^ 64 / 2 ^ (64 - 8 * q))
last-bytes N b t q pad ht hq e =
    let c = 64 - 8 * q in
    let f : 8 * q + c ≡ 64 = omega arith in
    let g : 64 - t ≡ pad + c = omega arith in
    let y : N * 2 ^ (64 - t) % 2 ^ 64 / 2 ^ c ≡ N * 2 ^ pad % 2 ^ (8 * q)
    = ap (λ (z : ℕ). N * 2 ^ (64 - t) % 2 ^ z / 2 ^ c) (sym f) ∙ rw (field, g, pow-add 2 pad c, ← mul_assoc, shl-shr) in
    let z : N * 2 ^ pad / 2 ^ (8 * q) ≡ N / 2 ^ t = rw (e, ← shr-shr, shl-shr) in
    rw (digits-add 256 b q, pow-256 q, z, y, digits_low)

-- ---- the values before k are packed at `at`: b bytes are written, and t bits stand at the top of x

pub record Holds (w at : ℕ) (vals out₀ out : List ℕ) (x t b k : ℕ) : Type 0 where
  pub place : 8 * b + t ≡ k * w
  pub few : t < 64
  pub top : x ≡ number (2 ^ w) (take k vals) * 2 ^ (64 - t) % 2 ^ 64
  pub long : length out ≡ length out₀
  pub front : take (at + b) out ≡ take at out₀ ++ digits 256 b (number (2 ^ w) (take k vals) / 2 ^ t)
  pub back : drop (at + b) out ≡ drop (at + b) out₀

module _ {w at : ℕ} {vals out₀ out : List ℕ} {x t b k : ℕ} (i : Holds w at vals out₀ out x t b k)
    (hw : w ≤ 64) (hk : k < length vals) (hv : get_or vals k 0 < 2 ^ w) where
  abbrev N : ℕ
  N = number (2 ^ w) (take k vals)

  one_more : number (2 ^ w) (take (k + 1) vals) ≡ N * 2 ^ w + get_or vals k 0
  one_more = rw add-one (number-take-suc (2 ^ w) vals k hk)

  joined-top : t + w < 64 → x + get_or vals k 0 * 2 ^ (64 - (t + w)) % 2 ^ 64 ≡ number (2 ^ w) (take (k + 1) vals) * 2 ^ (64 - (t + w)) % 2 ^ 64
  joined-top h = rw (one_more, i.top) (joined N (get_or vals k 0) w t hv i.few hw h)

  pub holds-joined : t + w < 64 → Holds w at vals out₀ out (x + get_or vals k 0 * 2 ^ (64 - (t + w)) % 2 ^ 64) (t + w) b (k + 1)
  holds-joined h = record {
    place = omega (arith, i.place);
    few = h;
    top = joined-top h;
    long = i.long;
    front = rw (one_more, passed N (get_or vals k 0) w t hv i.few hw) i.front;
    back = i.back;
  }

  -- both sums fit
  pub joined-fits : t + w < 64 → x + get_or vals k 0 * 2 ^ (64 - (t + w)) % 2 ^ 64 < 2 ^ 64
  joined-fits h = rw (joined-top h) (mod-lt _ (pow_pos 64))

  pub full-fits : 64 ≤ t + w → x + get_or vals k 0 / 2 ^ (t + w - 64) < 2 ^ 64
  full-fits h = rw (i.top, full N (get_or vals k 0) w t hv i.few hw h) (mod-lt _ (pow_pos 64))

  pub holds-full : 64 ≤ t + w → (out' : List ℕ) → at + b + 8 ≤ length out
      → out' ≡ (take (at + b) out ++ digits 256 8 (x + get_or vals k 0 / 2 ^ (t + w - 64))) ++ drop (at + b + 8) out
      → Holds w at vals out₀ out' (get_or vals k 0 * 2 ^ (64 - (t + w - 64)) % 2 ^ 64) (t + w - 64) (b + 8) (k + 1)
  holds-full h out' l e =
      let v = get_or vals k 0 in
      let piece = digits 256 8 (x + v / 2 ^ (t + w - 64)) in
      let s : at + b ≤ length out = omega arith in
      let n : length piece ≡ 8 = length_digits 256 8 _ in record {
        place = omega (arith, i.place);
        few = omega (arith, i.few);
        top = rw one_more (left N v w t hv i.few hw h);
        long = long-by out out' piece (at + b) 8 s n e l ∙ i.long;
        front = rw (
          ← (add_assoc at b 8),
          front-is out out' piece (at + b) 8 s n e,
          i.front,
          i.top,
          append_assoc,
          one_more,
          eight-more N v w t hv i.few hw h b,
        );
        back = rw (← (add_assoc at b 8)) (kept_by out out' piece (at + b) 8 s n e out₀ i.back);
      }

-- a full word lies within the block, and so do the last bytes
pub full-room : (w n k b t : ℕ) → k < n → 8 * b + t ≡ k * w → 64 ≤ t + w → b + 8 ≤ bytes_for (n * w)
full-room w n k b t h e f = omega (arith, mul-le-mul_right w h)

-- all n values, and the last bytes
pub whole : {w at n : ℕ} {vals out₀ out : List ℕ} (out' : List ℕ) {x t b k : ℕ} → Holds w at vals out₀ out x t b k → k ≡ n → at + b + (t + 7) / 8 ≤ length out
    → out' ≡ (take (at + b) out ++ digits 256 ((t + 7) / 8) (x / 2 ^ (64 - 8 * ((t + 7) / 8)))) ++ drop (at + b + (t + 7) / 8) out
    → out' ≡ take at out₀ ++ block_bytes w n (record { values = take n vals; pad = 0 }) ++ drop (at + bytes_for (n * w)) out₀
unfolding block_bytes
whole {w} {at} {n} {vals} {out₀} {out} out' {x} {t} {b} i' r l e =
    let i : Holds w at vals out₀ out x t b n = rw r at i' in
    let q = (t + 7) / 8 in
    let N = number (2 ^ w) (take n vals) in
    let piece = digits 256 q (x / 2 ^ (64 - 8 * q)) in
    let s : at + b ≤ length out = omega arith in
    let c : length piece ≡ q = length_digits 256 q _ in
    let m : bytes_for (n * w) ≡ b + q = omega (arith, i.place) in
    let d : block_bytes w n (record { values = take n vals; pad = 0 }) ≡ digits 256 b (N / 2 ^ t) ++ piece
    = ap (λ (y : ℕ). digits 256 y (N * 2 ^ pad_bits w n + 0)) m
    ∙ rw (i.top, add-zero (N * 2 ^ pad_bits w n), last-bytes N b t q (pad_bits w n) i.few (omega (arith, i.few)) (omega (arith, i.place))) in
    sym (take-append-drop (at + b + q) out')
    ∙ rw (
      front-is out out' piece (at + b) q s c e,
      kept_by out out' piece (at + b) q s c e out₀ i.back,
      i.front,
      d,
      m,
      add_assoc at b q,
      append_assoc (take at out₀),
    )
