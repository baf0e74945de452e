-- Hexadecimal digits, two by two; and what the promise of `hexadecimal::bytes` says.
-- Assumes nothing.
use Rattle.format.proofs.Common.{◌≡◌, refl, sym, ap, ◌∙◌, ℕ, suc, ◌+◌, ◌-◌, ◌*◌, ◌/◌, ◌<◌, ◌≤◌, arith, dec_lt, Bool, true, false, ◌&&◌, List, [], ◌∷◌}
use Rattle.format.proofs.Common.{◌++◌, append-nil, ltb, length, take, drop, set, get_or, length-set, drop_of_length-le, drop-cons, take_at}
use Rattle.format.proofs.Common.{length-take-le, leb, lt-ltb, le-ltb, lt-leb, le-leb}
use Rattle.format.specs.Fields.{pick}
use Rattle.format.proofs.Tests.{never}
use Rattle.util.proofs.Grow.{grow, kept, filled}
use Rattle.text.specs.Ascii.{ascii}
use Rattle.text.specs.Hexadecimal.{hex_value, all_hex, hex_bytes, hex_begun, HexRead}

-- ---- the value of a character

pub value-digit : (x : ℕ) → 48 ≤ x → x ≤ 57 → hex_value x ≡ x - 48
unfolding hex_value
value-digit x h g = simp (le-ltb x 48 h, le-leb x 57 g)

pub value-upper : (x : ℕ) → 65 ≤ x → x ≤ 70 → hex_value x ≡ x - 65 + 10
unfolding hex_value
value-upper x h g = simp (le-ltb x 48 (omega arith), lt-leb x 57 (omega arith), le-ltb x 65 h, le-leb x 70 g)

-- above `F`
above : (x : ℕ) → 70 < x → hex_value x ≡ pick (ltb x 97) 16 (pick (leb x 102) (x - 97 + 10) 16)
unfolding hex_value
above x h = simp (le-ltb x 48 (omega arith), lt-leb x 57 (omega arith), le-ltb x 65 (omega arith), lt-leb x 70 h)

pub value-lower : (x : ℕ) → 97 ≤ x → x ≤ 102 → hex_value x ≡ x - 97 + 10
value-lower x h g = simp (above x (omega arith), le-ltb x 97 h, le-leb x 102 g)

-- a character of none of the three ranges
value-below : (x : ℕ) → x < 48 → hex_value x ≡ 16
unfolding hex_value
value-below x l = simp (lt-ltb x 48 l)

value-between : (x : ℕ) → 57 < x → x < 65 → hex_value x ≡ 16
unfolding hex_value
value-between x l m = simp (le-ltb x 48 (omega arith), lt-leb x 57 l, lt-ltb x 65 m)

pub no-value : (x : ℕ) → (48 ≤ x → 57 < x) → (65 ≤ x → 70 < x) → (97 ≤ x → 102 < x) → 16 ≤ hex_value x
no-value x h g k = by (dec_lt x 48) (dec_lt x 65) (dec_lt x 97)
  where
    by : Dec (x < 48) → Dec (x < 65) → Dec (x < 97) → 16 ≤ hex_value x
    by (yes l) d e = omega (arith, value-below x l)
    by (no l) (yes m) e = omega (arith, value-between x (h (omega arith)) m)
    by (no l) (no m) (yes u) = simp (above x (g (omega arith)), lt-ltb x 97 u) (omega arith)
    by (no l) (no m) (no u) = simp (above x (omega arith), le-ltb x 97 (omega arith), lt-leb x 102 (k (omega arith))) (omega arith)

-- two characters at the place p of a line
module _ (s : List ℕ) (p : ℕ) (h : p + 1 < length s) where
  two_here : drop p s ≡ get_or s p 0 ∷ get_or s (p + 1) 0 ∷ drop (p + 2) s
  two_here =
      let e : p + 1 ≡ suc p = omega arith in
      let e2 : p + 2 ≡ suc (suc p) = omega arith in
      rw (e, e2) (drop-cons s p 0 (omega arith) ∙ ap (λ (l : List ℕ). get_or s p 0 ∷ l) (drop-cons s (suc p) 0 (omega arith)))

  -- their byte, if both are digits
  both : hex_value (get_or s p 0) < 16
      → hex_value (get_or s (p + 1) 0) < 16
      → (all_hex (drop p s) ≡ all_hex (drop (p + 2) s))
      × (hex_begun (drop p s) ≡ (hex_value (get_or s p 0) * 16 + hex_value (get_or s (p + 1) 0)) ∷ hex_begun (drop (p + 2) s))
  unfolding all_hex hex_begun
  both g l = rw (two_here, lt-ltb (hex_value (get_or s p 0)) 16 g, lt-ltb (hex_value (get_or s (p + 1) 0)) 16 l) (refl, refl)

-- ---- the loop

-- after i pairs: what stands so far, then the bytes that the rest of the line begins with, are the bytes that the line begins with; the
-- places after them are as they were; and the line is hexadecimal if its rest is
pub record Begun (line frame₀ frame : List ℕ) (i : ℕ) : Type 0 where
  pub same : length frame ≡ length frame₀
  pub digits : all_hex line ≡ all_hex (drop (2 * i) line)
  pub bytes : take i frame ++ hex_begun (drop (2 * i) line) ≡ hex_begun line
  pub rest : drop i frame ≡ drop i frame₀

module _ {line frame₀ frame : List ℕ} {i : ℕ} (b : Begun line frame₀ frame i) where
  -- nothing more to come
  ends : {r : Bool} → i ≤ length frame → (all_hex (drop (2 * i) line) ≡ r) × (hex_begun (drop (2 * i) line) ≡ []) → HexRead line frame₀ frame r
  ends h (a, e) =
      let f : take i frame ++ [] ≡ hex_begun line = rw e at b.bytes in
      let n : length (hex_begun line) ≡ i = ap length (sym f) ∙ ap length (append-nil (take i frame)) ∙ length-take-le i frame h in
      record { answer = sym (b.digits ∙ a); places = rw n (filled frame frame₀ (hex_begun line) i f b.rest) }

  pub ends-line : i ≤ length frame → length line ≤ 2 * i → HexRead line frame₀ frame true
  unfolding all_hex hex_begun
  ends-line h l = ends h (rw (drop_of_length-le line {i = 2 * i} l) (refl, refl))

  module _ (h : 2 * i + 1 < length line) where
    pub ends-high : i ≤ length frame → 16 ≤ hex_value (get_or line (2 * i) 0) → HexRead line frame₀ frame false
    unfolding all_hex hex_begun
    ends-high f l = ends f (rw (two_here line (2 * i) h, le-ltb (hex_value (get_or line (2 * i) 0)) 16 l) (refl, refl))

    pub ends_low : i ≤ length frame → hex_value (get_or line (2 * i) 0) < 16 → 16 ≤ hex_value (get_or line (2 * i + 1) 0) → HexRead line frame₀ frame false
    unfolding all_hex hex_begun
    ends_low f g l =
        ends f (rw (two_here line (2 * i) h, lt-ltb (hex_value (get_or line (2 * i) 0)) 16 g, le-ltb (hex_value (get_or line (2 * i + 1) 0)) 16 l) (refl, refl))

    pub begun-next : i < length frame → hex_value (get_or line (2 * i) 0) < 16 → hex_value (get_or line (2 * i + 1) 0) < 16
        → Begun line frame₀ (set frame i (hex_value (get_or line (2 * i) 0) * 16 + hex_value (get_or line (2 * i + 1) 0))) (i + 1)
    begun-next f g l =
        let z : 2 * (i + 1) ≡ 2 * i + 2 = omega arith in
        let x = both line (2 * i) h g l in
        record {
          same = simp length-set b.same;
          digits = rw z (b.digits ∙ x.0);
          bytes = rw z (grow frame i _ _ _ f (rw x.1 at b.bytes));
          rest = kept frame frame₀ i _ b.rest;
        }

-- ---- the promise

-- on a line of digits the bytes that are begun are all
pub begun_all : (line : List ℕ) → all_hex line ≡ true → hex_begun line ≡ hex_bytes line
unfolding all_hex hex_begun hex_bytes
begun_all [] h = refl
begun_all (c ∷ []) h = refl
begun_all (c ∷ e ∷ cs) h = by (hex_value c * 16 + hex_value e) (ltb (hex_value c) 16) (ltb (hex_value e) 16) h (begun_all cs)
  where
    by : (b : ℕ) (t u : Bool) → t && (u && all_hex cs) ≡ true → (all_hex cs ≡ true → hex_begun cs ≡ hex_bytes cs)
        → pick (t && u) (b ∷ hex_begun cs) [] ≡ b ∷ hex_bytes cs
    by b true true h f = ap (λ (l : List ℕ). b ∷ l) (f h)
    by b true false h f = never (cc)
    by b false u h f = never (cc)

-- half as many as the characters
bytes-length : (line : List ℕ) → length (hex_bytes line) ≡ length line / 2
unfolding hex_bytes
bytes-length [] = refl
bytes-length (c ∷ []) = refl
bytes-length (c ∷ e ∷ cs) = omega (arith, bytes-length cs)

-- so a line of digits stands in the first places
pub all-written : {line frame frame' : List ℕ} {r : Bool} → HexRead line frame frame' r → r ≡ true → take (length line / 2) frame' ≡ hex_bytes line
all-written {line} {frame} {frame'} p t =
    let e = begun_all line (sym p.answer ∙ t) in
    rw (p.places, e) (take_at (hex_bytes line) _ (length line / 2) (bytes-length line))

-- a pair with one digit ends what is begun, whichever of the two it is
pair_ends : (hex_begun (ascii "1F0gAA") ≡ 31 ∷ []) × (hex_begun (ascii "1fg0AA") ≡ 31 ∷ [])
unfolding hex_value hex_begun
pair_ends = (refl, refl)

-- any two outcomes that the promise allows are equal
pub bytes-determined : (line frame o o' : List ℕ) (r r' : Bool) → HexRead line frame o r → HexRead line frame o' r' → (r ≡ r') × (o ≡ o')
bytes-determined line frame o o' r r' p q = (p.answer ∙ sym q.answer, p.places ∙ sym q.places)
