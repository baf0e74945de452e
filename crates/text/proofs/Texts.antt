-- Texts written one after the other are the joined text; the digits of a number, the characters of a row, and how many they are.
-- Assumes nothing.
use Rattle.format.proofs.Common.{◌≡◌, refl, sym, ap, ◌∙◌, ℕ, zero, suc, ◌+◌, ◌/◌, ◌%◌, ◌^◌, ◌<◌, ◌≤◌, arith, dec_le, dec_lt, pow-suc}
use Rattle.format.proofs.Common.{add-one, Bool, true, false, List, [], ◌∷◌, ◌++◌, append_assoc, append-nil, length, take, drop, set, get_or}
use Rattle.format.proofs.Common.{length-append, length-take, drop_of_length-le, length-take-le, take_all, drop-drop, take-suc, append_snoc}
use Rattle.format.proofs.Common.{ltb, ℤ, pos, negsuc, w64, SFits, to_z, of_z, to_z-of_z, lt-ltb, le-ltb, le-leb}
use lib.Signed.{le_z}
use lib.Seq.{set_split}
use Rattle.format.specs.Fields.{pick, two64}
use Rattle.std.specs.Prelude.{unsigned_abs}
use Rattle.format.proofs.Tests.{never}
use Rattle.util.proofs.Grow.{same-is, front-is, kept_by}
use Rattle.text.specs.Decimal.{decimal_in, decimal, row_text, rows_text}
use Rattle.text.specs.Written.{TextWritten}

-- ---- written texts

pub none_written : (out : List ℕ) (at : ℕ) → TextWritten [] out at out at
none_written out at = record { next = omega arith; places = sym (same-is out at) }

pub one_written : (out : List ℕ) (at c : ℕ) → at < length out → TextWritten (c ∷ []) out at (set out at c) (at + 1)
one_written out at c h = record { next = refl; places = rw (set_split out at c h, append_snoc, add-one) }

-- the bytes before the next place, and those from it on, with room for the text or without
module _ {t out out' : List ℕ} {at r : ℕ} (w : TextWritten t out at out' r) where
  before-next : take (at + length t) out' ≡ take at out ++ t
  before-next = by (dec_le at (length out))
    where
      by : Dec (at ≤ length out) → take (at + length t) out' ≡ take at out ++ t
      by (yes h) = front-is out out' t at (length t) h refl w.places
      by (no h) =
          rw (w.places, drop_of_length-le out {i = at + length t} (omega arith), append-nil)
          (take_all (at + length t) (take at out ++ t) (simp (length-append, length-take) (omega arith)))

  from_next : (n : ℕ) → drop (at + length t + n) out' ≡ drop (at + length t + n) out
  from_next n = by (dec_le at (length out))
    where
      by : Dec (at ≤ length out) → drop (at + length t + n) out' ≡ drop (at + length t + n) out
      by (yes h) =
          sym (drop-drop n (at + length t) out')
          ∙ ap (λ (l : List ℕ). drop n l) (kept_by out out' t at (length t) h refl w.places out refl)
          ∙ drop-drop n (at + length t) out
      by (no h) =
          rw (w.places, drop_of_length-le out {i = at + length t} (omega arith), append-nil, drop_of_length-le out {i = at + length t + n} (omega arith))
          (drop_of_length-le (take at out ++ t) {i = at + length t + n} (simp (length-append, length-take) (omega arith)))

-- one text and then another, with room or without: `search texts-join` joins a chain of up to three
pub texts-join : {t u out out₁ out₂ : List ℕ} {at r s : ℕ} → TextWritten t out at out₁ r → TextWritten u out₁ r out₂ s → TextWritten (t ++ u) out at out₂ s
texts-join {t} {u} {out} {out₁} {out₂} {at} {r} {s} w v =
    let n : at + length (t ++ u) ≡ at + length t + length u = omega (arith, length-append t u) in
    record {
      next = omega (arith, n, w.next, v.next);
      places = v.places ∙ rw (w.next, before-next w, from_next w (length u), n, append_assoc (take at out) t u);
    }

pub then-written : {t u out out₁ out₂ : List ℕ} {at r s : ℕ} → at ≤ length out → TextWritten t out at out₁ r → TextWritten u out₁ r out₂ s
    → TextWritten (t ++ u) out at out₂ s
then-written h w v = texts-join w v

-- what was written stands within the bytes
pub written-fits : {t out out' : List ℕ} {at r : ℕ} → at ≤ length out → TextWritten t out at out' r → r ≤ length out'
written-fits {t} {out} {out'} {at} {r} h w = omega (arith, w.next, simp (length-append, length-take-le at out h) at (ap length w.places))

-- a text that stands in the first bytes
pub from_first : {t out out' : List ℕ} {r : ℕ} → TextWritten t out 0 out' r → (r ≡ length t) × (out' ≡ t ++ drop (length t) out)
from_first {t} w = let e : 0 + length t ≡ length t = omega arith in (rw e at w.next, rw e at w.places)

-- ---- decimal

module _ (k x : ℕ) where
  decimal-low : x < 10 → decimal_in (suc k) x ≡ (48 + x % 10) ∷ []
  unfolding decimal_in
  decimal-low h =
      let e : x % 10 ≡ x = omega arith in
      rw (lt-ltb x 10 h, e)

  pub decimal-more : 10 ≤ x → decimal_in (suc k) x ≡ decimal_in k (x / 10) ++ ((48 + x % 10) ∷ [])
  unfolding decimal_in
  decimal-more h = rw (le-ltb x 10 h)

-- more places than a number needs change nothing
decimal-fuel : (k x : ℕ) → x < 10 ^ suc k → decimal_in (suc (suc k)) x ≡ decimal_in (suc k) x
decimal-fuel zero x h = decimal-low 1 x (omega (arith, h)) ∙ sym (decimal-low 0 x (omega (arith, h)))
decimal-fuel (suc k) x h = by (dec_lt x 10) (decimal-fuel k (x / 10) (omega (arith, pow-suc 10 (suc k))))
  where
    by : Dec (x < 10) → decimal_in (suc (suc k)) (x / 10) ≡ decimal_in (suc k) (x / 10) → decimal_in (suc (suc (suc k))) x ≡ decimal_in (suc (suc k)) x
    by (yes l) e = decimal-low (suc (suc k)) x l ∙ sym (decimal-low (suc k) x l)
    by (no l) e =
        decimal-more (suc (suc k)) x (omega arith)
        ∙ ap (λ (ds : List ℕ). ds ++ ((48 + x % 10) ∷ [])) e
        ∙ sym (decimal-more (suc k) x (omega arith))

module _ (x : ℕ) where
  -- a number of one digit, and of more
  pub decimal-one : x < 10 → decimal x ≡ (48 + x % 10) ∷ []
  unfolding decimal
  decimal-one h = decimal-low 19 x h

  pub decimal-next : 10 ≤ x → x < two64 → decimal x ≡ decimal (x / 10) ++ ((48 + x % 10) ∷ [])
  unfolding decimal
  decimal-next h l =
      decimal-more 19 x h ∙ ap (λ (ds : List ℕ). ds ++ ((48 + x % 10) ∷ [])) (sym (decimal-fuel 18 (x / 10) (omega arith)))

  pub decimal-longer : 10 ≤ x → x < two64 → length (decimal x) ≡ length (decimal (x / 10)) + 1
  decimal-longer h l = ap length (decimal-next h l) ∙ length-append (decimal (x / 10)) ((48 + x % 10) ∷ [])

pub decimal_in-length : (k x : ℕ) → length (decimal_in k x) ≤ k
unfolding decimal_in
decimal_in-length zero x = omega arith
decimal_in-length (suc k) x = by (ltb x 10) (decimal_in-length k (x / 10))
  where
    by : (t : Bool) → length (decimal_in k (x / 10)) ≤ k → length (pick t ((48 + x) ∷ []) (decimal_in k (x / 10) ++ ((48 + x % 10) ∷ []))) ≤ suc k
    by true l = omega arith
    by false l = omega (arith, length-append (decimal_in k (x / 10)) ((48 + x % 10) ∷ []))

pub decimal-length : (x : ℕ) → length (decimal x) ≤ 20
unfolding decimal
decimal-length x = decimal_in-length 20 x

-- ---- rows, as the machine has them: n is the size of the row

module _ (z : ℤ) (n : ℕ) (f : SFits w64 z) (e : n ≡ unsigned_abs (to_z w64 (of_z w64 z))) where
  size : n ≡ unsigned_abs z
  size = rw (to_z-of_z {w = w64} f) at e

  pub row-plain : le_z (pos 0) (to_z w64 (of_z w64 z)) ≡ true → row_text z ≡ decimal n
  unfolding row_text
  row-plain h = rw size (by z (rw (to_z-of_z {w = w64} f) at h))
    where
      by : (z : ℤ) → le_z (pos 0) z ≡ true → row_text z ≡ decimal (unsigned_abs z)
      by (pos n) h = refl
      by (negsuc n) h = never (cc)

  pub row-minus : le_z (pos 0) (to_z w64 (of_z w64 z)) ≡ false → row_text z ≡ (45 ∷ []) ++ decimal n
  unfolding row_text
  row-minus h = rw size (by z (rw (to_z-of_z {w = w64} f) at h))
    where
      by : (z : ℤ) → le_z (pos 0) z ≡ false → row_text z ≡ (45 ∷ []) ++ decimal (unsigned_abs z)
      by (pos n) h = never (cc (le-leb 0 n (omega arith)))
      by (negsuc n) h = refl

pub row-length : (z : ℤ) → length (row_text z) ≤ 21
unfolding row_text
row-length (pos n) = omega (arith, decimal-length n)
row-length (negsuc n) = omega (arith, decimal-length (suc n))

-- one row more
pub rows_next : (rows : List ℤ) (i : ℕ) → i < length rows
    → rows_text (take (i + 1) rows) ≡ (rows_text (take i rows) ++ (32 ∷ [])) ++ row_text (get_or rows i (pos 0))
unfolding rows_text
rows_next rows i h = rw (add-one, take-suc rows i (pos 0) h) (by (take i rows))
  where
    by : (l : List ℤ) → rows_text (l ++ (get_or rows i (pos 0) ∷ [])) ≡ (rows_text l ++ (32 ∷ [])) ++ row_text (get_or rows i (pos 0))
    by [] = append-nil (32 ∷ row_text (get_or rows i (pos 0)))
    by (z ∷ l) = ap (λ (t : List ℕ). (32 ∷ row_text z) ++ t) (by l) ∙ simp append_assoc
