-- The count of ones is the number of true booleans. Assumes nothing.
use mathlib.Core.Path.{◌≡◌, refl, sym, ap, ◌∙◌}
use Prim.Native.Nat.{ℕ, zero, suc, ◌+◌, ◌-◌, ◌*◌, ◌/◌, ◌%◌, ◌^◌, ◌<◌, ◌≤◌}
use native.Mathlib.Omega.{arith}
use native.Mathlib.Decide.{dec_le, dec_lt}
use native.Mathlib.Nat.{mod-lt, zero-lt-suc, pow-suc}
use mathlib.Core.Bool.{Bool, true, false}
use mathlib.Core.List.{List, [], ◌∷◌, ◌++◌}
use Rattle.std.specs.Prelude.{Ok, Err}
use lib.ListN.{length, take, get_or, replicate}
use lib.Seq.{take-append-le, take-append-add, take_at, take-nil}
use lib.Dec.{leb, ltb, eqb}
use lib.Count as n
use lib.Count.{ones, ones_step, ones-le}
use lib.Pow.{shr_lt}
use borrow.Author.Tests.{le-leb, lt-leb, le-ltb, lt-ltb, ltb-true}
use Rattle.format.specs.Digits.{AllBelow, digits}
use Rattle.format.specs.Fields.{pick, bytes_for}
use Rattle.format.specs.Answers.{cutting}
use Rattle.format.specs.Booleans.{ByteRun, repeat, literals, AllValidRuns, run_bytes, bits, joined_bytes, booleans_of}
use Rattle.format.proofs.Digits.{digits-snoc, digits-add, length_digits}
use Rattle.format.proofs.Below.{below-append}
use Rattle.format.proofs.Rows.{below-replicate}
use Rattle.format.proofs.Booleans.{needed-enough}
use Rattle.format.proofs.Tests.{never}
use Rattle.boolean_rle.specs.Ones.{trues, ones_in, count_true, OnesHold, BooleansCounted, CountDetermined}

pub trues-append : (s t : List ℕ) → trues (s ++ t) ≡ trues s + trues t
unfolding trues
trues-append [] t = omega arith
trues-append (b ∷ s) t = omega (arith, trues-append s t)

bit_is : (b : ℕ) → b < 2 → pick (eqb b 0) 0 1 ≡ b
bit_is zero h = refl
bit_is (suc zero) h = refl
bit_is (suc (suc b)) h = absurd (omega arith)

-- the ones of a number below 2^k are those among its k bits
pub trues-digits : (k x : ℕ) → x < 2 ^ k → trues (digits 2 k x) ≡ ones x
unfolding trues digits ones
trues-digits zero x h =
    let e : x ≡ 0 = omega arith in
    rw e
trues-digits (suc k) x h =
    ap trues (digits-snoc 2 k x) ∙ trues-append (digits 2 k (x / 2)) (x % 2 ∷ [])
    ∙ omega (arith, trues-digits k (x / 2) (omega (arith, pow-suc 2 k)), ones_step x, bit_is (x % 2) (mod-lt x (zero-lt-suc 1)))

-- the first bits of a byte are those of its quotient
first-bits : (n b : ℕ) → n ≤ 8 → take n (digits 2 8 b) ≡ digits 2 n (b / 2 ^ (8 - n))
first-bits n b h =
    let e : 8 ≡ n + (8 - n) = omega arith in
    ap (λ (k : ℕ). take n (digits 2 k b)) e ∙ ap (take n) (digits-add 2 n (8 - n) b) ∙ take_at _ _ n (length_digits 2 n (b / 2 ^ (8 - n)))

pub ones-trues : (n : ℕ) (bs : List ℕ) → AllBelow 256 bs → trues (take n (bits bs)) ≡ ones_in n bs
unfolding ones_in trues
ones-trues n [] h = ap trues (take-nil n)
ones-trues n (b ∷ bs) h = by (dec_le 8 n) (λ m. ones-trues m bs h.1)
  where
    len : length (digits 2 8 b) ≡ 8
    len = length_digits 2 8 b

    by : Dec (8 ≤ n) → ((m : ℕ) → trues (take m (bits bs)) ≡ ones_in m bs)
        → trues (take n (digits 2 8 b ++ bits bs)) ≡ pick (leb 8 n) (ones b + ones_in (n - 8) bs) (ones (b / 2 ^ (8 - n)))
    by (yes l) ih =
        let e : n ≡ length (digits 2 8 b) + (n - 8) = omega (arith, len) in
        rw (le-leb 8 n l)
        (ap (λ (k : ℕ). trues (take k (digits 2 8 b ++ bits bs))) e ∙ ap trues (take-append-add (digits 2 8 b) (bits bs) (n - 8))
        ∙ trues-append (digits 2 8 b) (take (n - 8) (bits bs)) ∙ omega (arith, trues-digits 8 b h.0, ih (n - 8)))
    by (no l) ih =
        let e : n + (8 - n) ≡ 8 = omega arith in
        let s : b < 2 ^ (n + (8 - n)) = rw e h.0 in
        rw (lt-leb 8 n (omega arith))
        (ap trues (take-append-le n (digits 2 8 b) (bits bs) (omega (arith, len)) ∙ first-bits n b (omega arith)) ∙ trues-digits n (b / 2 ^ (8 - n)) (shr_lt n (8 - n) s))

pub ones-hold : OnesHold
unfolding count_true
ones-hold n bytes h = record {
  enough = λ l. rw (le-ltb (8 * length bytes) n l, ones-trues n bytes h);
  six = (λ e. short (ltb (8 * length bytes) n) refl e, λ l. rw (lt-ltb (8 * length bytes) n l));
}
  where
    short : (t : Bool) → ltb (8 * length bytes) n ≡ t → pick t (Err (cutting 6 0 0)) (Ok (ones_in n bytes)) ≡ Err (cutting 6 0 0) → 8 * length bytes < n
    short true f e = ltb-true (8 * length bytes) n f
    short false f e = never (cc)

runs-below : (ds : List ByteRun) → AllValidRuns ds → AllBelow 256 (joined_bytes ds)
unfolding joined_bytes run_bytes
runs-below [] v = tt
runs-below (repeat count byte ∷ ds) v = below-append 256 (replicate count byte) (joined_bytes ds) (below-replicate 256 count byte v.0.fits) (runs-below ds v.1)
runs-below (literals bs ∷ ds) v = below-append 256 bs (joined_bytes ds) v.0.fits (runs-below ds v.1)

pub booleans-counted : BooleansCounted
unfolding booleans_of
booleans-counted n ds v m = (ones-hold n (joined_bytes ds) (runs-below ds v)).enough (omega (arith, needed-enough (bytes_for n) ds m))

-- ---- the code's count, a byte at a time

-- bytes, as a slice gives them
abbrev pub Bytes : List ℕ → Type 0
Bytes bs = (j : ℕ) → get_or bs j 0 < 256

no_ones : (bs : List ℕ) → Bytes bs → ones_in 0 bs ≡ 0
unfolding ones_in ones
no_ones [] h = refl
no_ones (b ∷ bs) h =
    let e : b / 256 ≡ 0 = omega (arith, h 0) in
    rw e

-- k more bits, of the byte after i whole ones
pub ones-more : (i k : ℕ) (bs : List ℕ) → i < length bs → 1 ≤ k → k ≤ 8 → Bytes bs → ones_in (8 * i + k) bs ≡ ones_in (8 * i) bs + ones (get_or bs i 0 / 2 ^ (8 - k))
unfolding ones_in
ones-more i k [] l f m h = absurd (omega arith)
ones-more zero k (b ∷ bs) l f m h = by (dec_lt k 8)
  where
    z : ones_in 0 (b ∷ bs) ≡ 0
    z = no_ones (b ∷ bs) h

    by : Dec (k < 8) → ones_in (8 * 0 + k) (b ∷ bs) ≡ ones_in (8 * 0) (b ∷ bs) + ones (b / 2 ^ (8 - k))
    by (yes s) =
        let e : 8 * 0 + k ≡ k = omega arith in
        ap (λ (n : ℕ). ones_in n (b ∷ bs)) e ∙ rw (lt-leb 8 k s) (omega (arith, z))
    by (no s) =
        let e : k ≡ 8 = omega arith in
        let d : b / 2 ^ 0 ≡ b = omega arith in
        rw (e, d) (omega (arith, z, no_ones bs (λ j. h (suc j))))
ones-more (suc i) k (b ∷ bs) l f m h =
    let e : 8 * suc i + k - 8 ≡ 8 * i + k = omega arith in
    let d : 8 * suc i - 8 ≡ 8 * i = omega arith in
    rw (le-leb 8 (8 * suc i + k) (omega arith), le-leb 8 (8 * suc i) (omega arith), e, d)
    (omega (arith, ones-more i k bs (omega arith) f m (λ j. h (suc j))))

pub ones-whole : (bs : List ℕ) → Bytes bs → ones_in (8 * 0) bs ≡ 0
ones-whole bs h = no_ones bs h

pub ones_at_most : (i : ℕ) (bs : List ℕ) → Bytes bs → ones_in (8 * i) bs ≤ 8 * i
unfolding ones_in
ones_at_most i [] h = omega arith
ones_at_most zero (b ∷ bs) h = omega (arith, no_ones (b ∷ bs) h)
ones_at_most (suc i) (b ∷ bs) h =
    let d : 8 * suc i - 8 ≡ 8 * i = omega arith in
    rw (le-leb 8 (8 * suc i) (omega arith), d) (omega (arith, ones-le 8 b (h 0), ones_at_most i bs (λ j. h (suc j))))

pub ones-part : (k b : ℕ) → k ≤ 8 → b < 256 → ones (b / 2 ^ (8 - k)) ≤ k
ones-part k b h l =
    let e : k + (8 - k) ≡ 8 = omega arith in
    let s : b < 2 ^ (k + (8 - k)) = rw e l in
    ones-le k (b / 2 ^ (8 - k)) (shr_lt k (8 - k) s)

-- the answers
pub too_few : (n : ℕ) (bs : List ℕ) → 8 * length bs < n → count_true n bs ≡ Err (cutting 6 0 0)
unfolding count_true
too_few n bs h = rw (lt-ltb (8 * length bs) n h)

pub enough : (n : ℕ) (bs : List ℕ) → n ≤ 8 * length bs → count_true n bs ≡ Ok (ones_in n bs)
unfolding count_true
enough n bs h = rw (le-ltb (8 * length bs) n h)

pub count-determined : CountDetermined
count-determined bytes n r r' p q = p ∙ sym q

-- padding bits are not counted; 6 for more than the bytes hold
padding : count_true 9 (0xF1 ∷ 0x7F ∷ []) ≡ Ok 5
unfolding n.ones_in n.ones ones_in count_true
padding = refl

too_many : count_true 17 (0xF1 ∷ 0x7F ∷ []) ≡ Err (cutting 6 0 0)
unfolding n.ones_in n.ones ones_in count_true
too_many = refl
