-- A run's bytes, and their bits laid into places. Assumes nothing.
use mathlib.Core.Path.{◌≡◌, refl, sym, ap, ◌∙◌}
use Prim.Native.Nat.{ℕ, zero, suc, ◌+◌, ◌-◌, ◌*◌, ◌/◌, ◌%◌, ◌^◌, ◌<◌, ◌≤◌}
use native.Mathlib.Omega.{arith}
use native.Mathlib.Nat.{add-zero}
use mathlib.Core.List.{List, [], ◌∷◌, ◌++◌, append_assoc}
use Rattle.std.specs.Prelude.{Ok}
use Rattle.std.proofs.Common.{Fits, w8}
use lib.ListN.{length, get_or, take, drop, set, get_or-replicate, length-append, length-drop, get_or-append}
use lib.Seq.{drop-drop, drop-cons, drop-append-le, drop-append-add, set_at, take-suc, append_snoc, length-take-le, get_or-drop}
use Rattle.format.specs.Digits.{digits}
use Rattle.format.specs.Parse.{Parsed, end, got, refused}
use Rattle.format.specs.Booleans.{ByteRun, repeat, literals, run_layout, run_bytes, byte_count, bits, byte_run}
use Rattle.format.proofs.Digits.{length_digits, getD-digits}
use Rattle.format.proofs.Booleans.{length_run, length-bits}
use Rattle.boolean_rle.specs.declared.ByteRun as code
use Rattle.boolean_rle.specs.declared.run.RunAt.{RunAt}
use Rattle.boolean_rle.specs.Found.{found_in, run_bytes_in, bytes_at, Wrote}
use Rattle.boolean_rle.proofs.FirstPass.{Here, here, count_in}

-- ---- a run's bytes

-- byte i of the run at p, whose bytes are bs, by its control: where it stands
pub record ByteAt (s : List ℕ) (p i : ℕ) (bs : List ℕ) : Type 0 where
  pub there : p < length s
  pub copied : get_or s p 0 < 128 → (p + 1 < length s) × (get_or s (p + 1) 0 ≡ get_or bs i 0)
  pub literal : 128 ≤ get_or s p 0 → (p + 1 + i < length s) × (get_or s (p + 1 + i) 0 ≡ get_or bs i 0)

-- element j of what stands at p
pub at_place : (s : List ℕ) {t : List ℕ} (p j : ℕ) → drop p s ≡ t → get_or s (p + j) 0 ≡ get_or t j 0
at_place s p j e = sym (get_or-drop p s j 0) ∙ ap (λ (x : List ℕ). get_or x j 0) e

pub byte-at : (s : List ℕ) (p : ℕ) (e : code.ByteRun) (d : ByteRun) → Here s p e d → (i : ℕ) → i < e.count → ByteAt s p i (run_bytes d)
unfolding run_layout run_bytes byte_count
byte-at s p e (repeat count byte) h i l =
    let c : get_or s p 0 ≡ count - 3 = rw add-zero at (at_place s p 0 h.split) in
    record {
      there = omega (arith, h.inside, h.size_is);
      copied = λ u. (omega (arith, h.inside, h.size_is), at_place s p 1 h.split ∙ sym (get_or-replicate count i byte 0 (omega (arith, h.count-is))));
      literal = λ u. absurd (omega (arith, h.valid));
    }
byte-at s p e (literals bs) h i l =
    let c : get_or s p 0 ≡ 256 - length bs = rw add-zero at (at_place s p 0 h.split) in
    let z : p + 1 + i ≡ p + suc i = omega arith in
    record {
      there = omega (arith, h.inside, h.size_is);
      copied = λ u. absurd (omega (arith, h.valid));
      literal = λ u. (omega (arith, h.inside, h.size_is, h.count-is), rw z (at_place s p (suc i) h.split ∙ get_or-append bs _ 0 i (omega (arith, h.count-is))));
    }

pub bytes-are : (s : List ℕ) (p : ℕ) (e : code.ByteRun) (d : ByteRun) → Here s p e d → run_bytes_in (byte_run (drop p s)) ≡ run_bytes d
bytes-are s p e d h = ap run_bytes_in h.is-run

-- byte i of the run that was found
pub byte_of : (r : RunAt) → ((i : ℕ) → Fits w8 (get_or r.input.now i 0)) → (i : ℕ) → i < r.run.count
    → ByteAt r.input.now r.at i (bytes_at r.input.now r.at)
byte_of r b i l =
    let (d, h) = here r.input.now r.at r.run (λ i. (b i).fits) r.found in
    rw (bytes-are r.input.now r.at r.run d h) (byte-at r.input.now r.at r.run d h i l)

pub length-bytes : (total : ℕ) (m : Parsed ByteRun) (e : code.ByteRun) → found_in total m ≡ Ok e → length (run_bytes_in m) ≡ e.count
unfolding count_in
length-bytes total end e f = ap count_in f
length-bytes total (got d rest) e f = length_run d ∙ ap count_in f
length-bytes total (refused r) e f = ap count_in f

-- how many are left of them after some
pub length-left : (d : ByteRun) (skip : ℕ) → length (drop skip (run_bytes d)) ≡ byte_count d - skip
length-left d skip = rw (length-drop, length_run d)

-- ---- values in places

-- one place more of what is to stand there
grow : (all d : List ℕ) (p : ℕ) → p < length all → p < length d → set (take p all ++ drop p d) p (get_or all p 0) ≡ take (suc p) all ++ drop (suc p) d
grow all d p h l =
    rw (drop-cons d p 0 l, take-suc all p 0 h, append_snoc)
    (set_at (take p all) (get_or d p 0) (drop (suc p) d) (get_or all p 0) p (length-take-le p all (omega arith)))

pub wrote_none : (k : ℕ) (ys out : List ℕ) → Wrote k (k + 0) ys out out
wrote_none k ys out all d more e o = rw add-zero o

-- what follows them changes nothing
pub wrote-more : (k k' : ℕ) (ys zs o out : List ℕ) → Wrote k k' ys o out → Wrote k k' (ys ++ zs) o out
wrote-more k k' ys zs o out w all d more e f = w all d (zs ++ more) (e ∙ append_assoc ys zs more) f

-- some of them, and then those that are left
pub wrote_on : (k j n : ℕ) (ys zs o out out' : List ℕ) → k ≤ j → j - k ≤ length ys → drop (j - k) ys ≡ zs → Wrote k j ys o out
    → Wrote j n zs out out'
    → Wrote k n ys o out'
wrote_on k j n ys zs o out out' h l g w v all d more e f =
    let y : j ≡ k + (j - k) = omega arith in
    let q : drop j all ≡ zs ++ more =
    ap (λ (x : ℕ). drop x all) y ∙ sym (drop-drop (j - k) k all) ∙ ap (λ (x : List ℕ). drop (j - k) x) e
    ∙ drop-append-le (j - k) ys more l ∙ ap (λ (x : List ℕ). x ++ more) g in
    v all d more q (w all d more e f)

-- one of them more: the turn of a loop that stores them
pub one_more : (ys : List ℕ) (k j v : ℕ) (o out : List ℕ) → j < length ys → k + j < length out → v ≡ get_or ys j 0 → Wrote k (k + j) ys o out
    → Wrote k (k + (j + 1)) ys o (set out (k + j) v)
one_more ys k j v o out h l i w all d more e f =
    let u : out ≡ take (k + j) all ++ drop (k + j) d = w all d more e f in
    let b : length all - k ≡ length ys + length more = sym (length-drop k all) ∙ ap length e ∙ length-append ys more in
    let n : length out ≡ k + j + (length d - (k + j)) =
    ap length u ∙ length-append (take (k + j) all) (drop (k + j) d) ∙ rw (length-take-le (k + j) all (omega arith), length-drop (k + j) d) in
    let g : v ≡ get_or all (k + j) 0 = i ∙ sym (at_place all k j e ∙ get_or-append ys more 0 j h) in
    let z : k + (j + 1) ≡ suc (k + j) = omega arith in
    rw (u, g, z) (grow all d (k + j) (omega arith) (omega arith))

-- bit j of a byte after its first `skip`
pub bit_is : (byte skip j : ℕ) → skip + j < 8 → byte / 2 ^ (7 - (skip + j)) % 2 ≡ get_or (drop skip (digits 2 8 byte)) j 0
bit_is byte skip j h = sym (get_or-drop skip (digits 2 8 byte) j 0 ∙ getD-digits 2 8 byte (skip + j) h)

-- the bits from byte i on
pub bits-from : (bs : List ℕ) (i : ℕ) → i < length bs → drop (8 * i) (bits bs) ≡ digits 2 8 (get_or bs i 0) ++ bits (drop (suc i) bs)
bits-from [] i h = absurd (omega arith)
bits-from (b ∷ bs) zero h = refl
bits-from (b ∷ bs) (suc i) h =
    let z : 8 * suc i ≡ length (digits 2 8 b) + 8 * i = rw length_digits (omega arith) in
    rw (z, drop-append-add (digits 2 8 b) (bits bs) (8 * i)) (bits-from bs i (omega (arith, h)))

-- byte i of some bytes, or the first m bits of it
pub byte_more : (bs : List ℕ) (k i m : ℕ) (o out out' : List ℕ) → i < length bs → Wrote k (k + 8 * i) (bits bs) o out
    → Wrote (k + 8 * i) (k + 8 * i + m) (digits 2 8 (get_or bs i 0)) out out' → Wrote k (k + 8 * i + m) (bits bs) o out'
byte_more bs k i m o out out' h w v =
    let z : k + 8 * i - k ≡ 8 * i = omega arith in
    let q : drop (k + 8 * i - k) (bits bs) ≡ digits 2 8 (get_or bs i 0) ++ bits (drop (suc i) bs) = ap (λ (x : ℕ). drop x (bits bs)) z
    ∙ bits-from bs i h in
    wrote_on k (k + 8 * i) (k + 8 * i + m) (bits bs) _ o out out' (omega arith) (rw length-bits (omega arith)) q w
    (wrote-more (k + 8 * i) (k + 8 * i + m) (digits 2 8 (get_or bs i 0)) (bits (drop (suc i) bs)) out out' v)
