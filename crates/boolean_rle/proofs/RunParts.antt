-- A part of a run's bytes: of a repeat they are copies of one byte, and of literals a part of the input. Assumes nothing.
use mathlib.Core.Path.{◌≡◌, refl, sym, ap, ◌∙◌}
use Prim.Native.Nat.{ℕ, zero, suc, ◌+◌, ◌-◌, ◌<◌, ◌≤◌}
use native.Mathlib.Omega.{arith}
use native.Mathlib.Nat.{add-zero}
use mathlib.Core.List.{List, ◌∷◌, ◌++◌, append_assoc}
use Rattle.std.proofs.Common.{Fits, w8}
use Rattle.std.proofs.lemmas.Slice.{put_mid-paste}
use borrow.Rule.Slice.PartMut.{put_mid}
use lib.ListN.{length, get_or, take, drop, replicate, length-append, length-drop, length-take, take-append-drop}
use lib.Seq.{drop-drop, drop-append-le, drop-append-add, take-add, take_at, take-append-le, length-take-le, take_all, paste, paste-zero}
use Rattle.format.specs.Booleans.{ByteRun, repeat, literals, run_layout, run_bytes, byte_count}
use Rattle.boolean_rle.specs.declared.ByteRun as code
use Rattle.boolean_rle.specs.declared.run.RunAt.{RunAt}
use Rattle.boolean_rle.specs.Found.{bytes_at, Wrote}
use Rattle.boolean_rle.proofs.FirstPass.{Here, here}
use Rattle.boolean_rle.proofs.RunBytes.{at_place, bytes-are, wrote-more}

copies : (n first count b : ℕ) → count ≤ n - first → take count (drop first (replicate n b)) ≡ replicate count b
copies n first zero b h = refl
copies zero first (suc count) b h = absurd (omega arith)
copies (suc n) zero (suc count) b h = ap (λ (x : List ℕ). b ∷ x) (copies n zero count b (omega arith))
copies (suc n) (suc first) (suc count) b h = copies n first (suc count) b (omega arith)

-- some bytes of the run at p, whose bytes are bs, by its control: where they stand
pub record PartAt (s : List ℕ) (p first count : ℕ) (bs : List ℕ) : Type 0 where
  pub there : p < length s
  pub copied : get_or s p 0 < 128 → (p + 1 < length s) × (take count (drop first bs) ≡ replicate count (get_or s (p + 1) 0))
  pub literal : 128 ≤ get_or s p 0
      → (p + 1 + first + count ≤ length s) × (take count (drop first bs) ≡ take count (drop (p + 1 + first) s))

pub part_at : (s : List ℕ) (p : ℕ) (e : code.ByteRun) (d : ByteRun) → Here s p e d → (first count : ℕ) → 0 < count
    → count ≤ e.count - first → PartAt s p first count (run_bytes d)
unfolding run_layout run_bytes byte_count
part_at s p e (repeat n byte) h first count some l =
    let control : get_or s p 0 ≡ n - 3 = rw add-zero at (at_place s p 0 h.split) in
    let byte-is : get_or s (p + 1) 0 ≡ byte = at_place s p 1 h.split in
    record {
      there = omega (arith, h.inside, h.size_is);
      copied = λ u. (omega (arith, h.inside, h.size_is), rw byte-is (copies n first count byte (omega (arith, h.count-is))));
      literal = λ u. absurd (omega (arith, h.valid));
    }
part_at s p e (literals bs) h first count some l =
    let control : get_or s p 0 ≡ 256 - length bs = rw add-zero at (at_place s p 0 h.split) in
    let rest = drop (p + e.size) s in
    let z : p + 1 + first ≡ p + suc first = omega arith in
    let after : drop (p + 1 + first) s ≡ drop first bs ++ rest =
    ap (λ (x : ℕ). drop x s) z ∙ sym (drop-drop (suc first) p s) ∙ ap (λ (x : List ℕ). drop (suc first) x) h.split
    ∙ drop-append-le first bs rest (omega (arith, h.count-is)) in
    record {
      there = omega (arith, h.inside, h.size_is);
      copied = λ u. absurd (omega (arith, h.valid));
      literal = λ u. (
        omega (arith, h.inside, h.size_is, h.count-is),
        sym (ap (take count) after ∙ take-append-le count (drop first bs) rest (rw length-drop (omega (arith, h.count-is)))),
      );
    }

-- a part of the run that was found
pub part_of : (r : RunAt) → ((i : ℕ) → Fits w8 (get_or r.input.now i 0)) → (first count : ℕ) → 0 < count → count ≤ r.run.count - first
    → PartAt r.input.now r.at first count (bytes_at r.input.now r.at)
part_of r b first count some l =
    let (d, h) = here r.input.now r.at r.run (λ i. (b i).fits) r.found in
    rw (bytes-are r.input.now r.at r.run d h) (part_at r.input.now r.at r.run d h first count some l)

-- ---- values in places, that were stored as a part

-- the first bytes of ys are zs, whose values were stored: a byte stands for itself, or for its bits
pub wrote-front : (values : List ℕ → List ℕ) → ((a b : List ℕ) → values (a ++ b) ≡ values a ++ values b) → (k k' c : ℕ)
    (ys zs o out : List ℕ) → take c ys ≡ zs → Wrote k k' (values zs) o out → Wrote k k' (values ys) o out
wrote-front values join k k' c ys zs o out e w =
    let split : values ys ≡ values zs ++ values (drop c ys) =
    ap values (sym (take-append-drop c ys)) ∙ join (take c ys) (drop c ys) ∙ rw e in
    rw split (wrote-more k k' (values zs) (values (drop c ys)) o out w)

-- a copy of c of them
pub wrote-copy : (k c : ℕ) (ys part o out : List ℕ) → c ≤ length ys → take c ys ≡ take c part → out ≡ paste o k part c
    → Wrote k (k + c) ys o out
wrote-copy k zero ys part o out h t p all d more e f = rw add-zero (p ∙ sym (paste-zero o k part) ∙ f)
wrote-copy k (suc c) ys part o out h t p all d more e f =
    let l : length all - k ≡ length ys + length more = sym (length-drop k all) ∙ ap length e ∙ length-append ys more in
    let n : length (take k all) ≡ k = length-take-le k all (omega arith) in
    let before : take k o ≡ take k all = ap (take k) f ∙ take_at (take k all) (drop k d) k n in
    let z : k + suc c ≡ length (take k all) + suc c = rw n in
    let after : drop (k + suc c) o ≡ drop (k + suc c) d =
    ap (drop (k + suc c)) f ∙ ap (λ (x : ℕ). drop x (take k all ++ drop k d)) z ∙ drop-append-add (take k all) (drop k d) (suc c)
    ∙ drop-drop (suc c) k d in
    let here : take (suc c) part ≡ take (suc c) (drop k all) = sym t ∙ sym (ap (take (suc c)) e ∙ take-append-le (suc c) ys more h) in
    p ∙ rw (before, after, here, take-add k (suc c) all, append_assoc)

-- c of them, laid into a part of the places
pub wrote-part : (k c : ℕ) (ys part o : List ℕ) → take c ys ≡ part → length part ≡ c → Wrote k (k + c) ys o (put_mid k (k + c - k) o part)
wrote-part k c ys part o e l =
    wrote-copy k c ys part o _ (omega (arith, ap length e, length-take c ys)) (e ∙ sym (take_all c part (omega arith)))
    (put_mid-paste k (k + c - k) o part part c refl (omega arith) (omega arith))
