-- The fixed delta, and what both deltas begin with. Assumes nothing.
use Rattle.format.proofs.Common.{◌≡◌, refl, sym, ap, ◌∙◌, ℕ, ◌+◌, ◌<◌, ◌≤◌, arith, Bool, true, false, List, ◌++◌, map, eqb, ℤ, length}
use Rattle.format.proofs.Common.{drop, length-map, length-append, le-leb}
use Rattle.format.specs.declared.Form.TheVariants.{FixedDelta}
use Rattle.format.specs.declared.Kind.TheVariants as kind
use Rattle.format.specs.Answers.{Answer, ran, refused_at}
use Rattle.format.specs.Fields.{zigzagged, shortest}
use Rattle.format.specs.Runs.{layout, row_count}
use Rattle.format.specs.Rows.{as_u64}
use Rattle.format.specs.Promises.{kind_of, width_of}
use Rattle.format.specs.Writing.{count_allowed, have_form, width_allowed, fit_width, first_of, base_delta, steps_of, values_of, every, described, Written}
use Rattle.writer.specs.Sizes.{Sized, unfit, fit}
use Rattle.writer.specs.Start.{start, Started, StartSize}
use Rattle.writer.proofs.Sizes.{sized-as, has-form}
use Rattle.writer.proofs.Promised.{bad-form, no_room, laid}

-- ---- what both deltas begin with

pub start-length : (code n first base : ℕ) → length (start code n first base) ≡ 2 + length (shortest first) + length (shortest base)
unfolding start
start-length code n first base = omega (arith, length-append (shortest first) (shortest base))

-- by the numbers that the code has at hand
pub started : (code n : ℕ) {f b f' b' : ℕ} → f' ≡ f → b' ≡ b → {out out' : List ℕ} {r : ℕ} → Started (start code n f' b') out out' r
    → Started (start code n f b) out out' r
started code n p q h = rw (p, q) at h

-- ---- fixed delta

pub record Fixed (rows : List ℤ) (signed : Bool) (code : ℕ) : Type 0 where
  pub count : count_allowed FixedDelta (length (map as_u64 rows)) ≡ true
  pub size : width_allowed FixedDelta code ≡ true
  pub fits : fit_width signed FixedDelta code (map as_u64 rows) ≡ true
  pub lay : layout (described signed FixedDelta code (map as_u64 rows))
      ≡ start 0 (length rows) (first_of signed (map as_u64 rows)) (zigzagged (base_delta (map as_u64 rows)))
  pub shape : (kind_of (described signed FixedDelta code (map as_u64 rows)) ≡ kind.Delta)
      × (width_of (described signed FixedDelta code (map as_u64 rows)) ≡ 0)
      × (row_count (described signed FixedDelta code (map as_u64 rows)) ≡ length rows)

pub fixed-known : (rows : List ℤ) (signed : Bool) (code : ℕ) → 1 ≤ length rows → length rows ≤ 512 → code ≡ 0 → Fixed rows signed code
unfolding fit_width values_of described layout start every
fixed-known rows signed code a b z =
    let n : length (map as_u64 rows) ≡ length rows = length-map rows as_u64 in
    record {
      count = rw n (simp (le-leb 1 (length rows) a, le-leb (length rows) 512 b));
      size = rw z;
      fits = refl;
      lay = rw n;
      shape = (refl, refl, n);
    }

module _ {rows : List ℤ} {signed : Bool} {code : ℕ} (k : Fixed rows signed code) where
  abbrev rs : List ℕ
  rs = map as_u64 rows

  abbrev opening : List ℕ
  opening = start 0 (length rows) (first_of signed rs) (zigzagged (base_delta rs))

  laid-size : length (layout (described signed FixedDelta code rs)) ≡ length opening
  laid-size = ap (λ (l : List ℕ). length l) k.lay

  -- its size, by the test of the steps
  module _ (step : ℕ) (s : step ≡ base_delta rs) (same : Bool) (t : same ≡ every (λ x. eqb x step) (steps_of false rs)) where
    form-is : same ≡ have_form FixedDelta rs
    unfolding have_form
    form-is = t ∙ rw s

    pub uneven : same ≡ false → Sized signed FixedDelta code rs 0
    uneven h = unfit (rw (← form-is, h))

    pub even : same ≡ true → {n : ℕ} → StartSize (first_of signed rs) (zigzagged (base_delta rs)) n → Sized signed FixedDelta code rs n
    even h {n} z =
        let e : n ≡ length (layout (described signed FixedDelta code rs)) =
        z.bytes ∙ sym (start-length 0 (length rows) (first_of signed rs) (zigzagged (base_delta rs))) ∙ sym laid-size in
        fit (sym form-is ∙ h) k.fits e (omega (arith, z.bytes)) (omega (arith, z.few))

  pub uneven-refused : {n : ℕ} → Sized signed FixedDelta code rs n → n ≡ 0 → (out : List ℕ) (r : Answer) → r ≡ refused_at 10 0
      → Written rows signed FixedDelta code out out r
  uneven-refused z h out r e = bad-form rows signed FixedDelta code out r k.count k.size (has-form signed FixedDelta code rs z h k.fits) e

  module _ {n : ℕ} (z : Sized signed FixedDelta code rs n) (some : 1 ≤ n) where
    pub opening-size : n ≡ length opening
    opening-size = sized-as signed FixedDelta code rs z some ∙ laid-size

    pub too_short : (out : List ℕ) (r : Answer) → length out < n → r ≡ refused_at 8 0 → Written rows signed FixedDelta code out out r
    too_short out r h e = no_room rows signed FixedDelta code out r k.count k.size z some h e

    pub opened : (out out' : List ℕ) (r : Answer) → n ≤ length out → r ≡ ran kind.Delta 0 (length rows) n
        → out' ≡ opening ++ drop (length opening) out → Written rows signed FixedDelta code out out' r
    opened out out' r h e q =
        laid rows signed FixedDelta code out r k.count k.size z some h out' (rw (k.shape.0, k.shape.1, k.shape.2) e) (rw k.lay q)
