-- The two forms that end in a packed block, direct and packed delta. Assumes nothing.
use Rattle.format.proofs.Common.{◌≡◌, refl, sym, ap, ◌∙◌, ℕ, ◌+◌, ◌-◌, ◌*◌, ◌^◌, ◌<◌, ◌≤◌, arith, Bool, true, false, List, [], ◌∷◌}
use Rattle.format.proofs.Common.{◌++◌, map, append_assoc, leb, ltb, ℤ, length, drop, take, length-map, length-append, take_at, le-leb}
use Rattle.format.specs.declared.Form.{Form}
use Rattle.format.specs.declared.Form.TheVariants.{Direct, PackedDelta}
use Rattle.format.specs.declared.Kind.{Kind}
use Rattle.format.specs.declared.Kind.TheVariants as kind
use Rattle.format.specs.Answers.{Answer, ran, refused_at}
use Rattle.format.specs.Digits.{AllBelow}
use Rattle.format.specs.Fields.{width, bytes_for, block_bytes, zigzagged, shortest}
use Rattle.format.specs.Kept.{is_kept}
use Rattle.format.specs.Runs.{layout, row_count, head}
use Rattle.format.specs.Rows.{as_u64}
use Rattle.format.specs.Promises.{kind_of, width_of}
use Rattle.format.specs.Writing.{count_allowed, have_form, width_allowed, fit_width, stored, first_of, base_delta, steps_of, falls, values_of}
use Rattle.format.specs.Writing.{padded, every, described, Written}
use Rattle.format.proofs.Fields.{length-block}
use Rattle.format.proofs.Tests.{every-below}
use Rattle.format.proofs.Steps.{later-steps}
use Rattle.writer.specs.Start.{start}
use Rattle.writer.proofs.Pieces.{behind}
use Rattle.writer.specs.Sizes.{Sized, unfit, fit}
use Rattle.writer.proofs.Sizes.{fits_width, sized-as}
use Rattle.writer.proofs.Promised.{bad-fit, no_room, laid}

-- ---- the two forms that end in a packed block: p is what stands before it, of m values

pub record Packed (rows : List ℤ) (signed : Bool) (f : Form) (kind : Kind) (code : ℕ) (p : List ℕ) (m bits : ℕ) : Type 0 where
  pub count : count_allowed f (length (map as_u64 rows)) ≡ true
  pub size : width_allowed f code ≡ true
  pub form : have_form f (map as_u64 rows) ≡ true
  pub tests : fit_width signed f code (map as_u64 rows) ≡ every (λ x. ltb x (2 ^ bits)) (values_of signed f (map as_u64 rows))
  pub lay : layout (described signed f code (map as_u64 rows)) ≡ p ++ block_bytes bits m (padded (values_of signed f (map as_u64 rows)))
  pub kinded : kind_of (described signed f code (map as_u64 rows)) ≡ kind
  pub wide : width_of (described signed f code (map as_u64 rows)) ≡ bits
  pub counted : row_count (described signed f code (map as_u64 rows)) ≡ length rows

module _ {rows : List ℤ} {signed : Bool} {f : Form} {kind : Kind} {code : ℕ} {p : List ℕ} {m bits : ℕ} (k : Packed rows signed f kind code p m bits) where
  abbrev rs : List ℕ
  rs = map as_u64 rows

  abbrev vs : List ℕ
  vs = values_of signed f rs

  laid-length : length (layout (described signed f code rs)) ≡ length p + bytes_for (m * bits)
  laid-length = ap (λ (l : List ℕ). length l) k.lay ∙ length-append p (block_bytes bits m (padded vs))
      ∙ ap (λ (n : ℕ). length p + n) (length-block bits m (padded vs))

  -- its size, by the test of the values
  pub too_wide : (t : Bool) → t ≡ every (λ x. ltb x (2 ^ bits)) vs → t ≡ false → Sized signed f code rs 0
  too_wide t e h = unfit (rw (k.form, k.tests, ← e) h)

  pub measured : (t : Bool) → t ≡ every (λ x. ltb x (2 ^ bits)) vs → t ≡ true → {n : ℕ} → n ≡ length p + bytes_for (m * bits) → 1 ≤ n
      → n ≤ 4356 → Sized signed f code rs n
  measured t e h s a b = fit k.form (k.tests ∙ sym e ∙ h) (s ∙ sym laid-length) a b

  -- what is refused
  pub unfitting : {n : ℕ} → Sized signed f code rs n → n ≡ 0 → (out : List ℕ) (r : Answer) → r ≡ refused_at 11 0 → Written rows signed f code out out r
  unfitting z h out r e = bad-fit rows signed f code out r k.count k.size z h k.form e

  pub too_few : {n : ℕ} → Sized signed f code rs n → 1 ≤ n → (out : List ℕ) (r : Answer) → length out < n → r ≡ refused_at 8 0
      → Written rows signed f code out out r
  too_few z some out r h e = no_room rows signed f code out r k.count k.size z some h e

  -- what is written
  module _ {n : ℕ} (z : Sized signed f code rs n) (some : 1 ≤ n) where
    pub all-of-it : n ≡ length p + bytes_for (m * bits)
    all-of-it = sized-as signed f code rs z some ∙ laid-length

    pub values-below : (vals : List ℕ) → take m vals ≡ vs → AllBelow (2 ^ bits) (take m vals)
    values-below vals v = every-below (2 ^ bits) (take m vals) (rw (v, ← k.tests, fits_width signed f code rs z some) tt)

    pub packed : (vals out out₁ out₂ : List ℕ) (at : ℕ) (r : Answer) → take m vals ≡ vs → n ≤ length out → r ≡ ran kind bits (length rows) n
        → at ≡ length p → out₁ ≡ p ++ drop (length p) out
        → out₂ ≡ take at out₁ ++ block_bytes bits m (padded (take m vals)) ++ drop (at + bytes_for (m * bits)) out₁ → Written rows signed f code out out₂ r
    packed vals out out₁ out₂ at r v h e i e₁ e₂ =
        laid rows signed f code out r k.count k.size z some h out₂ (rw (k.kinded, k.wide, k.counted) e)
        (rw k.lay (behind p (block_bytes bits m (padded vs)) out out₁ out₂ at (bytes_for (m * bits)) i (length-block bits m (padded vs)) e₁ (rw v at e₂)))

-- ---- direct

pub direct-packed : (rows : List ℤ) (signed : Bool) (code : ℕ) {bits : ℕ} → 1 ≤ length rows → length rows ≤ 512 → is_kept code ≡ true
    → bits ≡ width code → Packed rows signed Direct kind.Direct code (head 1 code (length rows)) (length rows) bits
unfolding have_form fit_width values_of described layout
direct-packed rows signed code a b c w =
    let n : length (map as_u64 rows) ≡ length rows = length-map rows as_u64 in
    let m : length (map (stored signed) (map as_u64 rows)) ≡ length rows = length-map (map as_u64 rows) (stored signed) ∙ n in
    record {
      count = rw n (simp (le-leb 1 (length rows) a, le-leb (length rows) 512 b));
      size = c;
      form = refl;
      tests = rw w;
      lay = rw (m, w);
      kinded = refl;
      wide = sym w;
      counted = m;
    }

pub direct-values : (rows : List ℤ) (signed : Bool) (vals rest : List ℕ) → vals ≡ map (stored signed) (map as_u64 rows) ++ rest
    → take (length rows) vals ≡ values_of signed Direct (map as_u64 rows)
unfolding values_of
direct-values rows signed vals rest e =
    rw e (take_at (map (stored signed) (map as_u64 rows)) rest (length rows) (length-map (map as_u64 rows) (stored signed) ∙ length-map rows as_u64))

-- ---- packed delta

regroup : (h f b k : List ℕ) → (h ++ (f ++ b)) ++ k ≡ h ++ (f ++ (b ++ k))
regroup h f b k = simp append_assoc

map-rest : (rows : List ℤ) → map as_u64 (drop 1 rows) ≡ drop 1 (map as_u64 rows)
map-rest [] = refl
map-rest (z ∷ rows) = refl

module _ (rows : List ℤ) (signed : Bool) (a : 2 ≤ length rows) where
  abbrev drs : List ℕ
  drs = map as_u64 rows

  -- the steps behind the first row
  later : length (steps_of (falls (base_delta drs)) (drop 1 drs)) ≡ length rows - 2
  later =
      let n : length drs ≡ length rows = length-map rows as_u64 in
      let m : length (steps_of (falls (base_delta drs)) (drop 1 drs)) + 2 ≡ length rows = later-steps (falls (base_delta drs)) drs (rw n a) ∙ n in
      omega arith

  pub delta-steps : (step : ℕ) → step ≡ base_delta drs → steps_of (leb (2 ^ 63) step) (map as_u64 (drop 1 rows)) ≡ values_of signed PackedDelta drs
  unfolding values_of
  delta-steps step s = rw (s, map-rest rows)

  pub delta-values : (step : ℕ) (vals rest : List ℕ) → step ≡ base_delta drs → vals ≡ steps_of (leb (2 ^ 63) step) (map as_u64 (drop 1 rows)) ++ rest
      → take (length rows - 2) vals ≡ values_of signed PackedDelta drs
  unfolding values_of
  delta-values step vals rest s e =
      rw (e, s, map-rest rows) (take_at (steps_of (falls (base_delta drs)) (drop 1 drs)) rest (length rows - 2) later)

  pub delta-packed : (code : ℕ) {bits : ℕ} → length rows ≤ 512 → 1 ≤ code → is_kept code ≡ true → bits ≡ width code
      → Packed rows signed PackedDelta kind.Delta code (start code (length rows) (first_of signed drs) (zigzagged (base_delta drs))) (length rows - 2) bits
  unfolding have_form fit_width values_of described layout start
  delta-packed code b c c' w =
      let n : length drs ≡ length rows = length-map rows as_u64 in
      let vs : List ℕ = steps_of (falls (base_delta drs)) (drop 1 drs) in
      let m : length vs + 2 ≡ length rows = omega (arith, later) in
      record {
        count = rw n (simp (le-leb 2 (length rows) a, le-leb (length rows) 512 b));
        size = rw (le-leb 1 code c) c';
        form = refl;
        tests = rw w;
        lay = rw (m, later, w)
            (sym (regroup (head 3 code (length rows)) (shortest (first_of signed drs)) (shortest (zigzagged (base_delta drs)))
            (block_bytes (width code) (length rows - 2) (padded vs))));
        kinded = refl;
        wide = sym w;
        counted = m;
      }
