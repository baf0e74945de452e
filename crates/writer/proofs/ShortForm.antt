-- The short repeat. Assumes nothing.
use Rattle.format.proofs.Common.{◌≡◌, refl, sym, ap, ◌∙◌, ℕ, zero, suc, ◌+◌, ◌-◌, ◌*◌, ◌^◌, ◌<◌, ◌≤◌, arith, Bool, true, false}
use Rattle.format.proofs.Common.{and-true, List, [], ◌∷◌, ◌++◌, map, ltb, ℤ, length, get_or, replicate, drop, take, length-map, le-leb}
use mathlib.Core.Bool.{and_self}
use Rattle.format.specs.declared.Form.TheVariants.{ShortRepeat}
use Rattle.format.specs.declared.Kind.TheVariants as kind
use Rattle.format.specs.Answers.{Answer, ran, refused_at}
use Rattle.format.specs.Digits.{digits}
use Rattle.format.specs.Runs.{layout, row_count}
use Rattle.format.specs.Rows.{as_u64}
use Rattle.format.specs.Promises.{kind_of, width_of}
use Rattle.format.specs.Writing.{count_allowed, have_form, width_allowed, fit_width, stored, first_of, values_of, every, described, Written}
use Rattle.format.proofs.Digits.{length_digits}
use Rattle.format.proofs.Tests.{every-same}
use Rattle.format.proofs.Again.{map-replicate}
use Rattle.writer.proofs.Pieces.{behind}
use Rattle.writer.specs.Sizes.{Sized, unfit, fit}
use Rattle.writer.proofs.Sizes.{sized-as}
use Rattle.writer.proofs.Promised.{bad-form, bad-fit, no_room, laid}

-- ---- short repeat

-- a test of equal numbers is a test of one
every_one : (test : ℕ → Bool) (n y : ℕ) → 1 ≤ n → every test (replicate n y) ≡ test y
unfolding every
every_one test zero y h = absurd (omega arith)
every_one test (suc zero) y h = and-true (test y)
every_one test (suc (suc n)) y h = rw (every_one test (suc n) y (omega arith)) (and_self (test y))

pub record Short (rows : List ℤ) (signed : Bool) (w : ℕ) : Type 0 where
  pub count : count_allowed ShortRepeat (length (map as_u64 rows)) ≡ true
  pub size : width_allowed ShortRepeat w ≡ true
  pub fits : have_form ShortRepeat (map as_u64 rows) ≡ true → ltb (first_of signed (map as_u64 rows)) (2 ^ (8 * w)) ≡ fit_width signed ShortRepeat w (map as_u64 rows)
  pub lay : layout (described signed ShortRepeat w (map as_u64 rows)) ≡ ((w - 1) * 8 + (length rows - 3)) ∷ digits 256 w (first_of signed (map as_u64 rows))
  pub shape : (kind_of (described signed ShortRepeat w (map as_u64 rows)) ≡ kind.ShortRepeat)
      × (width_of (described signed ShortRepeat w (map as_u64 rows)) ≡ 8 * w)
      × (row_count (described signed ShortRepeat w (map as_u64 rows)) ≡ length rows)

pub short-known : (rows : List ℤ) (signed : Bool) (w : ℕ) → 3 ≤ length rows → length rows ≤ 10 → 1 ≤ w → w ≤ 8 → Short rows signed w
unfolding have_form fit_width values_of described layout
short-known rows signed w a b c d =
    let rs : List ℕ = map as_u64 rows in
    let n : length rs ≡ length rows = length-map rows as_u64 in
    record {
      count = rw n (simp (le-leb 3 (length rows) a, le-leb (length rows) 10 b));
      size = simp (le-leb 1 w c, le-leb w 8 d);
      fits = λ y.
          let eq : rs ≡ replicate (length rs) (get_or rs 0 0) = every-same (get_or rs 0 0) rs (rw y tt) in
          sym (ap (λ (l : List ℕ). every (λ x. ltb x (2 ^ (8 * w))) (map (stored signed) l)) eq
          ∙ ap (every (λ x. ltb x (2 ^ (8 * w)))) (map-replicate (stored signed) (length rs) (get_or rs 0 0))
          ∙ every_one (λ x. ltb x (2 ^ (8 * w))) (length rs) (first_of signed rs) (rw n (omega arith)));
      lay = rw (length_digits 256 w (first_of signed rs), n);
      shape = (refl, rw (length_digits 256 w (first_of signed rs)), n);
    }

module _ {rows : List ℤ} {signed : Bool} {w : ℕ} (k : Short rows signed w) where
  abbrev rs : List ℕ
  rs = map as_u64 rows

  abbrev value : ℕ
  value = first_of signed rs

  short-size : length (layout (described signed ShortRepeat w rs)) ≡ 1 + w
  short-size = ap (λ (l : List ℕ). length l) k.lay ∙ ap suc (length_digits 256 w value) ∙ omega arith

  -- its size, by the tests of the rows and of the value
  module _ (same : Bool) (e : same ≡ have_form ShortRepeat rs) where
    pub unlike : same ≡ false → Sized signed ShortRepeat w rs 0
    unlike t = unfit (rw (← e, t))

    module _ (t : same ≡ true) (small : Bool) (g : small ≡ ltb value (2 ^ (8 * w))) where
      form-is : have_form ShortRepeat rs ≡ true
      form-is = sym e ∙ t

      pub too_large : small ≡ false → Sized signed ShortRepeat w rs 0
      too_large y = unfit (rw (form-is, ← (k.fits form-is), ← g) y)

      pub alike : small ≡ true → w ≤ 8 → Sized signed ShortRepeat w rs (1 + w)
      alike y h = fit form-is (sym (k.fits form-is) ∙ sym g ∙ y) (sym short-size) (omega arith) (omega arith)

  pub refused-form : (same : Bool) → same ≡ have_form ShortRepeat rs → same ≡ false → (out : List ℕ) (r : Answer) → r ≡ refused_at 10 0
      → Written rows signed ShortRepeat w out out r
  refused-form same e h out r p = bad-form rows signed ShortRepeat w out r k.count k.size (sym e ∙ h) p

  pub refused-fit : (same : Bool) → same ≡ have_form ShortRepeat rs → same ≡ true → {n : ℕ} → Sized signed ShortRepeat w rs n → n ≡ 0
      → (out : List ℕ) (r : Answer) → r ≡ refused_at 11 0
      → Written rows signed ShortRepeat w out out r
  refused-fit same e h z o out r p = bad-fit rows signed ShortRepeat w out r k.count k.size z o (sym e ∙ h) p

  module _ {n : ℕ} (z : Sized signed ShortRepeat w rs n) (some : 1 ≤ n) where
    pub repeat-size : n ≡ 1 + w
    repeat-size = sized-as signed ShortRepeat w rs z some ∙ short-size

    pub too-little : (out : List ℕ) (r : Answer) → length out < n → r ≡ refused_at 8 0 → Written rows signed ShortRepeat w out out r
    too-little out r h e = no_room rows signed ShortRepeat w out r k.count k.size z some h e

    pub repeated : (out out₁ out₂ : List ℕ) (r : Answer) → n ≤ length out → r ≡ ran kind.ShortRepeat (8 * w) (length rows) n
        → out₁ ≡ ((w - 1) * 8 + (length rows - 3)) ∷ drop 1 out → out₂ ≡ take 1 out₁ ++ digits 256 w value ++ drop (1 + w) out₁
        → Written rows signed ShortRepeat w out out₂ r
    repeated out out₁ out₂ r h e e₁ e₂ =
        laid rows signed ShortRepeat w out r k.count k.size z some h out₂ (rw (k.shape.0, k.shape.1, k.shape.2) e)
        (rw k.lay (behind (((w - 1) * 8 + (length rows - 3)) ∷ []) (digits 256 w value) out out₁ out₂ 1 w refl (length_digits 256 w value) e₁ e₂))
