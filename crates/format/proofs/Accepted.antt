-- What the writer accepts is a valid description, and stands for the rows given. Assumes nothing.
use Rattle.format.proofs.Common.{◌≡◌, refl, sym, ap, ◌∙◌, ℕ, ◌+◌, ◌*◌, ◌^◌, ◌<◌, zero-lt-suc, arith, Bool, false, List, [], ◌∷◌, map}
use Rattle.format.proofs.Common.{T, leb, leb→le, length, get_or, drop, replicate, length-map, pow_pos}
use Rattle.format.specs.declared.Form.{Form}
use Rattle.format.specs.declared.Form.TheVariants.{ShortRepeat, Direct, FixedDelta, PackedDelta}
use Rattle.format.specs.Digits.{AllBelow, digits}
use Rattle.format.specs.Fields.{width, two64, zigzag, zigzagged, row, IsBlock, varint_value, shortest}
use Rattle.format.specs.Runs.{Valid}
use Rattle.format.specs.Kept.{is_kept}
use Rattle.format.specs.Rows.{rows_of, plus}
use Rattle.format.specs.Writing.{stored, minus, steps_of, base_delta, falls, values_of, padded, first_of, described, count_allowed}
use Rattle.format.specs.Writing.{have_form, width_allowed, fit_width}
use Rattle.format.proofs.Digits.{length_digits, digits-below, number_digits, pow-256}
use Rattle.format.proofs.Kept.{kept-code}
use Rattle.format.proofs.Patterns.{zigzag-zigzagged, zigzagged-lt}
use Rattle.format.proofs.Varints.{shortest-varint, shortest-value}
use Rattle.format.proofs.Tests.{and-e, T_true, between_le, every-below, every-same}
use Rattle.format.proofs.Steps.{row-stored, stored-lt, map_back, step-there, walk_steps, steps-even, length-steps, later-steps}
use Rattle.format.proofs.Steps.{steps-lt}

-- ---- what is accepted

pub record Accepted (signed : Bool) (f : Form) (w : ℕ) (rs : List ℕ) : Type 0 where
  pub count : T (count_allowed f (length rs))
  pub form : T (have_form f rs)
  pub size : T (width_allowed f w)
  pub fits : T (fit_width signed f w rs)

-- a list with an element has a first one
first-lt : (rs : List ℕ) → AllBelow two64 rs → get_or rs 0 0 < two64
first-lt [] h = pow_pos 64
first-lt (x ∷ rs) h = h.0

base-lt : (rs : List ℕ) → base_delta rs < two64
unfolding base_delta
base-lt rs = first-lt (steps_of false rs) (steps-lt false rs)

pub base_step : (x y : ℕ) (rs : List ℕ) → base_delta (x ∷ y ∷ rs) ≡ minus y x
unfolding base_delta steps_of
base_step x y rs = refl

-- padding of zeros fits any number of bits
padded-ok : (w : ℕ) (vs : List ℕ) → AllBelow (2 ^ w) vs → IsBlock w (length vs) (padded vs)
padded-ok w vs h = record { count = refl; fits = h; pad_fits = pow_pos _ }

pub accepted-valid : (signed : Bool) (f : Form) (w : ℕ) (rs : List ℕ) → AllBelow two64 rs → Accepted signed f w rs → Valid (described signed f w rs)
unfolding described values_of fit_width
accepted-valid signed ShortRepeat w rs h a =
    let n = between_le 3 10 (length rs) a.count in
    let s = between_le 1 8 w a.size in
    let l : length (digits 256 w (first_of signed rs)) ≡ w = length_digits 256 w (first_of signed rs) in
    record { few = n.0; many = n.1; some_bytes = omega arith; eight = omega arith; bytes = digits-below 256 (zero-lt-suc 255) w (first_of signed rs) }
accepted-valid signed Direct w rs h a =
    let n = between_le 1 512 (length rs) a.count in
    let s = kept-code w (T_true (is_kept w) a.size) in
    let l : length (map (stored signed) rs) ≡ length rs = length-map rs (stored signed) in
    record {
      head = record { code_fits = omega arith; some-rows = omega arith; rows_fit = omega arith };
      block = padded-ok (width w) _ (every-below (2 ^ width w) _ a.fits);
    }
accepted-valid signed FixedDelta w rs h a =
    let n = between_le 1 512 (length rs) a.count in
    record {
      head = record { code_fits = omega arith; some-rows = n.0; rows_fit = n.1 };
      first-varint = shortest-varint _ (stored-lt signed _ (first-lt rs h));
      base-varint = shortest-varint _ (zigzagged-lt _ (base-lt rs));
    }
accepted-valid signed PackedDelta w rs h a =
    let n = between_le 2 512 (length rs) a.count in
    let s = and-e (leb 1 w) (is_kept w) a.size in
    let k = kept-code w (T_true (is_kept w) s.1) in
    let l : length (steps_of (falls (base_delta rs)) (drop 1 rs)) + 2 ≡ length rs = later-steps _ rs n.0 in
    record {
      head = record { code_fits = omega arith; some-rows = omega arith; rows_fit = omega arith };
      not-fixed = leb→le 1 w s.0;
      first-varint = shortest-varint _ (stored-lt signed _ (first-lt rs h));
      base-varint = shortest-varint _ (zigzagged-lt _ (base-lt rs));
      block = padded-ok (width w) _ (every-below (2 ^ width w) _ a.fits);
    }

-- ---- ROUND TRIP: the description of accepted rows stands for them

-- a varint and a zigzag varint come back
first_back : (signed : Bool) (b : ℕ) → b < two64 → row signed (varint_value (shortest (stored signed b))) ≡ b
first_back signed b h = rw (shortest-value (stored signed b) (stored-lt signed b h)) (row-stored signed b h)

base_back : (b : ℕ) → b < two64 → zigzag (varint_value (shortest (zigzagged b))) ≡ b
base_back b h = rw (shortest-value (zigzagged b) (zigzagged-lt b h)) (zigzag-zigzagged b h)

pub accepted-rows : (signed : Bool) (f : Form) (w : ℕ) (rs : List ℕ) → AllBelow two64 rs → Accepted signed f w rs → rows_of signed (described signed f w rs) ≡ rs
unfolding described values_of fit_width rows_of have_form
accepted-rows signed ShortRepeat w [] h a = absurd a.count
accepted-rows signed ShortRepeat w (x ∷ rs) h a =
    let l : stored signed x < 256 ^ w = rw (pow-256 w) (every-below (2 ^ (8 * w)) (map (stored signed) (x ∷ rs)) a.fits).0 in
    rw (number_digits 256 (zero-lt-suc 255) w (stored signed x) l, row-stored signed x h.0) (sym (every-same x (x ∷ rs) a.form))
accepted-rows signed Direct w rs h a = map_back (row signed) (stored signed) two64 (row-stored signed) rs h
accepted-rows signed FixedDelta w [] h a = absurd a.count
accepted-rows signed FixedDelta w (x ∷ rs) h a =
    let b : ℕ = base_delta (x ∷ rs) in
    let e : steps_of false (x ∷ rs) ≡ replicate (length rs) b = rw (length-steps false x rs) at (every-same b (steps_of false (x ∷ rs)) a.form) in
    rw (first_back signed x h.0, base_back b (base-lt (x ∷ rs)))
    (steps-even (length rs) x b ∙ ap (λ (l : List ℕ). x ∷ l) (rw e at (walk_steps false x rs h)))
accepted-rows signed PackedDelta w [] h a = absurd a.count
accepted-rows signed PackedDelta w (x ∷ []) h a = absurd a.count
accepted-rows signed PackedDelta w (x ∷ y ∷ rs) h a =
    let b : ℕ = base_delta (x ∷ y ∷ rs) in
    let e : plus x b ≡ y = rw (base_step x y rs) (step-there false x y h.0 h.1.0) in
    rw (first_back signed x h.0, base_back b (base-lt (x ∷ y ∷ rs)), e)
    (ap (λ (l : List ℕ). x ∷ y ∷ l) (walk_steps (falls b) y rs h.1))
