-- A run as the writer lays it down is what its own rows stand for. Assumes nothing.
use Rattle.format.proofs.Common.{◌≡◌, refl, sym, ap, ◌∙◌, ℕ, zero, suc, ◌+◌, ◌*◌, ◌^◌, ◌<◌, ◌≤◌, mod-lt, lt_of_lt_of_le, arith, Bool}
use Rattle.format.proofs.Common.{true, false, List, [], ◌∷◌, map, leb, le→leb, length, get_or, replicate, length-map, length-replicate}
use Rattle.format.proofs.Common.{get_or-replicate, pow_pos, pow_mono}
use Rattle.format.specs.declared.Form.{Form}
use Rattle.format.specs.declared.Form.TheVariants.{ShortRepeat, Direct, FixedDelta, PackedDelta}
use Rattle.format.specs.Digits.{AllBelow, number}
use Rattle.format.specs.Fields.{width, two64, zigzag, zigzagged, row, Varint, varint_value, shortest, Shortest}
use Rattle.format.specs.Runs.{Description, short, direct, fixed, delta, Valid}
use Rattle.format.specs.Kept.{is_kept}
use Rattle.format.specs.Rows
use Rattle.format.specs.Rows.{rows_of, plus, walk}
use Rattle.format.specs.Writing.{stored, steps_of, base_delta, falls, values_of, padded, described, every, have_form, fit_width, AsWritten}
use Rattle.format.specs.Writing.{short-repeat, direct-run, fixed-delta, packed-delta}
use Rattle.format.proofs.Digits.{number_lt, digits_number, pow-256}
use Rattle.format.proofs.Patterns.{zigzagged-zigzag, zigzag-lt}
use Rattle.format.proofs.Varints.{varint-lt, shortest-unique}
use Rattle.format.proofs.Rows.{width-le, below-replicate, row_lt, rows-count}
use Rattle.format.proofs.Tests.{and_i, le-between, below-every, same-every}
use Rattle.format.proofs.Steps.{stored_row, map_back, step_back, steps-walk, steps-even}
use Rattle.format.proofs.Accepted.{Accepted, base_step}

-- ---- AND BACK: a run as the writer lays it down is what its own rows stand for

pub record Again (signed : Bool) (f : Form) (w : ℕ) (d : Description) : Type 0 where
  pub accepted : Accepted signed f w (rows_of signed d)
  pub same : described signed f w (rows_of signed d) ≡ d

pub below-mono : (b c : ℕ) → b ≤ c → (l : List ℕ) → AllBelow b l → AllBelow c l
below-mono b c h [] p = tt
below-mono b c h (x ∷ l) p = (lt_of_lt_of_le p.0 h, below-mono b c h l p.1)

pub map-replicate : (f : ℕ → ℕ) (n x : ℕ) → map f (replicate n x) ≡ replicate n (f x)
map-replicate f zero x = refl
map-replicate f (suc n) x = ap (λ (l : List ℕ). f x ∷ l) (map-replicate f n x)

short-again : (signed : Bool) (w count : ℕ) (value : List ℕ) → length value ≡ w → Valid (short count value) → Again signed ShortRepeat w (short count value)
unfolding described values_of fit_width rows_of have_form
short-again signed w count value e v =
    let u : ℕ = number 256 value in
    let small : u < 2 ^ (8 * w) = rw (pow-256 (length value), e) at (number_lt 256 value v.bytes) in
    let wide : 2 ^ (8 * w) ≤ two64 = pow_mono {i = 8 * w} {j = 64} (omega (arith, v.eight)) in
    let first : get_or (replicate count (row signed u)) 0 0 ≡ row signed u = get_or-replicate count 0 (row signed u) 0 (omega (arith, v.few)) in
    let back : stored signed (row signed u) ≡ u = stored_row signed u (lt_of_lt_of_le small wide) in
    let n : length (replicate count (row signed u)) ≡ count = length-replicate count (row signed u) in
    record {
      accepted = record {
        count = rw n (le-between 3 10 count v.few v.many);
        form = rw first (same-every count (row signed u));
        size = le-between 1 8 w (omega (arith, v.some_bytes)) (omega (arith, v.eight));
        fits = rw (map-replicate (stored signed) count (row signed u), back) (below-every _ _ (below-replicate (2 ^ (8 * w)) count u small));
      };
      same = rw (n, first, back, ← e, digits_number 256 value v.bytes);
    }

values-lt : (w : ℕ) (vs : List ℕ) → AllBelow (2 ^ width w) vs → AllBelow two64 vs
values-lt w vs h = below-mono _ two64 (pow_mono (width-le w)) vs h

direct-again : (signed : Bool) (w : ℕ) (vs : List ℕ) → is_kept w ≡ true → Valid (direct w (padded vs)) → Again signed Direct w (direct w (padded vs))
unfolding described values_of fit_width rows_of have_form
direct-again signed w vs k v =
    let back : map (stored signed) (map (row signed) vs) ≡ vs =
    map_back (stored signed) (row signed) two64 (stored_row signed) vs (values-lt w vs v.block.fits) in
    record {
      accepted = record {
        count = rw (length-map vs (row signed)) (le-between 1 512 (length vs) v.head.some-rows v.head.rows_fit);
        form = tt;
        size = rw k tt;
        fits = rw back (below-every (2 ^ width w) vs v.block.fits);
      };
      same = rw back;
    }

-- the base delta of equal steps: the step, and 0 where there is none
base-even : (m x s : ℕ) → x < two64 → s < two64 → (m ≡ 0 → s ≡ 0) → base_delta (Rows.steps (suc m) x s) ≡ s
unfolding base_delta
base-even m x s hx hs none = rw (steps-even m x s, steps-walk false x (replicate m s) hx (below-replicate two64 m s hs)) (go m none)
  where
    go : (m : ℕ) → (m ≡ 0 → s ≡ 0) → get_or (replicate m s) 0 0 ≡ s
    go zero none = sym (none refl)
    go (suc m) none = refl

-- a varint that has no shorter form is what its own row or step is written as
first_back : (signed : Bool) (first : List ℕ) → Varint 10 first → Shortest first → shortest (stored signed (row signed (varint_value first))) ≡ first
first_back signed first v p = rw (stored_row signed (varint_value first) (varint-lt first v)) (sym (shortest-unique first v p))

base_back : (base : List ℕ) → Varint 10 base → Shortest base → shortest (zigzagged (zigzag (varint_value base))) ≡ base
base_back base v p = rw (zigzagged-zigzag (varint_value base) (varint-lt base v)) (sym (shortest-unique base v p))

still : (base : List ℕ) → varint_value base ≡ 0 → zigzag (varint_value base) ≡ 0
unfolding zigzag
still base e = rw e

fixed-again : (signed : Bool) (n : ℕ) (first base : List ℕ) → Shortest first → Shortest base → (n ≡ 1 → varint_value base ≡ 0) → Valid (fixed n first base)
    → Again signed FixedDelta 0 (fixed n first base)
unfolding described values_of fit_width rows_of have_form every
fixed-again signed zero first base p q one v = absurd (omega (arith, v.head.some-rows))
fixed-again signed (suc m) first base p q one v =
    let x : ℕ = row signed (varint_value first) in
    let s : ℕ = zigzag (varint_value base) in
    let hx : x < two64 = row_lt signed (varint_value first) (varint-lt first v.first-varint) in
    let hs : s < two64 = zigzag-lt (varint_value base) (varint-lt base v.base-varint) in
    let b : base_delta (Rows.steps (suc m) x s) ≡ s = base-even m x s hx hs (λ e. still base (one (ap suc e))) in
    let l : length (Rows.steps (suc m) x s) ≡ suc m = rows-count signed (fixed (suc m) first base) in
    let f : get_or (Rows.steps (suc m) x s) 0 0 ≡ x = ap (λ (l : List ℕ). get_or l 0 0) (steps-even m x s) in
    let e : steps_of false (Rows.steps (suc m) x s) ≡ replicate m s =
    rw (steps-even m x s) (steps-walk false x (replicate m s) hx (below-replicate two64 m s hs)) in
    record {
      accepted = record {
        count = rw l (le-between 1 512 (suc m) v.head.some-rows v.head.rows_fit);
        form = rw (b, e) (same-every m s);
        size = tt;
        fits = tt;
      };
      same = rw (l, f, b, first_back signed first v.first-varint p, base_back base v.base-varint q);
    }

delta-again : (signed : Bool) (w : ℕ) (first base vs : List ℕ) → is_kept w ≡ true → Shortest first → Shortest base → Valid (delta w first base (padded vs))
    → Again signed PackedDelta w (delta w first base (padded vs))
unfolding described values_of fit_width rows_of have_form
delta-again signed w first base vs k p q v =
    let x : ℕ = row signed (varint_value first) in
    let s : ℕ = zigzag (varint_value base) in
    let y : ℕ = plus x s in
    let hx : x < two64 = row_lt signed (varint_value first) (varint-lt first v.first-varint) in
    let hs : s < two64 = zigzag-lt (varint_value base) (varint-lt base v.base-varint) in
    let b : base_delta (x ∷ y ∷ walk (falls s) y vs) ≡ s = base_step x y (walk (falls s) y vs) ∙ step_back false x s hx hs in
    let e : steps_of (falls s) (y ∷ walk (falls s) y vs) ≡ vs =
    steps-walk (falls s) y vs (mod-lt _ (pow_pos 64)) (values-lt w vs v.block.fits) in
    let l : length (x ∷ y ∷ walk (falls s) y vs) ≡ length vs + 2 = rows-count signed (delta w first base (padded vs)) in
    record {
      accepted = record {
        count = rw l (le-between 2 512 (length vs + 2) (omega arith) v.head.rows_fit);
        form = tt;
        size = and_i (leb 1 w) (is_kept w) (le→leb 1 w v.not-fixed) (rw k tt);
        fits = rw (b, e) (below-every (2 ^ width w) vs v.block.fits);
      };
      same = rw (b, e, first_back signed first v.first-varint p, base_back base v.base-varint q);
    }

pub again : (signed : Bool) (f : Form) (w : ℕ) (d : Description) → AsWritten f w d → Valid d → Again signed f w d
again signed f w d (short-repeat {count = count} {value = value} e) v = short-again signed w count value e v
again signed f w d (direct-run {vs = vs} k) v = direct-again signed w vs k v
again signed f w d (fixed-delta {n = n} {first = first} {base = base} p q one) v = fixed-again signed n first base p q one v
again signed f w d (packed-delta {first = first} {base = base} {vs = vs} k p q) v = delta-again signed w first base vs k p q v
