-- The direct runs, laid one behind the other. Assumes nothing.
use mathlib.Core.Path.{◌≡◌, refl, sym, ap, ◌∙◌}
use Prim.Native.Nat.{ℕ, zero, suc, ◌+◌, ◌-◌, ◌<◌, ◌≤◌, min}
use native.Mathlib.Omega.{arith}
use native.Mathlib.Nat.{le_refl}
use native.Mathlib.Decide.{dec_le}
use mathlib.Core.Bool.{Bool}
use mathlib.Core.List.{List, [], ◌∷◌, ◌++◌, map}
use lib.ListN.{length, take, drop, length-append, length-take, length-drop, drop_of_length-le}
use lib.Seq.{take_all, drop-drop}
use lib.IntN.{ℤ}
use Rattle.format.specs.declared.Form.TheVariants.{Direct}
use Rattle.format.specs.Runs.{Description, layout, joined}
use Rattle.format.specs.Rows.{as_u64}
use Rattle.format.specs.Parse.{got}
use Rattle.format.specs.Streams.{total_rows}
use Rattle.format.specs.Writing.{writing, AllI64}
use Rattle.format.proofs.Writing.{written}
use Rattle.util.proofs.Grow.{rest-is}
use Rattle.planner.specs.Check.{parts, wide}
use Rattle.planner.specs.Walk.{Ran, WideLaid}
use Rattle.planner.proofs.Direct.{fit-take, fit-drop, run, run-accepted, run-rows}
use Rattle.planner.proofs.Growing.{Grown, grown-first, grown-next, grown-sum, grown-end}

-- ---- the parts

-- 512 of them, or all that are left
pub take-least : (l : List ℤ) → take 512 l ≡ take (min 512 (length l)) l
take-least l = go (dec_le 512 (length l))
  where
    go : Dec (512 ≤ length l) → take 512 l ≡ take (min 512 (length l)) l
    go (yes h) =
        let e : 512 ≡ min 512 (length l) = omega arith in
        ap (λ (n : ℕ). take n l) e
    go (no h) = take_all 512 l (omega arith) ∙ sym (take_all (min 512 (length l)) l (omega arith))

drop-least : (l : List ℤ) → drop 512 l ≡ drop (min 512 (length l)) l
drop-least l = go (dec_le 512 (length l))
  where
    go : Dec (512 ≤ length l) → drop 512 l ≡ drop (min 512 (length l)) l
    go (yes h) =
        let e : 512 ≡ min 512 (length l) = omega arith in
        ap (λ (n : ℕ). drop n l) e
    go (no h) = drop_of_length-le l {i = 512} (omega arith) ∙ sym (drop_of_length-le l {i = min 512 (length l)} (omega arith))

first_part : (fuel : ℕ) (l : List ℤ) → 0 < length l → length l ≤ fuel
    → parts fuel l ≡ take (min 512 (length l)) l ∷ parts (fuel - 1) (drop (min 512 (length l)) l)
unfolding parts
first_part fuel [] h m = absurd (omega arith)
first_part zero (z ∷ l) h m = absurd (omega arith)
first_part (suc fuel) (z ∷ l) h m =
    let e : suc fuel - 1 ≡ fuel = omega arith in
    rw (← (take-least (z ∷ l)), ← (drop-least (z ∷ l)), e) refl

pub no_part : (fuel : ℕ) (l : List ℤ) → length l ≡ 0 → parts fuel l ≡ []
unfolding parts
no_part zero l h = refl
no_part (suc fuel) [] h = refl
no_part (suc fuel) (z ∷ l) h = absurd (omega arith)

-- ---- their rows

parts-rows : (signed : Bool) (fuel : ℕ) (rows : List ℤ) → length rows ≤ fuel → total_rows (map (run signed) (parts fuel rows)) ≡ length rows
unfolding parts total_rows
parts-rows signed zero [] h = refl
parts-rows signed zero (z ∷ rows) h = absurd (omega arith)
parts-rows signed (suc fuel) [] h = refl
parts-rows signed (suc fuel) (z ∷ rows) h =
    omega (
      arith,
      run-rows signed (take 512 (z ∷ rows)),
      length-take 512 (z ∷ rows),
      length-drop 512 (z ∷ rows),
      parts-rows signed fuel (drop 512 (z ∷ rows)) (simp length-drop (omega arith)),
    )

wide_rows : (signed : Bool) (rows : List ℤ) → total_rows (wide signed rows) ≡ length rows
unfolding wide run
wide_rows signed rows = parts-rows signed (length rows) rows (le_refl _)

-- ---- one behind the other

module _ (signed : Bool) (rows : List ℤ) (out₀ : List ℕ) where
  abbrev left : ℕ → ℕ → List Description
  left fuel row = map (run signed) (parts fuel (drop row rows))

  pub record Widely (out : List ℕ) (runs row bytes : ℕ) : Type 0 where
    pub fuel : ℕ
    pub enough : length rows - row ≤ fuel
    pub row_in : row ≤ length rows
    pub few : runs ≤ row
    pub count : runs + length (left fuel row) ≡ length (wide signed rows)
    pub grown : Grown (joined (wide signed rows)) out₀ out bytes (joined (left fuel row))

  pub wide-first : length (joined (wide signed rows)) ≤ length out₀ → Widely out₀ 0 0 0
  unfolding wide run
  wide-first h = record {
    fuel = length rows;
    enough = omega arith;
    row_in = omega arith;
    few = omega arith;
    count = omega arith;
    grown = grown-first (joined (wide signed rows)) out₀ h;
  }

  module _ (out : List ℕ) (runs row bytes : ℕ) (w : Widely out runs row bytes) where
    pub wide-end : length rows ≤ row → WideLaid signed rows out₀ out (record { runs = runs; rows = record { rows = row }; bytes = record { bytes = bytes } })
    unfolding joined
    wide-end h =
        let z : parts w.fuel (drop row rows) ≡ [] = no_part w.fuel (drop row rows) (omega (arith, length-drop row rows)) in
        let g : Grown (joined (wide signed rows)) out₀ out bytes [] = rw z at w.grown in
        let n : runs + 0 ≡ length (wide signed rows) = rw z at w.count in
        let a : runs ≡ length (wide signed rows) = omega arith in
        let b : row ≡ total_rows (wide signed rows) = omega (arith, w.row_in, wide_rows signed rows) in
        let d : bytes ≡ length (joined (wide signed rows)) = omega (arith, grown-sum g) in
        record { answer = rw (a, b, d); places = grown-end g }

    module _ (i : AllI64 rows) (h : row < length rows) (n : ℕ) (e : n ≡ min 512 (length rows - row)) where
      abbrev part : List ℤ
      part = take n (drop row rows)

      abbrev lent : List ℕ
      lent = take (length out - bytes) (drop bytes out)

      first : parts w.fuel (drop row rows) ≡ part ∷ parts (w.fuel - 1) (drop (row + n) rows)
      first =
          let m : min 512 (length (drop row rows)) ≡ n = omega (arith, length-drop row rows, e) in
          rw (m, drop-drop n row rows) at
          (first_part w.fuel (drop row rows) (omega (arith, length-drop row rows)) (omega (arith, length-drop row rows, w.enough)))

      here : Grown (joined (wide signed rows)) out₀ out bytes (layout (run signed part) ++ joined (left (w.fuel - 1) (row + n)))
      unfolding joined
      here = rw first at w.grown

      count : runs + 1 + length (left (w.fuel - 1) (row + n)) ≡ length (wide signed rows)
      count = let c : runs + suc (length (left (w.fuel - 1) (row + n))) ≡ length (wide signed rows) = rw first at w.count in omega arith

      fits : length (layout (run signed part)) ≤ length lent
      fits =
          rw (rest-is out bytes)
          (omega (arith, length-drop bytes out, grown-sum here, length-append (layout (run signed part)) (joined (left (w.fuel - 1) (row + n))), here.room))

      got-it : writing signed Direct 31 (map as_u64 part) (length lent) ≡ got (run signed part) []
      unfolding run
      got-it =
          written signed Direct 31 (map as_u64 part) (length lent)
          (run-accepted signed part (omega (arith, e, length-take n (drop row rows), length-drop row rows))
          (omega (arith, e, length-take n (drop row rows))) (fit-take n (drop row rows) (fit-drop row rows i)))
          fits

      pub wide-next : (given : List ℕ) (size : ℕ) → Ran (writing signed Direct 31 (map as_u64 part) (length lent)) lent given size
          → Widely (take bytes out ++ (given ++ drop (length out - bytes) (drop bytes out))) (runs + 1) (row + n) (bytes + size)
      wide-next given size r =
          let x : size ≡ length (layout (run signed part)) = r.size ∙ rw got-it in
          let y : given ≡ layout (run signed part) ++ drop (length (layout (run signed part))) lent = r.places ∙ rw got-it in
          record {
            fuel = w.fuel - 1;
            enough = omega (arith, w.enough, e);
            row_in = omega (arith, e, w.row_in);
            few = omega (arith, e, w.few);
            count = count;
            grown = rw x (grown-next (layout (run signed part)) (joined (left (w.fuel - 1) (row + n))) given here y);
          }
