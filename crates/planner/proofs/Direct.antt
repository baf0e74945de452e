-- The direct runs of 64 bits stand for the rows, and take two bytes a run and eight a row. Assumes nothing.
use mathlib.Core.Path.{◌≡◌, refl, sym, ◌∙◌}
use Prim.Native.Nat.{ℕ, zero, suc, ◌+◌, ◌-◌, ◌*◌, ◌/◌, ◌<◌, ◌≤◌, min}
use native.Mathlib.Omega.{arith}
use native.Mathlib.Nat.{le_refl}
use native.Mathlib.Decide.{dec_le}
use mathlib.Core.Bool.{Bool}
use mathlib.Core.List.{List, [], ◌∷◌, map}
use lib.ListN.{length, get_or, take, drop, length-map, length-append, length-take, length-drop, take-append-drop}
use lib.Dec.{leb}
use lib.IntN.{ℤ, pos}
use mir.Syntax.{w64}
use mir.Val.{SFits}
use borrow.Author.Tests.{le-leb, lt-leb}
use Rattle.format.specs.declared.Form.TheVariants.{Direct}
use Rattle.format.specs.Digits.{AllBelow}
use Rattle.format.specs.Fields.{widths, width, two64}
use Rattle.format.specs.Kept.{is_kept, among, kept_codes}
use Rattle.format.specs.Runs.{Description, Valid, AllValid, row_count, layout, joined}
use Rattle.format.specs.Rows.{i64_rows, as_u64}
use Rattle.format.specs.Parse.{got}
use Rattle.format.specs.Streams.{joined_rows}
use Rattle.format.specs.Writing.{stored, values_of, described, have_form, fit_width, writing, AllI64}
use Rattle.format.proofs.Patterns.{as-lt}
use Rattle.format.proofs.Rows.{bytes_count}
use Rattle.format.proofs.Accepted.{Accepted}
use Rattle.format.proofs.Tests.{le-between, below-every}
use Rattle.format.proofs.Steps.{stored-lt}
use Rattle.format.proofs.Writing.{written, reads-back}
use Rattle.planner.specs.Check.{parts, wide}
use Rattle.planner.specs.Laws.{WideHolds}

-- ---- rows of parts

pub fit-take : (n : ℕ) (rows : List ℤ) → AllI64 rows → AllI64 (take n rows)
fit-take zero rows h = tt
fit-take (suc n) [] h = tt
fit-take (suc n) (z ∷ rows) h = (h.0, fit-take n rows h.1)

pub fit-drop : (n : ℕ) (rows : List ℤ) → AllI64 rows → AllI64 (drop n rows)
fit-drop zero rows h = h
fit-drop (suc n) [] h = tt
fit-drop (suc n) (z ∷ rows) h = fit-drop n rows h.1

pub fit-more : (rows : List ℤ) (i : ℕ) → i < length rows → SFits w64 (get_or rows i (pos 0)) → AllI64 (take i rows) → AllI64 (take (suc i) rows)
fit-more [] i h f g = absurd (omega arith)
fit-more (z ∷ rows) zero h f g = (f, tt)
fit-more (z ∷ rows) (suc i) h f g = (g.0, fit-more rows i (omega arith) f g.1)

-- what is stored of i64 rows has 64 bits
stored-below : (signed : Bool) (rows : List ℤ) → AllI64 rows → AllBelow two64 (map (stored signed) (map as_u64 rows))
stored-below signed [] h = tt
stored-below signed (z ∷ rows) h = (stored-lt signed (as_u64 z) (as-lt z h.0), stored-below signed rows h.1)

-- ---- one part

module _ (signed : Bool) (part : List ℤ) where
  unfoldable pub run : Description
  run = described signed Direct 31 (map as_u64 part)

  pub run-accepted : 1 ≤ length part → length part ≤ 512 → AllI64 part → Accepted signed Direct 31 (map as_u64 part)
  unfolding fit_width values_of have_form width widths is_kept among kept_codes
  run-accepted l m h = record {
    count = rw (length-map part as_u64) (le-between 1 512 (length part) l m);
    form = tt;
    size = tt;
    fits = below-every two64 (map (stored signed) (map as_u64 part)) (stored-below signed part h);
  }

  run-good : 1 ≤ length part → length part ≤ 512 → AllI64 part → Valid run × (i64_rows signed run ≡ part)
  unfolding run
  run-good l m h =
      let e : writing signed Direct 31 (map as_u64 part) (length (layout run)) ≡ got run [] =
      written signed Direct 31 (map as_u64 part) (length (layout run)) (run-accepted l m h) (le_refl _) in
      let b = reads-back signed Direct 31 part (length (layout run)) h e in
      (b.0, b.2)

  pub run-bytes : length (layout run) ≡ 2 + 8 * length part
  unfolding run described values_of width widths
  run-bytes = bytes_count (described signed Direct 31 (map as_u64 part)) ∙ simp length-map (omega arith)

-- ---- all parts

module _ (signed : Bool) where
  wide_good : (fuel : ℕ) (rows : List ℤ) → length rows ≤ fuel → AllI64 rows
      → AllValid (map (run signed) (parts fuel rows)) × (joined_rows signed (map (run signed) (parts fuel rows)) ≡ rows)
  unfolding parts joined_rows
  wide_good zero [] l h = (tt, refl)
  wide_good zero (z ∷ rows) l h = absurd (omega arith)
  wide_good (suc fuel) [] l h = (tt, refl)
  wide_good (suc fuel) (z ∷ rows) l h =
      let p : List ℤ = take 512 (z ∷ rows) in
      let g = run-good signed p (simp length-take (omega arith)) (simp length-take (omega arith)) (fit-take 512 (z ∷ rows) h) in
      let r = wide_good fuel (drop 512 (z ∷ rows)) (simp length-drop (omega arith)) (fit-drop 512 (z ∷ rows) h) in
      ((g.0, r.0), rw (g.1, r.1) (take-append-drop 512 (z ∷ rows)))

  parts-bytes : (fuel : ℕ) (rows : List ℤ) → length rows ≤ fuel
      → length (joined (map (run signed) (parts fuel rows))) ≡ 2 * ((length rows + 511) / 512) + 8 * length rows
  unfolding parts joined
  parts-bytes zero [] l = omega arith
  parts-bytes zero (z ∷ rows) l = absurd (omega arith)
  parts-bytes (suc fuel) [] l = omega arith
  parts-bytes (suc fuel) (z ∷ rows) l =
      omega (
        arith,
        length-append (layout (run signed (take 512 (z ∷ rows)))) (joined (map (run signed) (parts fuel (drop 512 (z ∷ rows))))),
        run-bytes signed (take 512 (z ∷ rows)),
        length-take 512 (z ∷ rows),
        length-drop 512 (z ∷ rows),
        parts-bytes fuel (drop 512 (z ∷ rows)) (simp length-drop (omega arith)),
      )

  pub run-rows : (part : List ℤ) → row_count (run signed part) ≡ length part
  unfolding run described values_of
  run-rows part = length-map (map as_u64 part) (stored signed) ∙ length-map part as_u64

  parts-sizes : (fuel : ℕ) (rows : List ℤ) → length rows ≤ fuel → (k : ℕ)
      → get_or (map row_count (map (run signed) (parts fuel rows))) k 0 ≡ min 512 (length rows - 512 * k)
  unfolding parts
  parts-sizes zero [] l k = omega arith
  parts-sizes zero (z ∷ rows) l k = absurd (omega arith)
  parts-sizes (suc fuel) [] l k = omega arith
  parts-sizes (suc fuel) (z ∷ rows) l zero = omega (arith, run-rows (take 512 (z ∷ rows)), length-take 512 (z ∷ rows))
  parts-sizes (suc fuel) (z ∷ rows) l (suc k) =
      parts-sizes fuel (drop 512 (z ∷ rows)) (simp length-drop (omega arith)) k ∙ simp length-drop (omega arith)

pub wide_is : (signed : Bool) (rows : List ℤ) → AllI64 rows → AllValid (wide signed rows) × (joined_rows signed (wide signed rows) ≡ rows)
unfolding wide run
wide_is signed rows h = wide_good signed (length rows) rows (le_refl _) h

pub wide-holds : WideHolds
unfolding wide run
wide-holds signed rows = record { sizes = parts-sizes signed (length rows) rows (le_refl _); bytes = parts-bytes signed (length rows) rows (le_refl _) }

-- the same test without a sum that could be too large
pub room-left : (a b room : ℕ) → b ≤ room → leb a (room - b) ≡ leb (a + b) room
room-left a b room h = go (dec_le (a + b) room)
  where
    go : Dec (a + b ≤ room) → leb a (room - b) ≡ leb (a + b) room
    go (yes l) = le-leb a (room - b) (omega arith) ∙ sym (le-leb (a + b) room l)
    go (no n) = lt-leb a (room - b) (omega arith) ∙ sym (lt-leb (a + b) room (omega arith))
