-- Fill runs: what the writer writes of the fill row, valid, of the fill row alone, and how many bytes they have. Assumes nothing.
use mathlib.Core.Path.{◌≡◌, refl, ap, ◌∙◌}
use Prim.Native.Nat.{ℕ, zero, suc, ◌+◌, ◌*◌, ◌/◌, ◌%◌, ◌≤◌}
use native.Mathlib.Nat.{le_refl}
use native.Mathlib.Omega.{arith}
use mathlib.Core.Bool.{Bool, true, false}
use mathlib.Core.List.{List, [], ◌∷◌, ◌++◌, map, append-nil}
use lib.ListN.{length, replicate, length-append, length-replicate, replicate-append-replicate}
use lib.Dec.{eqb}
use lib.IntN.{ℤ}
use borrow.Author.Tests.{eqb-true, eqb-false}
use mir.Syntax.{w64}
use mir.Val.{SFits}
use Rattle.format.specs.declared.Form.TheVariants.{FixedDelta}
use Rattle.format.specs.Fields.{pick, zigzagged, shortest, shortest_in}
use Rattle.format.specs.Runs.{Description, Valid, AllValid, layout, joined}
use Rattle.format.specs.Rows.{as_u64, i64_rows}
use Rattle.format.specs.Streams.{joined_rows}
use Rattle.format.specs.Writing.{stored, minus, steps_of, base_delta, values_of, described, every, have_form, fit_width, AllI64}
use Rattle.format.proofs.Patterns.{as-lt}
use Rattle.format.proofs.Joined.{joined-append, rows_append}
use Rattle.format.proofs.Accepted.{Accepted}
use Rattle.format.proofs.Writing.{written, reads-back}
use Rattle.format.proofs.Tests.{le-between, same-every}
use Rattle.salvage.specs.Salvage.{fill_run, fill_runs}
use Rattle.salvage.specs.Laws.{FillHolds, FillSize}

pub valid-append : (ds es : List Description) → AllValid ds → AllValid es → AllValid (ds ++ es)
valid-append [] es v w = w
valid-append (d ∷ ds) es v w = (v.0, valid-append ds es v.1 w)

module _ (signed : Bool) (fill : ℤ) (fits : SFits w64 fill) where
  patterns : (n : ℕ) → map as_u64 (replicate n fill) ≡ replicate n (as_u64 fill)
  patterns zero = refl
  patterns (suc n) = ap (λ (l : List ℕ). as_u64 fill ∷ l) (patterns n)

  steps-zero : (n : ℕ) → steps_of false (replicate (suc n) (as_u64 fill)) ≡ replicate n 0
  unfolding steps_of
  steps-zero zero = refl
  steps-zero (suc n) =
      let e : minus (as_u64 fill) (as_u64 fill) ≡ 0 = omega (arith, as-lt fill fits) in
      rw (e, steps-zero n)

  all-i64 : (n : ℕ) → AllI64 (replicate n fill)
  all-i64 zero = tt
  all-i64 (suc n) = (fits, all-i64 n)

  base-zero : (n : ℕ) → base_delta (replicate (suc n) (as_u64 fill)) ≡ 0
  unfolding base_delta
  base-zero zero = rw (steps-zero 0)
  base-zero (suc n) = rw (steps-zero (suc n))

  fill-accepted : (n : ℕ) → 1 ≤ n → n ≤ 512 → Accepted signed FixedDelta 0 (map as_u64 (replicate n fill))
  unfolding have_form fit_width values_of every
  fill-accepted zero l h = absurd (omega arith)
  fill-accepted (suc n) l h =
      rw (patterns (suc n)) (record {
        count = rw (length-replicate (suc n) (as_u64 fill)) (le-between 1 512 (suc n) l h);
        form = rw (base-zero n, steps-zero n) (same-every n 0);
        size = tt;
        fits = tt;
      })

  -- a fill run is valid, and its rows are the fill row
  record IsFill (n : ℕ) (d : Description) : Type 0 where
    valid : Valid d
    rows : i64_rows signed d ≡ replicate n fill

  fill_is : (n : ℕ) → 1 ≤ n → n ≤ 512 → IsFill n (fill_run signed fill n)
  fill_is n l h =
      let w = written signed FixedDelta 0 (map as_u64 (replicate n fill)) (length (layout (fill_run signed fill n))) (fill-accepted n l h) (le_refl _) in
      let b = reads-back signed FixedDelta 0 (replicate n fill) (length (layout (fill_run signed fill n))) (all-i64 n) w in
      record { valid = b.0; rows = b.2 }

  pub fill_holds : (n : ℕ) → 1 ≤ n → n ≤ 512 → FillHolds signed fill n
  unfolding described layout shortest shortest_in zigzagged
  fill_holds zero l h = absurd (omega arith)
  fill_holds (suc n) l h = record {
    as_written = λ places r. written signed FixedDelta 0 (map as_u64 (replicate (suc n) fill)) places (fill-accepted (suc n) l h) r;
    bytes = rw (patterns n, length-replicate n (as_u64 fill), base-zero n);
  }

  -- as many of them as are needed
  pub record Runs (n : ℕ) (ds : List Description) : Type 0 where
    pub valid : AllValid ds
    pub rows : joined_rows signed ds ≡ replicate n fill

  runs_append : (m n : ℕ) (ds es : List Description) → Runs m ds → Runs n es → Runs (m + n) (ds ++ es)
  runs_append m n ds es p q = record {
    valid = valid-append ds es p.valid q.valid;
    rows = rw (rows_append signed ds es, p.rows, q.rows) (replicate-append-replicate m n fill);
  }

  one-run : (n : ℕ) → 1 ≤ n → n ≤ 512 → Runs n (fill_run signed fill n ∷ [])
  unfolding joined_rows
  one-run n l h =
      let f = fill_is n l h in
      record { valid = (f.valid, tt); rows = append-nil _ ∙ f.rows }

  full_runs : (q : ℕ) → Runs (q * 512) (replicate q (fill_run signed fill 512))
  unfolding joined_rows
  full_runs zero = record { valid = tt; rows = refl }
  full_runs (suc q) =
      let e : suc q * 512 ≡ 512 + q * 512 = omega arith in
      rw e (runs_append 512 (q * 512) (fill_run signed fill 512 ∷ []) (replicate q (fill_run signed fill 512)) (one-run 512 (omega arith) (omega arith))
      (full_runs q))

  pub fill-runs : (n : ℕ) → Runs n (fill_runs signed fill n)
  unfolding fill_runs joined_rows
  fill-runs n =
      let e : n ≡ n / 512 * 512 + n % 512 = omega arith in
      let r : Runs (n / 512 * 512 + n % 512) (fill_runs signed fill n) =
      runs_append (n / 512 * 512) (n % 512) _ _ (full_runs (n / 512)) (last (eqb (n % 512) 0) refl) in
      rw (← e) at r
    where
      last : (t : Bool) → eqb (n % 512) 0 ≡ t → Runs (n % 512) (pick t [] (fill_run signed fill (n % 512) ∷ []))
      last true e = rw (eqb-true (n % 512) 0 e) (record { valid = tt; rows = refl })
      last false e = one-run (n % 512) (omega (arith, eqb-false (n % 512) 0 e)) (omega arith)

  -- how many bytes that is
  fill-length : (n : ℕ) → 1 ≤ n → n ≤ 512 → length (layout (fill_run signed fill n)) ≡ 3 + length (shortest (stored signed (as_u64 fill)))
  fill-length n l h = ap length (fill_holds n l h).bytes ∙ omega (arith, length-append (shortest (stored signed (as_u64 fill))) (0 ∷ []))

  full-length : (q : ℕ) (d : Description) → length (joined (replicate q d)) ≡ q * length (layout d)
  unfolding joined
  full-length zero d = omega arith
  full-length (suc q) d = omega (arith, length-append (layout d) (joined (replicate q d)), full-length q d)

  pub fill-size : (n : ℕ) → FillSize signed fill n
  unfolding fill_runs joined
  fill-size n =
      rw (
        joined-append full (pick (eqb (n % 512) 0) [] (fill_run signed fill (n % 512) ∷ [])),
        length-append (joined full) (joined (pick (eqb (n % 512) 0) [] (fill_run signed fill (n % 512) ∷ []))),
        full-length (n / 512) (fill_run signed fill 512),
        fill-length 512 (omega arith) (omega arith),
      )
      (last (eqb (n % 512) 0) refl)
    where
      full : List Description
      full = replicate (n / 512) (fill_run signed fill 512)

      size : ℕ
      size = 3 + length (shortest (stored signed (as_u64 fill)))

      last : (t : Bool) → eqb (n % 512) 0 ≡ t → n / 512 * size + length (joined (pick t [] (fill_run signed fill (n % 512) ∷ []))) ≡ (n + 511) / 512 * size
      last true e =
          let q : (n + 511) / 512 ≡ n / 512 = omega (arith, eqb-true (n % 512) 0 e) in
          rw q (omega arith)
      last false e =
          let q : (n + 511) / 512 ≡ suc (n / 512) = omega (arith, eqb-false (n % 512) 0 e) in
          rw (q, append-nil (layout (fill_run signed fill (n % 512))))
          (omega (arith, fill-length (n % 512) (omega (arith, eqb-false (n % 512) 0 e)) (omega arith)))
