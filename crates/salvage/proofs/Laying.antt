-- The bytes of fill runs, as the code lays them down, are those of the definition; how many they are, and runs written one after another.
-- Assumes nothing.
use mathlib.Core.Path.{◌≡◌, refl, sym, ap, ◌∙◌}
use mathlib.Core.Logic.{◌≢◌}
use Prim.Native.Nat.{ℕ, zero, suc, ◌+◌, ◌-◌, ◌*◌, ◌/◌, ◌%◌, ◌<◌, ◌≤◌}
use native.Mathlib.Nat.{mul-le-mul}
use native.Mathlib.Omega.{arith}
use native.Mathlib.Decide.{dec_lt}
use Rattle.std.specs.Int.{div_ceil}
use mathlib.Core.Bool.{Bool, true, false}
use mathlib.Core.List.{List, [], ◌∷◌, ◌++◌, append_assoc, append-nil}
use lib.ListN.{length, replicate, length-append}
use lib.Dec.{eqb}
use lib.IntN.{ℤ}
use borrow.Author.Tests.{eq-eqb, ne_eqb, eqb-false}
use mir.Syntax.{w64}
use mir.Val.{SFits}
use Rattle.format.specs.Fields.{pick, shortest, two64}
use Rattle.format.specs.Rows.{as_u64}
use Rattle.format.specs.Runs.{layout, joined}
use Rattle.format.specs.Writing.{stored}
use Rattle.format.proofs.Varints.{shortest-length}
use Rattle.text.specs.Written.{TextWritten}
use Rattle.text.proofs.Texts.{none_written, then-written}
use Rattle.util.specs.Varint as Varint
use Rattle.salvage.specs.Salvage.{Group, kept, fill_run, fill_runs, mended}
use Rattle.salvage.specs.Steps.{run_of, runs_for, filled, made}
use Rattle.salvage.proofs.Filling.{fill_holds}

-- ---- how many bytes

pub run_long : (first n : ℕ) → length (run_of first n) ≡ 3 + length (shortest first)
unfolding run_of
run_long first n = omega (arith, length-append (shortest first) (0 ∷ []))

module _ (first n : ℕ) where
  -- no remainder ..
  runs-even : (q : ℕ) → n ≡ 0 → length (runs_for first q n) ≡ q * (3 + length (shortest first))
  unfolding runs_for
  runs-even zero e = rw (eq-eqb n 0 e) (omega arith)
  runs-even (suc q) e = omega (arith, length-append (run_of first 512) (runs_for first q n), run_long first 512, runs-even q e)

  -- .. or one run more
  runs-odd : (q : ℕ) → n ≢ 0 → length (runs_for first q n) ≡ (q + 1) * (3 + length (shortest first))
  unfolding runs_for
  runs-odd zero e = rw (ne_eqb n 0 e) (omega (arith, run_long first n))
  runs-odd (suc q) e = omega (arith, length-append (run_of first 512) (runs_for first q n), run_long first 512, runs-odd q e)

module _ (first n : ℕ) where
  filled-even : n % 512 ≡ 0 → n / 512 * (3 + length (shortest first)) ≡ length (filled first n)
  unfolding filled
  filled-even e = sym (runs-even first (n % 512) (n / 512) e)

  filled-odd : n % 512 ≢ 0 → (n / 512 + 1) * (3 + length (shortest first)) ≡ length (filled first n)
  unfolding filled
  filled-odd e = sym (runs-odd first (n % 512) (n / 512) e)

-- one run for each 512 rows begun
pub filled-long : (first n : ℕ) → div_ceil n 512 * (3 + length (shortest first)) ≡ length (filled first n)
filled-long first n = by (dec_lt 0 (n % 512))
  where
    by : Dec (0 < n % 512) → div_ceil n 512 * (3 + length (shortest first)) ≡ length (filled first n)
    by (yes h) =
        let e : div_ceil n 512 ≡ n / 512 + 1 = omega arith in
        rw e (filled-odd first n (λ z. omega arith))
    by (no h) =
        let e : div_ceil n 512 ≡ n / 512 = omega arith in
        rw e (filled-even first n (omega arith))

-- no count of rows has so many runs that their bytes pass 2^64
pub runs-small : (q first : ℕ) → q ≤ 36028797018963968 → first < two64 → q * (3 + length (shortest first)) < two64
runs-small q first l h =
    let m : q * (3 + length (shortest first)) ≤ 36028797018963968 * 13 =
    mul-le-mul {n₂ = 36028797018963968} {m₂ = 13} l (omega (arith, shortest-length first h)) in
    omega (arith, m)

-- ---- they are the definition's

module _ (signed : Bool) (fill : ℤ) (fits : SFits w64 fill) where
  runs-are : (q n : ℕ) → n < 512
      → runs_for (stored signed (as_u64 fill)) q n ≡ joined (replicate q (fill_run signed fill 512) ++ pick (eqb n 0) [] (fill_run signed fill n ∷ []))
  unfolding runs_for joined run_of
  runs-are zero n l = go (eqb n 0) refl
    where
      go : (t : Bool) → eqb n 0 ≡ t → pick t [] (run_of (stored signed (as_u64 fill)) n) ≡ joined (pick t [] (fill_run signed fill n ∷ []))
      go true e = refl
      go false e = sym (append-nil (layout (fill_run signed fill n)) ∙ (fill_holds signed fill fits n (omega (arith, eqb-false n 0 e)) (omega arith)).bytes)
  runs-are (suc q) n l = rw ((fill_holds signed fill fits 512 (omega arith) (omega arith)).bytes, runs-are q n l)

  pub made-is : (g : Group) (keep : Bool) → keep ≡ kept g → made keep g.bytes (stored signed (as_u64 fill)) g.rows ≡ mended signed fill g
  unfolding filled fill_runs mended
  made-is g keep e = rw (← e, runs-are (g.rows / 512) (g.rows % 512) (omega arith))

-- ---- written

pub varint-written : {x at r : ℕ} {out out' : List ℕ} → Varint.VarintWritten x out at out' r → TextWritten (shortest x) out at out' r
varint-written w = record { next = w.next; places = w.places }

-- some of the runs are written, and q of 512 rows are left, and then the remainder
pub record Runs (first n : ℕ) (out₀ : List ℕ) (at : ℕ) (out : List ℕ) (place q : ℕ) : Type 0 where
  pub done : List ℕ
  pub written : TextWritten done out₀ at out place
  pub rest : done ++ runs_for first q (n % 512) ≡ filled first n
  pub same : length out ≡ length out₀
  pub fits : at + length (filled first n) ≤ length out₀

module _ {first n at : ℕ} {out₀ : List ℕ} where
  pub runs-begin : at + length (filled first n) ≤ length out₀ → Runs first n out₀ at out₀ at (n / 512)
  unfolding filled
  runs-begin h = record { done = []; written = none_written out₀ at; rest = refl; same = refl; fits = h }

  -- there is room for what is left
  pub runs-room : {out : List ℕ} {place q : ℕ} → Runs first n out₀ at out place q → place + length (runs_for first q (n % 512)) ≤ length out
  runs-room {out} {place} {q} r = omega (arith, r.written.next, r.same, r.fits, length-append r.done (runs_for first q (n % 512)), ap length r.rest)

  pub runs-full : {out : List ℕ} {place q : ℕ} → Runs first n out₀ at out place q → 0 < q → place + length (run_of first 512) ≤ length out
  unfolding runs_for
  runs-full {out} {place} {q = zero} r h = absurd (omega arith)
  runs-full {out} {place} {q = suc q} r h = omega (arith, runs-room r, length-append (run_of first 512) (runs_for first q (n % 512)))

  pub runs-next : {out out' : List ℕ} {place place' q : ℕ} → Runs first n out₀ at out place q → 0 < q → TextWritten (run_of first 512) out place out' place'
      → length out' ≡ length out
      → Runs first n out₀ at out' place' (q - 1)
  unfolding runs_for
  runs-next {out} {out'} {place} {place'} {q = zero} r h w s = absurd (omega arith)
  runs-next {out} {out'} {place} {place'} {q = suc q} r h w s =
      let e : suc q - 1 ≡ q = omega arith in
      rw e (record {
        done = r.done ++ run_of first 512;
        written = then-written (omega (arith, r.fits)) r.written w;
        rest = append_assoc r.done (run_of first 512) (runs_for first q (n % 512)) ∙ r.rest;
        same = s ∙ r.same;
        fits = r.fits;
      })

  -- no remainder, or its run
  pub runs_done : {out : List ℕ} {place q : ℕ} → Runs first n out₀ at out place q → q ≡ 0 → n % 512 ≡ 0 → TextWritten (filled first n) out₀ at out place
  unfolding runs_for
  runs_done {out} {place} {q = zero} r z e =
      let d : r.done ≡ filled first n = sym (append-nil r.done) ∙ (rw (eq-eqb (n % 512) 0 e) at r.rest) in
      rw (← d) r.written
  runs_done {out} {place} {q = suc q} r z e = absurd (omega arith)

  pub runs-rest-room : {out : List ℕ} {place q : ℕ} → Runs first n out₀ at out place q → q ≡ 0 → n % 512 ≢ 0
      → place + length (run_of first (n % 512)) ≤ length out
  unfolding runs_for
  runs-rest-room {out} {place} {q = zero} r z e = rw (ne_eqb (n % 512) 0 e) at (runs-room r)
  runs-rest-room {out} {place} {q = suc q} r z e = absurd (omega arith)

  pub runs-rest : {out out' : List ℕ} {place place' q : ℕ} → Runs first n out₀ at out place q → q ≡ 0 → n % 512 ≢ 0
      → TextWritten (run_of first (n % 512)) out place out' place'
      → TextWritten (filled first n) out₀ at out' place'
  unfolding runs_for
  runs-rest {out} {out'} {place} {place'} {q = zero} r z e w =
      let d : r.done ++ run_of first (n % 512) ≡ filled first n = rw (ne_eqb (n % 512) 0 e) at r.rest in
      rw (← d) (then-written (omega (arith, r.fits)) r.written w)
  runs-rest {out} {out'} {place} {place'} {q = suc q} r z e w = absurd (omega arith)
