-- The writer's laws: what it writes, the run reader reads as the rows given; and what it writes of a run's rows is that run again.
-- Assumes nothing.
use Rattle.format.proofs.Common.{◌≡◌, refl, sym, ap, ◌∙◌, ℕ, ◌≤◌, arith, Bool, true, false, not, ◌&&◌, List, [], ◌∷◌, ◌++◌, map, ◌↔◌}
use Rattle.format.proofs.Common.{T, ltb, nltb→le, le-ltb, ℤ, length, drop, length-map}
use Rattle.format.specs.declared.Form.{Form}
use Rattle.format.specs.Digits.{AllBelow}
use Rattle.format.specs.Fields.{two64}
use Rattle.format.specs.Runs.{Description, Valid, layout, row_count}
use Rattle.format.specs.Rows.{rows_of, i64_rows, as_i64, as_u64}
use Rattle.format.specs.Parse.{Parsed, got, unless, parse, into}
use Rattle.format.specs.Promises.{answer_of, kind_of, width_of, RunRead}
use Rattle.format.specs.Answers.{Answer, ran, answer_number}
use Rattle.format.specs.Writing.{described, count_allowed, have_form, width_allowed, fit_width, writing, AllI64, Written, AsWritten}
use Rattle.format.proofs.Patterns.{as-back, as-forth, as-lt}
use Rattle.format.proofs.Rows.{rows-below, rows-count}
use Rattle.format.proofs.RunComplete.{parse-complete}
use Rattle.format.proofs.Runs.{got-inj}
use Rattle.format.proofs.Tests.{and_i, and-e, T_true}
use Rattle.format.proofs.Steps.{map_back}
use Rattle.format.proofs.Accepted.{Accepted, accepted-valid, accepted-rows}
use Rattle.format.proofs.Again.{Again, again}

-- ---- i64 rows

pub patterns-lt : (rows : List ℤ) → AllI64 rows → AllBelow two64 (map as_u64 rows)
patterns-lt [] h = tt
patterns-lt (z ∷ rows) h = (as-lt z h.0, patterns-lt rows h.1)

pub patterns-back : (rows : List ℤ) → AllI64 rows → map as_i64 (map as_u64 rows) ≡ rows
patterns-back [] h = refl
patterns-back (z ∷ rows) h = rw (as-forth z h.0, patterns-back rows h.1)

-- ---- THE LAWS

-- the numbers of the refusals, exactly when: `few` is "the output has too few places"
pub record Exactly (count form fits few : Bool) (n : ℕ) : Type 0 where
  pub nine : (n ≡ 9) ↔ T (not count)
  pub ten : (n ≡ 10) ↔ T (count && not form)
  pub eleven : (n ≡ 11) ↔ T (count && form && not fits)
  pub eight : (n ≡ 8) ↔ T (count && form && fits && few)
  pub accepted : (n ≡ 0) ↔ T (count && form && fits && not few)

pub exactly : (signed : Bool) (f : Form) (w : ℕ) (rs : List ℕ) (places : ℕ)
    → Exactly (count_allowed f (length rs)) (have_form f rs && width_allowed f w) (fit_width signed f w rs) (ltb places (length (layout (described signed f w rs))))
    (answer_number (answer_of 0 0 (writing signed f w rs places)))
unfolding writing
exactly signed f w rs places =
    go (count_allowed f (length rs)) (have_form f rs && width_allowed f w) (fit_width signed f w rs) (ltb places (length (layout (described signed f w rs))))
  where
    go : (a b c e : Bool)
        → Exactly a b c e (answer_number (answer_of 0 0
        (unless (not a) 9 (unless (not b) 10 (unless (not c) 11 (unless e 8 (got (described signed f w rs) [])))))))
    go false b c e = omega arith
    go true false c e = omega arith
    go true true false e = omega arith
    go true true true true = omega arith
    go true true true false = omega arith

-- accepted rows, with room for their bytes, are written
pub written : (signed : Bool) (f : Form) (w : ℕ) (rs : List ℕ) (places : ℕ) → Accepted signed f w rs → length (layout (described signed f w rs)) ≤ places
    → writing signed f w rs places ≡ got (described signed f w rs) []
unfolding writing
written signed f w rs places a room =
    rw (
      T_true (count_allowed f (length rs)) a.count,
      T_true (have_form f rs && width_allowed f w) (and_i (have_form f rs) (width_allowed f w) a.form a.size),
      T_true (fit_width signed f w rs) a.fits,
      le-ltb places (length (layout (described signed f w rs))) room,
    )

-- and what is not refused was accepted, with room for its bytes
pub accepted : (signed : Bool) (f : Form) (w : ℕ) (rs : List ℕ) (places : ℕ) → answer_number (answer_of 0 0 (writing signed f w rs places)) ≡ 0
    → Accepted signed f w rs × (length (layout (described signed f w rs)) ≤ places)
accepted signed f w rs places e =
    let form : Bool = have_form f rs && width_allowed f w in
    let few : Bool = ltb places (length (layout (described signed f w rs))) in
    let all = (exactly signed f w rs places).accepted.0 e in
    let three = and-e (count_allowed f (length rs) && form && fit_width signed f w rs) (not few) all in
    let two = and-e (count_allowed f (length rs) && form) (fit_width signed f w rs) three.0 in
    let one = and-e (count_allowed f (length rs)) form two.0 in
    let ten = and-e (have_form f rs) (width_allowed f w) one.1 in
    (record { count = one.0; form = ten.0; size = ten.1; fits = two.1 }, nltb→le places (length (layout (described signed f w rs))) three.1)

-- ROUND TRIP (a): what the writer writes, the run reader reads as the rows given, under the same flag, and takes the bytes that were written
pub reads-back : (signed : Bool) (f : Form) (w : ℕ) (rows : List ℤ) (places : ℕ) {d : Description} {s : List ℕ} → AllI64 rows
    → writing signed f w (map as_u64 rows) places ≡ got d s → Valid d × ((rest : List ℕ) → parse (layout d ++ rest) ≡ got d rest) × (i64_rows signed d ≡ rows)
unfolding i64_rows
reads-back signed f w rows places {d} h e =
    let rs : List ℕ = map as_u64 rows in
    let a = accepted signed f w rs places (ap (λ (m : Parsed Description). answer_number (answer_of 0 0 m)) e) in
    let same : described signed f w rs ≡ d = (got-inj (sym (written signed f w rs places a.0 a.1) ∙ e)).0 in
    let v : Valid d = rw same at (accepted-valid signed f w rs (patterns-lt rows h) a.0) in
    (v, λ rest. parse-complete d rest v, rw (← same, accepted-rows signed f w rs (patterns-lt rows h) a.0) (patterns-back rows h))

-- ROUND TRIP (b): what is written of the rows of a run, in the run's form and width and under the same flag, is the run again
pub writes-back : (signed : Bool) (f : Form) (w : ℕ) (d : Description) (places : ℕ) → Valid d → AsWritten f w d → length (layout d) ≤ places
    → writing signed f w (map as_u64 (i64_rows signed d)) places ≡ got d []
unfolding i64_rows
writes-back signed f w d places v c room =
    let a : Again signed f w d = again signed f w d c v in
    rw (map_back as_u64 as_i64 two64 as-back (rows_of signed d) (rows-below signed d v))
    (written signed f w (rows_of signed d) places a.accepted (rw a.same room) ∙ ap (λ (d : Description). got d []) a.same)

-- ---- of the promise itself

-- any two outcomes that it allows are equal
pub one-outcome : {rows : List ℤ} {signed : Bool} {f : Form} {w : ℕ} {out o o' : List ℕ} {r r' : Answer}
    → Written rows signed f w out o r → Written rows signed f w out o' r' → (r ≡ r') × (o ≡ o')
one-outcome p q = (p.answer ∙ sym q.answer, p.places ∙ sym q.places)

-- a run reader that keeps its promise answers, at what was written, just what the writer answered, and its places hold the rows that the writer was given
pub read-written : (rows : List ℤ) (signed : Bool) (f : Form) (w : ℕ) (out out' : List ℕ) (r : Answer) (places places' : List ℤ) (r' : Answer)
    → AllI64 rows → Written rows signed f w out out' r → answer_number r ≡ 0 → length rows ≤ length places → RunRead out' 0 signed places places' r'
    → (r' ≡ r) × (places' ≡ rows ++ drop (length rows) places)
unfolding i64_rows into
read-written rows signed f w out out' r places places' r' h p ok room q =
    let rs : List ℕ = map as_u64 rows in
    let d : Description = described signed f w rs in
    let a = accepted signed f w rs (length out) (rw p.answer at ok) in
    let e : writing signed f w rs (length out) ≡ got d [] = written signed f w rs (length out) a.0 a.1 in
    let b = reads-back signed f w rows (length out) h e in
    let n : row_count d ≡ length rows = sym (rows-count signed d) ∙ sym (length-map (rows_of signed d) as_i64) ∙ ap (λ (l : List ℤ). length l) b.2 in
    let t : parse out' ≡ got d (drop (length (layout d)) out) = rw (p.places, e) (b.1 (drop (length (layout d)) out)) in
    let i : into (length places) (parse out') ≡ got d (drop (length (layout d)) out) = rw (t, n, le-ltb (length places) (length rows) room) in
    (q.answer ∙ rw i (sym (p.answer ∙ rw e)), q.places ∙ rw (i, n) (ap (λ (l : List ℤ). l ++ drop (length rows) places) b.2))

-- and of the rows of a run that stands as the writer lays it down, what is written is that run's own bytes
pub written-again : (signed : Bool) (f : Form) (w : ℕ) (d : Description) (out out' : List ℕ) (r : Answer) → Valid d → AsWritten f w d
    → length (layout d) ≤ length out → Written (i64_rows signed d) signed f w out out' r
    → (r ≡ ran (kind_of d) (width_of d) (row_count d) (length (layout d))) × (out' ≡ layout d ++ drop (length (layout d)) out)
written-again signed f w d out out' r v c room p =
    let e = writes-back signed f w d (length out) v c room in
    (p.answer ∙ rw e, p.places ∙ rw e)
