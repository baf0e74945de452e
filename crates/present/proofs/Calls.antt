-- The call is two tests and then the column: so each answer is given exactly if its tests say so, and the places are the column's or as
-- they were. Assumes nothing.
use mathlib.Core.Path.{◌≡◌, refl, sym, ap, subst, ◌∙◌}
use Prim.Native.Nat.{ℕ, ◌<◌, ◌≤◌}
use native.Mathlib.Omega.{arith}
use mathlib.Core.Bool.{Bool, true, false, not}
use mathlib.Core.List.{List, ◌++◌}
use lib.ListN.{length, drop, length-append, length-drop}
use lib.Dec.{ltb}
use lib.IntN.{ℤ}
use borrow.Author.Tests.{ne_eqb, eq-eqb, le-ltb, lt-ltb, eqb-true, eqb-false, ltb-true, ltb-false}
use Rattle.format.specs.Fields.{pick}
use Rattle.format.proofs.Tests.{never}
use Rattle.present.specs.Present.{present, spread, SpreadOutcome, gives, refuses, lined_up, spreading, spread_over, not_spread, Spread}
use Rattle.present.specs.Present.{spread_answer, spread_places, SpreadOut}
use Rattle.present.specs.Laws.{LinedUp, picked, SpreadSaid, twenty-one, eight, all-rows, SpreadsHold, SpreadsDetermined}
use Rattle.present.proofs.Columns.{spread-length, picked-back, picked-front}

-- ---- the outcome, by what the code tests

module _ (fill : ℤ) (flags : List ℕ) (rows : List ℤ) (places : ℕ) where
  not-lined : (LinedUp flags rows → ⊥) → spreading fill flags rows places ≡ refuses 21
  unfolding spreading
  not-lined n = rw (ne_eqb (present flags) (length rows) n)

  module _ (e : LinedUp flags rows) where
    no_room : places < length flags → spreading fill flags rows places ≡ refuses 8
    unfolding spreading
    no_room h = rw (eq-eqb (present flags) (length rows) e, lt-ltb places (length flags) h)

    has_room : length flags ≤ places → spreading fill flags rows places ≡ gives (spread fill flags rows)
    unfolding spreading
    has_room h = rw (eq-eqb (present flags) (length rows) e, le-ltb places (length flags) h)

-- ---- the promise, by what the code tests

module _ (flags : List ℕ) (rows : List ℤ) (fill : ℤ) (out : List ℤ) (r : Spread) where
  leaves : (n : ℕ) → spreading fill flags rows (length out) ≡ refuses n → r ≡ not_spread n → SpreadOut flags rows fill out out r
  leaves n e a = record { answer = rw e a; places = rw e }

  pub leaves-21 : (LinedUp flags rows → ⊥) → r ≡ not_spread 21 → SpreadOut flags rows fill out out r
  leaves-21 n a = leaves 21 (not-lined fill flags rows (length out) n) a

  module _ (e : LinedUp flags rows) where
    pub leaves-8 : length out < length flags → r ≡ not_spread 8 → SpreadOut flags rows fill out out r
    leaves-8 h a = leaves 8 (no_room fill flags rows (length out) e h) a

    pub lays : length flags ≤ length out → (out' : List ℤ) → out' ≡ spread fill flags rows ++ drop (length flags) out
        → r ≡ spread_over (length flags)
        → SpreadOut flags rows fill out out' r
    lays h out' p a =
        let g = has_room fill flags rows (length out) e h in
        let l = spread-length fill flags rows in
        record { answer = rw (g, l) a; places = rw (g, l) p }

-- the places after a call that is lined up and has room
pub column-stands : (flags : List ℕ) (rows : List ℤ) (fill : ℤ) (out out' : List ℤ) (r : Spread) → SpreadOut flags rows fill out out' r
    → LinedUp flags rows → length flags ≤ length out
    → out' ≡ spread fill flags rows ++ drop (length flags) out
column-stands flags rows fill out out' r p e h =
    p.places ∙ rw (has_room fill flags rows (length out) e h, spread-length fill flags rows)

-- ---- each answer

module _ (fill : ℤ) (flags : List ℕ) (rows : List ℤ) (places : ℕ) where
  says : SpreadSaid flags rows places (spread_answer (spreading fill flags rows places))
  unfolding spreading
  says = go (lined_up flags rows) (ltb places (length flags)) refl refl
    where
      go : (a b : Bool) → lined_up flags rows ≡ a → ltb places (length flags) ≡ b
          → SpreadSaid flags rows places (spread_answer (pick (not a) (refuses 21) (pick b (refuses 8) (gives (spread fill flags rows)))))
      go false b p q = twenty-one (eqb-false (present flags) (length rows) p)
      go true true p q = eight (eqb-true (present flags) (length rows) p) (ltb-true places (length flags) q)
      go true false p q =
          rw (spread-length fill flags rows) (all-rows (eqb-true (present flags) (length rows) p) (ltb-false places (length flags) q))

  said : {a : Spread} → SpreadSaid flags rows places a → spread_answer (spreading fill flags rows places) ≡ a
  said (twenty-one n) = rw (not-lined fill flags rows places n)
  said (eight e h) = rw (no_room fill flags rows places e h)
  said (all-rows e h) = rw (has_room fill flags rows places e h, spread-length fill flags rows)

pub spreads-hold : SpreadsHold
unfolding spreading
spreads-hold flags rows fill out out' r p = record {
  exactly = λ a. (
    λ e. subst (λ (x : Spread). SpreadSaid flags rows (length out) x) (sym p.answer ∙ e) (says fill flags rows (length out)),
    λ s. p.answer ∙ said fill flags rows (length out) s,
  );
  column = λ e h. column-stands flags rows fill out out' r p e h;
  back = λ e h. ap (picked flags) (column-stands flags rows fill out out' r p e h)
      ∙ picked-front flags (spread fill flags rows) (drop (length flags) out) (spread-length fill flags rows)
      ∙ picked-back fill flags rows e;
  untouched = λ n e. p.places ∙ as-was n (spreading fill flags rows (length out)) (sym p.answer ∙ e);
  long = ap length p.places ∙ all-long (lined_up flags rows) (ltb (length out) (length flags)) refl;
}
  where
    as-was : (n : ℕ) (o : SpreadOutcome) → spread_answer o ≡ not_spread n → spread_places out o ≡ out
    as-was n (refuses m) e = refl
    as-was n (gives column) e = never (cc)

    all-long : (a b : Bool) → ltb (length out) (length flags) ≡ b
        → length (spread_places out (pick (not a) (refuses 21) (pick b (refuses 8) (gives (spread fill flags rows))))) ≡ length out
    all-long false b q = refl
    all-long true true q = refl
    all-long true false q =
        simp (length-append, length-drop, spread-length fill flags rows) (omega (arith, ltb-false (length out) (length flags) q))

pub spreads-determined : SpreadsDetermined
spreads-determined flags rows fill out one two r r' p q = (p.answer ∙ sym q.answer, p.places ∙ sym q.places)
