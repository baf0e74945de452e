-- The tests are taken in their order, and the first that fails names the refusal; if none does, the outcome is all groups. Assumes nothing.
use mathlib.Core.Path.{◌≡◌, refl, sym, ◌∙◌}
use mathlib.Core.Logic.{◌≢◌, ◌↔◌, ◌⊎◌, inl, inr}
use Prim.Native.Nat.{ℕ, ◌<◌, ◌≤◌}
use native.Mathlib.Omega.{arith}
use mathlib.Core.Bool.{Bool, true, false, not, ◌||◌}
use mathlib.Core.List.{List}
use lib.ListN.{length}
use lib.Dec.{T, ltb, eqb, eqb→eq}
use lib.IntN.{ℤ}
use borrow.Author.Tests.{ltb-true, ltb-false, le-ltb, lt-ltb, eq-eqb, ne_eqb}
use Rattle.format.proofs.Tests.{and-e, and_i}
use Rattle.rescue.specs.Rescue.{positions, groups, in_order, rescued_rows, verdicts, sum}
use Rattle.rescue.specs.Rescue.{RescueOutcome, refused, rescued, refuse_if, listed, rescuing}
use Rattle.rescue.specs.RescuePromise.{Rescued, refused_with, Written}
use Rattle.rescue.specs.RescueSteps.{all_groups}
use Rattle.rescue.specs.RescueTheorems.{Listed, Room, CallHolds, EveryCall, Determined}

-- ---- test by test

module _ (signed : Bool) (fill : ℤ) (bs rs ss ns : List ℕ) (places marks : ℕ) where
  abbrev said : RescueOutcome
  said = rescuing signed fill bs rs ss ns places marks

  other-skips : length rs ≢ length ss → said ≡ refused 17
  unfolding rescuing
  other-skips n = rw (ne_eqb (length rs) (length ss) n)

  module _ (a : length rs ≡ length ss) where
    other-counts : length rs ≢ length ns → said ≡ refused 17
    unfolding rescuing
    other-counts n = rw (eq-eqb (length rs) (length ss) a, ne_eqb (length rs) (length ns) n)

    module _ (b : length rs ≡ length ns) where
      pub no-order : in_order (length bs) (positions rs ss) ≡ false → said ≡ refused 17
      unfolding rescuing
      no-order n = rw (eq-eqb (length rs) (length ss) a, eq-eqb (length rs) (length ns) b, n)

      module _ (c : in_order (length bs) (positions rs ss) ≡ true) where
        few-rows : ltb places (sum ns) ≡ true → said ≡ refused 8
        unfolding rescuing
        few-rows n = rw (eq-eqb (length rs) (length ss) a, eq-eqb (length rs) (length ns) b, c, n)

        module _ (d : ltb places (sum ns) ≡ false) where
          few-marks : marks < length ns → said ≡ refused 8
          unfolding rescuing
          few-marks n =
              rw (eq-eqb (length rs) (length ss) a, eq-eqb (length rs) (length ns) b, c, d, lt-ltb marks (length ns) n)

          pub all_said : length ns ≤ marks → said ≡ all_groups signed fill bs (groups (positions rs ss) ns)
          unfolding rescuing
          all_said n =
              rw (eq-eqb (length rs) (length ss) a, eq-eqb (length rs) (length ns) b, c, d, le-ltb marks (length ns) n)

  -- the columns' lengths, in the call's one test
  pub other-length : (length rs ≢ length ss) ⊎ ((length rs ≡ length ss) × (length rs ≢ length ns)) → said ≡ refused 17
  other-length (inl h) = other-skips h
  other-length (inr (a, h)) = other-counts a h

  -- and the places
  pub few-places : length rs ≡ length ss → length rs ≡ length ns → in_order (length bs) (positions rs ss) ≡ true
      → (ltb places (sum ns) ≡ true) ⊎ ((ltb places (sum ns) ≡ false) × (marks < length ns)) → said ≡ refused 8
  few-places a b c (inl h) = few-rows a b c h
  few-places a b c (inr (d, h)) = few-marks a b c d h

-- ---- what it leaves

pub was-refused : {m : RescueOutcome} {n : ℕ} {rows : List ℤ} {marks : List ℕ} → m ≡ refused n → Written m rows rows marks marks (refused_with n)
was-refused e = rw e (record { answer = refl; rows_are = refl; marks-are = refl })

pub was-written : {k m : RescueOutcome} {rows rows' : List ℤ} {marks marks' : List ℕ} {r : Rescued} → k ≡ m
    → Written m rows rows' marks marks' r → Written k rows rows' marks marks' r
was-written e w = rw e w

-- ---- EXACTLY WHEN

pub every_call : EveryCall
unfolding rescuing
every_call signed fill bs rs ss ns places marks = go
    (listed bs rs ss ns)
    (ltb places (sum ns) || ltb marks (length ns)) (
      right,
      λ i. and_i (eqb (length rs) (length ss)) _ (is (length rs) (length ss) i.skips-long)
          (and_i (eqb (length rs) (length ns)) _ (is (length rs) (length ns) i.counts-long) i.order),
    )
    (fits_both (ltb places (sum ns)) (ltb marks (length ns)) (ltb-true places (sum ns)) (ltb-false places (sum ns))
    (ltb-true marks (length ns)) (ltb-false marks (length ns)))
  where
    rows : List ℤ
    rows = rescued_rows signed fill bs (groups (positions rs ss) ns)

    vs : List ℕ
    vs = verdicts bs (groups (positions rs ss) ns)

    is : (a b : ℕ) → a ≡ b → T (eqb a b)
    is a b e = rw (eq-eqb a b e) tt

    right : T (listed bs rs ss ns) → Listed bs rs ss ns
    right t =
        let (p, u) = and-e (eqb (length rs) (length ss)) _ t in
        let (q, v) = and-e (eqb (length rs) (length ns)) _ u in
        record { skips-long = eqb→eq (length rs) (length ss) p; counts-long = eqb→eq (length rs) (length ns) q; order = v }

    fits_both : (a b : Bool) → (a ≡ true → places < sum ns) → (a ≡ false → sum ns ≤ places) → (b ≡ true → marks < length ns)
        → (b ≡ false → length ns ≤ marks)
        → T (not (a || b)) ↔ Room ns places marks
    fits_both true b p p' q q' = (λ t. absurd t, λ r. absurd (omega (arith, p refl, r.rows_fit)))
    fits_both false true p p' q q' = (λ t. absurd t, λ r. absurd (omega (arith, q refl, r.marks-fit)))
    fits_both false false p p' q q' = (λ t. record { rows_fit = p' refl; marks-fit = q' refl }, λ r. tt)

    go : (a b : Bool) → (T a ↔ Listed bs rs ss ns) → (T (not b) ↔ Room ns places marks)
        → CallHolds signed fill bs rs ss ns places marks (refuse_if (not a) 17 (refuse_if b 8 (rescued rows vs)))
    go false b r s = record {
      is-17 = (λ e i. r.1 i, λ n. refl);
      is-8 = (λ e. let z : ◌≡◌ {A = ℕ} 0 1 = cc in absurd (omega arith), λ (i, n). absurd (r.1 i));
      otherwise = λ x y. (λ e. let z : ◌≡◌ {A = ℕ} 0 1 = cc in absurd (omega arith), λ (i, n, p, q). absurd (r.1 i));
    }
    go true true r s = record {
      is-17 = (λ e. let z : ◌≡◌ {A = ℕ} 0 1 = cc in absurd (omega arith), λ n. absurd (n (r.0 tt)));
      is-8 = (λ e. (r.0 tt, s.1), λ n. refl);
      otherwise = λ x y. (λ e. let z : ◌≡◌ {A = ℕ} 0 1 = cc in absurd (omega arith), λ (i, n, p, q). absurd (s.1 n));
    }
    go true false r s = record {
      is-17 = (λ e. let z : ◌≡◌ {A = ℕ} 0 1 = cc in absurd (omega arith), λ n. absurd (n (r.0 tt)));
      is-8 = (λ e. let z : ◌≡◌ {A = ℕ} 0 1 = cc in absurd (omega arith), λ (i, n). absurd (n (s.0 tt)));
      otherwise = λ x y. (λ e. (r.0 tt, s.0 tt, cc, cc), λ (i, n, p, q). cc);
    }

-- ---- ANY TWO OUTCOMES

pub determined : Determined
determined input signed rs ss ns fill rows rows' rows'' marks marks' marks'' r r' a b =
    (a.answer ∙ sym b.answer, a.rows_are ∙ sym b.rows_are, a.marks-are ∙ sym b.marks-are)
