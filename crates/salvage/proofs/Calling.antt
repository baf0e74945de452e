-- The call: each refusal exactly when, a whole stream with its true groups, and salvaging twice. Assumes nothing.
use mathlib.Core.Path.{◌≡◌, refl, ap}
use mathlib.Core.Logic.{◌↔◌}
use Prim.Native.Nat.{ℕ, suc, ◌+◌, ◌<◌, ◌≤◌}
use native.Mathlib.Omega.{arith}
use mathlib.Core.Bool.{Bool, true, false, not, ◌&&◌, ◌||◌}
use mathlib.Core.List.{List, [], ◌∷◌, ◌++◌}
use lib.ListN.{length, length-append}
use lib.Dec.{T, ltb, eqb, eqb→eq, ltb→lt, le→leb, lt→ltb}
use lib.IntN.{ℤ}
use borrow.Author.Tests.{ltb-true, ltb-false, le-ltb, eq-eqb}
use mir.Syntax.{w64}
use mir.Val.{SFits}
use Rattle.format.specs.Runs.{Description}
use Rattle.format.specs.Streams.{total_rows}
use Rattle.salvage.specs.Salvage
use Rattle.salvage.specs.Salvage.{Group, groups, rising, starts_right, mended, salvaged, report, unless, salvaging}
use Rattle.salvage.specs.Laws.{AllBytes, AllKept, counts, joined_groups, starts_from, RightStarts, Room, SomeRows, true_groups, AllValidGroups, renewed}
use Rattle.salvage.specs.Laws.{CallHolds}
use Rattle.salvage.proofs.Grouping.{renew, some-rows, kept-joined, runs-kept, renewed-joined, salvaged-holds}
use Rattle.salvage.proofs.Starting.{back}
use Rattle.format.proofs.Tests.{never, T_true, and-e, and_i}

module _ (signed : Bool) (fill : ℤ) (fits : SFits w64 fill) where
  counts-renewed : (gs : List Group) → counts (renewed signed fill gs) ≡ counts gs
  unfolding renewed
  counts-renewed [] = refl
  counts-renewed (g ∷ gs) = ap (λ (l : List ℕ). g.rows ∷ l) (counts-renewed gs)

  length-starts : (s : ℕ) (gs : List Group) → length (starts_from s gs) ≡ length (counts gs)
  unfolding starts_from
  length-starts s [] = refl
  length-starts s (g ∷ gs) = ap suc (length-starts (s + length g.bytes) gs)

  pub call-holds : (bs starts ns : List ℕ) (places lines : ℕ)
      → CallHolds signed fill bs starts ns places lines (salvaging signed fill bs starts ns places lines)
  unfolding salvaging
  call-holds bs starts ns places lines = go
      (eqb (length starts) (length ns) && starts_right (length bs) starts)
      (ltb places (length new) || ltb lines (length text)) (
        λ t. let p = and-e (eqb (length starts) (length ns)) (starts_right (length bs) starts) t in
            record { lengths = eqb→eq (length starts) (length ns) p.0; right = p.1 },
        λ r. and_i (eqb (length starts) (length ns)) (starts_right (length bs) starts) (rw (eq-eqb (length starts) (length ns) r.lengths) tt) r.right,
      )
      (fits_both (ltb places (length new)) (ltb lines (length text)) (ltb-true places _) (ltb-false places _) (ltb-true lines _) (ltb-false lines _))
    where
      new : List ℕ
      new = salvaged signed fill (groups bs starts ns)

      text : List ℕ
      text = report 0 (groups bs starts ns)

      fits_both : (a b : Bool) → (a ≡ true → places < length new) → (a ≡ false → length new ≤ places) → (b ≡ true → lines < length text)
          → (b ≡ false → length text ≤ lines)
          → T (not (a || b)) ↔ Room places lines new text
      fits_both true b p p' q q' = (λ t. absurd t, λ r. absurd (omega (arith, p refl, r.stream)))
      fits_both false true p p' q q' = (λ t. absurd t, λ r. absurd (omega (arith, q refl, r.lines_fit)))
      fits_both false false p p' q q' = (λ t. record { stream = p' refl; lines_fit = q' refl }, λ r. tt)

      go : (a b : Bool) → (T a ↔ RightStarts bs starts ns) → (T (not b) ↔ Room places lines new text)
          → CallHolds signed fill bs starts ns places lines (unless (not a) 17 (unless b 8 (Salvage.written new text)))
      go false b r s = record {
        is-17 = (λ e i. r.1 i, λ n. refl);
        is-8 = (λ e. never (cc), λ (i, n). absurd (r.1 i));
        otherwise = λ x y. (λ e. never (cc), λ (i, p, q, n). absurd (r.1 i));
      }
      go true true r s = record {
        is-17 = (λ e. never (cc), λ n. absurd (n (r.0 tt)));
        is-8 = (λ e. (r.0 tt, s.1), λ n. refl);
        otherwise = λ x y. (λ e. never (cc), λ (i, p, q, n). absurd (s.1 (rw (p, q) at n)));
      }
      go true false r s = record {
        is-17 = (λ e. never (cc), λ n. absurd (n (r.0 tt)));
        is-8 = (λ e. never (cc), λ (i, n). absurd (n (s.0 tt)));
        otherwise = λ x y. (
          λ e.
              let p : x ≡ new = cc in
              let q : y ≡ text = cc in
              (r.0 tt, p, q, rw (p, q) (s.0 tt)),
          λ (i, p, q, n). cc,
        );
      }

  call : (gs : List Group) (places lines : ℕ) → T (starts_right (length (joined_groups gs)) (starts_from 0 gs)) → length (salvaged signed fill gs) ≤ places
      → length (report 0 gs) ≤ lines
      → salvaging signed fill (joined_groups gs) (starts_from 0 gs) (counts gs) places lines ≡ Salvage.written (salvaged signed fill gs) (report 0 gs)
  unfolding salvaging
  call gs places lines r p l =
      rw (
        back gs,
        eq-eqb (length (starts_from 0 gs)) (length (counts gs)) (length-starts 0 gs),
        T_true (starts_right (length (joined_groups gs)) (starts_from 0 gs)) r,
        le-ltb places (length (salvaged signed fill gs)) p,
        le-ltb lines (length (report 0 gs)) l,
      )

  pub true-kept : (dss : List (List Description)) → AllValidGroups dss → AllKept (true_groups dss)
  true-kept [] v = tt
  true-kept (ds ∷ dss) v = (runs-kept signed fill fits ds (total_rows ds) v.0 refl, true-kept dss v.1)

  pub true-groups : (dss : List (List Description)) → AllValidGroups dss → (bs : List ℕ) → bs ≡ joined_groups (true_groups dss)
      → T (starts_right (length bs) (starts_from 0 (true_groups dss))) → (places lines : ℕ) → length bs ≤ places → length (report 0 (true_groups dss)) ≤ lines
      → salvaging signed fill bs (starts_from 0 (true_groups dss)) (counts (true_groups dss)) places lines ≡ Salvage.written bs (report 0 (true_groups dss))
  true-groups dss v bs e r places lines p l =
      let k = kept-joined signed fill fits (true_groups dss) (true-kept dss v) in
      rw e (rw k at (call (true_groups dss) places lines (rw e at r) (rw (k, ← e) p) l))

  -- the new starts rise exactly past groups with rows
  rises : (end s : ℕ) (g : Group) (gs : List Group) → AllBytes (g ∷ gs) → end ≡ s + length (mended signed fill g) + length (salvaged signed fill gs)
      → T (rising end s (starts_from (s + length (mended signed fill g)) (renewed signed fill gs))) ↔ SomeRows (g ∷ gs)
  unfolding rising starts_from renewed salvaged
  rises end s g [] h e = (λ t. tt, λ t. le→leb s end (omega arith))
  rises end s g (k ∷ gs) h e =
      let t : ℕ = s + length (mended signed fill g) in
      let some = some-rows signed fill fits g (renew signed fill fits g h.0) in
      let ih = rises end t k gs h.1 (omega (arith, length-append (mended signed fill k) (salvaged signed fill gs))) in
      let rest : Bool = rising end t (starts_from (t + length (mended signed fill k)) (renewed signed fill gs)) in (
        λ a. let c = and-e (ltb s t) rest a in (some.1 (omega (arith, ltb→lt s t c.0)), ih.0 c.1),
        λ a. and_i (ltb s t) rest (lt→ltb s t (omega (arith, some.0 a.0))) (ih.1 a.1),
      )

  pub new-starts : (gs : List Group) → AllBytes gs → T (starts_right (length (salvaged signed fill gs)) (starts_from 0 (renewed signed fill gs))) ↔ SomeRows gs
  unfolding starts_right starts_from renewed salvaged
  new-starts [] h = (λ t. tt, λ t. tt)
  new-starts (g ∷ gs) h = rises (length (mended signed fill g ++ salvaged signed fill gs)) 0 g gs h
      (omega (arith, length-append (mended signed fill g) (salvaged signed fill gs)))

  pub twice : (gs : List Group) → AllBytes gs → SomeRows gs → (places lines : ℕ) → length (salvaged signed fill gs) ≤ places
      → length (report 0 (renewed signed fill gs)) ≤ lines
      → salvaging signed fill (salvaged signed fill gs) (starts_from 0 (renewed signed fill gs)) (counts gs) places lines
      ≡ Salvage.written (salvaged signed fill gs) (report 0 (renewed signed fill gs))
  twice gs h some places lines p l =
      let new : List Group = renewed signed fill gs in
      let e : joined_groups new ≡ salvaged signed fill gs = renewed-joined signed fill fits gs in
      let a : salvaged signed fill new ≡ salvaged signed fill gs = (salvaged-holds signed fill fits gs h).again in
      rw (e, a, counts-renewed gs) at (call new places lines (rw e ((new-starts gs h).1 some)) (rw a p) l)
