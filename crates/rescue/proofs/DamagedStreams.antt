-- A kept group's own bytes reach as far as its next position passes, so with these the same both are made plain to the same: it is kept,
-- whatever all other bytes are. Assumes nothing.
use mathlib.Core.Path.{◌≡◌, refl, sym, ap, ◌∙◌}
use Prim.Native.Nat.{ℕ, zero, suc, ◌+◌, ◌-◌, ◌<◌, ◌≤◌}
use native.Mathlib.Omega.{arith}
use mathlib.Core.Bool.{Bool, true, false}
use mathlib.Core.List.{List, [], ◌∷◌, ◌++◌}
use lib.ListN.{length, take, drop, get_or, replicate, length-append}
use lib.Seq.{drop-drop}
use lib.Dec.{T, eqb, leb→le}
use lib.IntN.{ℤ}
use Rattle.format.specs.Digits.{AllBelow}
use Rattle.format.specs.Streams.{runs_of, joined_rows}
use Rattle.format.proofs.Tests.{T_true, and-e}
use Rattle.batches.specs.Batches.{Position, reading_at}
use Rattle.rescue.specs.Rescue.{at, Group, beginning, not_after, rising, in_order, after_rows, end_of, kept, verdict}
use Rattle.rescue.specs.Rescue.{group_rows, sum}
use Rattle.rescue.specs.RescueTheorems.{counts, starts, span, own_bytes, SameBytes, KeptStays, DamageStays, DamagedStream}
use Rattle.rescue.proofs.ListParts.{part_same}
use Rattle.rescue.proofs.RescuedGroups.{kept-met, met-kept, read-so, every-list}
use Rattle.rescue.proofs.WholeStreams.{whole-kept}
use Rattle.rescue.proofs.TruePositions.{not-below}
use Rattle.rescue.proofs.OwnBytes.{stays, reach}

-- ---- A KEPT GROUP

module _ (signed : Bool) (fill : ℤ) (bs cs : List ℕ) (g : Group) (next : Position) (h : AllBelow 256 bs) (h' : AllBelow 256 cs)
    (r : g.from.run ≤ next.run) (s : SameBytes g bs cs) (t : T (kept bs g next)) where
  abbrev n : ℕ
  n = g.count

  abbrev q : Position
  q = (kept-met bs g next t).place

  abbrev rows : List ℕ → List ℤ
  rows x = joined_rows signed (runs_of (reading_at x g.from))

  -- the bytes that the next position passes are among its own
  abbrev m : ℕ
  m = span next.skip (runs_of (reading_at bs next))

  own_is : own_bytes bs g ≡ next.run - g.from.run + m
  own_is =
      let o = kept-met bs g next t in
      omega (arith, reach bs h (after_rows g) o.place o.first, reach bs h next o.place o.second)

  next-same : take m (drop next.run bs) ≡ take m (drop next.run cs)
  next-same =
      let j = next.run - g.from.run in
      let e : g.from.run + j ≡ next.run = omega arith in
      let k = part_same j m (drop g.from.run bs) (drop g.from.run cs) (rw own_is at s) in
      rw (drop-drop j g.from.run bs, drop-drop j g.from.run cs, e) at k

  -- its rows' end, there
  ends : (end_of cs g ≡ at q)
      × (take (g.from.skip + n) (rows cs) ≡ take (g.from.skip + n) (rows bs))
  ends = stays signed bs cs h h' (after_rows g) q (kept-met bs g next t).first s

  still : T (kept cs g next)
  still = met-kept cs g next q ends.0
      (stays signed bs cs h h' next q (kept-met bs g next t).second next-same).0

  same_rows : group_rows signed fill cs g next ≡ group_rows signed fill bs g next
  same_rows = read-so cs g next signed fill still
      ∙ part_same g.from.skip n (rows cs) (rows bs) ends.1
      ∙ sym (read-so bs g next signed fill t)

pub kept-stays : KeptStays
kept-stays signed fill bs cs g next h h' r s t =
    (still signed fill bs cs g next h h' r s t, same_rows signed fill bs cs g next h h' r s t)

-- ---- IN A LIST IN ORDER

rising-on : (end : ℕ) (p : Position) (before later : List Group) (g : Group) → T (rising end p (starts (before ++ (g ∷ later))))
    → T (rising end g.from (starts later))
unfolding rising
rising-on end p [] later g t = (and-e (not_after p g.from) _ t).1
rising-on end p (x ∷ before) later g t = rising-on end x.from before later g (and-e (not_after p x.from) _ t).1

order-on : (end : ℕ) (before later : List Group) (g : Group) → T (in_order end (starts (before ++ (g ∷ later))))
    → T (rising end g.from (starts later))
unfolding in_order
order-on end [] later g t = (and-e (eqb g.from.skip 0) _ (and-e (eqb g.from.run 0) _ t).1).1
order-on end (x ∷ before) later g t =
    rising-on end x.from before later g (and-e (eqb x.from.skip 0) _ (and-e (eqb x.from.run 0) _ t).1).1

next-not-below : (end : ℕ) (later : List Group) (g : Group) → T (rising end g.from (starts later))
    → g.from.run ≤ (beginning end later).run
unfolding rising
next-not-below end [] g t = leb→le g.from.run end t
next-not-below end (x ∷ later) g t = not-below g.from x.from (and-e (not_after g.from x.from) _ t).0

pub damage-stays : DamageStays
damage-stays signed fill bs cs before later g h h' e o s t =
    let r = next-not-below (length bs) later g (order-on (length bs) before later g o) in
    let (k, w) = kept-stays signed fill bs cs g (beginning (length bs) later) h h' r s t in
    let b : beginning (length cs) later ≡ beginning (length bs) later = ap (λ (n : ℕ). beginning n later) e in (
      (every-list signed fill cs (before ++ (g ∷ later))).rows before later g refl
          ∙ ap (group_rows signed fill cs g) b ∙ w ∙ sym ((every-list signed fill bs (before ++ (g ∷ later))).rows before later g refl),
      (every-list signed fill cs (before ++ (g ∷ later))).mark before later g refl
          ∙ ap (λ (p : Position). verdict (kept cs g p)) b ∙ ap verdict (T_true (kept cs g (beginning (length bs) later)) k),
    )

-- ---- A DAMAGED STREAM

ones : (n i : ℕ) → i < n → ◌≡◌ {A = ℕ} (get_or (replicate n 1) i 0) 1
ones zero i l = absurd (omega arith)
ones (suc n) zero l = refl
ones (suc n) (suc i) l = ones n i (omega arith)

of_one : (b : Bool) → verdict b ≡ 1 → T b
of_one true e = tt
of_one false e = absurd (omega arith)

pub damaged-stream : DamagedStream
damaged-stream signed fill bs cs ds before later g h h' e w t o s =
    let gs = before ++ (g ∷ later) in
    let (x, y) = whole-kept signed fill bs ds gs h w t in
    let l : length before < length gs = omega (arith, length-append before (g ∷ later)) in
    let k : verdict (kept bs g (beginning (length bs) later)) ≡ 1 = sym ((every-list signed fill bs gs).mark before later g refl)
    ∙ ap (λ (v : List ℕ). get_or v (length before) 0) y ∙ ones (length gs) (length before) l in
    let (a, b) = damage-stays signed fill bs cs before later g h h' e o s (of_one (kept bs g (beginning (length bs) later)) k) in
    (a ∙ ap (λ (v : List ℤ). take g.count (drop (sum (counts before)) v)) x, b)
