-- A true group's own bytes end where the stream's first rows up to its last end; so they are before the damaged run if its rows are, or
-- after it if they begin there, and the same in both inputs. Assumes nothing.
use mathlib.Core.Path.{◌≡◌, refl, sym, ap, ◌∙◌, subst}
use mathlib.Core.Logic.{◌⊎◌, inl, inr}
use Prim.Native.Nat.{ℕ, suc, ◌+◌, ◌-◌, ◌<◌, ◌≤◌}
use native.Mathlib.Omega.{arith}
use native.Mathlib.Decide.{dec_lt}
use mathlib.Core.Bool.{true}
use mathlib.Core.List.{List, [], ◌∷◌, ◌++◌}
use lib.ListN.{length, take, drop}
use lib.Seq.{take-take, drop-drop}
use lib.IntN.{pos}
use Rattle.format.specs.Digits.{AllBelow}
use Rattle.format.specs.Runs.{Description, row_count, layout, joined}
use Rattle.format.specs.Streams.{whole, stream, runs_of, total_rows}
use Rattle.index.proofs.Entries.{total-cons}
use Rattle.batches.specs.Batches.{Position, position_of}
use Rattle.batches.proofs.RowPositions.{past_first}
use Rattle.batches.proofs.NextPosition.{joined-long, no_bytes, no-total}
use Rattle.rescue.specs.Rescue.{position, at, made_plain, Group, group, paired, after_rows, sum}
use Rattle.rescue.specs.RescueTheorems.{counts, TrueFrom, cut_from, span, own_bytes, SameBytes, RunDamaged, DamagedRun, DamagedCut}
use Rattle.rescue.proofs.ListParts.{part_same}
use Rattle.rescue.proofs.WholeStreams.{within, row-at, true-end}
use Rattle.rescue.proofs.TruePositions.{from_byte, cut, cut-true, cut-ordered}
use Rattle.rescue.proofs.OwnBytes.{span_none, span-some, reach}
use Rattle.rescue.proofs.DamagedStreams.{damaged-stream}

-- ---- runs before others

-- the first runs have all bytes of their own rows
span-front : (ds es : List Description) (k : ℕ) → k ≤ total_rows ds → span k (ds ++ es) ≤ length (joined ds)
span-front [] es k l =
    let z : k ≡ 0 = omega (arith, no-total) in
    rw (z, span_none es) (omega arith)
span-front (d ∷ ds) es k l = go (dec_lt 0 k) (span-front ds es (k - row_count d))
  where
    go : Dec (0 < k) → (k - row_count d ≤ total_rows ds → span (k - row_count d) (ds ++ es) ≤ length (joined ds))
        → span k (d ∷ (ds ++ es)) ≤ length (joined (d ∷ ds))
    go (yes h) ih =
        let i = ih (omega (arith, total-cons d ds)) in
        rw (span-some k d (ds ++ es) h) (omega (arith, i, joined-long d ds))
    go (no h) ih = let z : k ≡ 0 = omega arith in rw (z, span_none (d ∷ (ds ++ es))) (omega arith)

-- a row after them stands at a byte after theirs
past-front : (ds es : List Description) (b k : ℕ) → total_rows ds ≤ k
    → position_of b k (ds ++ es) ≡ position_of (b + length (joined ds)) (k - total_rows ds) es
past-front [] es b k l =
    let x : b ≡ b + length (joined []) = omega (arith, no_bytes) in
    let y : k ≡ k - total_rows [] = omega (arith, no-total) in
    ap (λ (j : ℕ). position_of j k es) x ∙ ap (λ (j : ℕ). position_of (b + length (joined [])) j es) y
past-front (d ∷ ds) es b k l =
    let x : b + length (layout d) + length (joined ds) ≡ b + length (joined (d ∷ ds)) = omega (arith, joined-long d ds) in
    let y : k - row_count d - total_rows ds ≡ k - total_rows (d ∷ ds) = omega (arith, total-cons d ds) in
    past_first b k d (ds ++ es) (omega (arith, total-cons d ds))
    ∙ past-front ds es (b + length (layout d)) (k - row_count d) (omega (arith, total-cons d ds))
    ∙ ap (λ (j : ℕ). position_of j (k - row_count d - total_rows ds) es) x ∙ ap (λ (j : ℕ). position_of (b + length (joined (d ∷ ds))) j es) y

-- ---- a group among the others

module _ (ds : List Description) where
  cut-split : (k n : ℕ) (ns ms : List ℕ)
      → cut ds k (ns ++ (n ∷ ms)) ≡ cut ds k ns ++ (group (position_of 0 (k + sum ns) ds) n ∷ cut ds (k + sum ns + n) ms)
  unfolding cut_from paired sum
  cut-split k n [] ms = let z : k ≡ k + 0 = omega arith in ap (λ (j : ℕ). group (position_of 0 j ds) n ∷ cut ds (j + n) ms) z
  cut-split k n (m ∷ ns) ms =
      let z : k + m + sum ns ≡ k + (m + sum ns) = omega arith in
      ap (λ (l : List Group). group (position_of 0 k ds) m ∷ l) (cut-split (k + m) n ns ms
      ∙ ap (λ (j : ℕ). cut ds (k + m) ns ++ (group (position_of 0 j ds) n ∷ cut ds (j + n) ms)) z)

  cut-counts : (k : ℕ) (ns : List ℕ) → counts (cut ds k ns) ≡ ns
  unfolding cut_from paired
  cut-counts k [] = refl
  cut-counts k (n ∷ ns) = ap (λ (l : List ℕ). n ∷ l) (cut-counts (k + n) ns)

  cut-many : (k : ℕ) (ns : List ℕ) → length (cut ds k ns) ≡ length ns
  unfolding cut_from paired
  cut-many k [] = refl
  cut-many k (n ∷ ns) = ap suc (cut-many (k + n) ns)

-- ---- THE DAMAGED RUN

module _ (bs cs : List ℕ) (ds es : List Description) (d : Description) (h : AllBelow 256 bs) (e : stream bs ≡ whole (ds ++ (d ∷ es)))
    (w : RunDamaged ds d bs cs) where
  abbrev all : List Description
  all = ds ++ (d ∷ es)

  -- the group among the others
  true-at : (k : ℕ) (before later : List Group) (g : Group) → TrueFrom bs all k (before ++ (g ∷ later))
      → (made_plain bs g.from ≡ at (position_of 0 (k + sum (counts before)) all))
      × TrueFrom bs all (k + sum (counts before) + g.count) later
  unfolding sum
  true-at k [] later g t = let z : k ≡ k + 0 = omega arith in
      subst (λ (j : ℕ). (made_plain bs g.from ≡ at (position_of 0 j all)) × TrueFrom bs all (j + g.count) later) z t
  true-at k (f ∷ before) later g (a, t) =
      let z : k + f.count + sum (counts before) ≡ k + (f.count + sum (counts before)) = omega arith in
      subst (λ (j : ℕ). (made_plain bs g.from ≡ at (position_of 0 j all)) × TrueFrom bs all (j + g.count) later) z
      (true-at (k + f.count) before later g t)

  module _ (k : ℕ) (g : Group) (later : List Group) (a : made_plain bs g.from ≡ at (position_of 0 k all))
      (t : TrueFrom bs all (k + g.count) later) where
    -- where its own bytes end
    own-end : g.from.run + own_bytes bs g ≡ span (k + g.count) all
    own-end =
        let x = reach bs h (after_rows g) _ (true-end bs all h e true (pos 0) k g later a t) in
        let y = reach bs h (position 0 (k + g.count)) _ (row-at bs all h e (k + g.count) (within bs all h e (k + g.count) later t)) in
        let z : span (k + g.count) (runs_of (stream bs)) ≡ span (k + g.count) all = ap (λ m. span (k + g.count) (runs_of m)) e in
        omega (arith, x, y, z)

    same_bytes : (k + g.count ≤ total_rows ds) ⊎ (length (joined ds) + length (layout d) ≤ g.from.run) → SameBytes g bs cs
    -- before the run
    same_bytes (inl l) =
        let r = g.from.run in
        let m = r + own_bytes bs g in
        let front = length (joined ds) in
        let f : m ≤ front = omega (arith, own-end, span-front ds (d ∷ es) (k + g.count) l) in
        part_same r (own_bytes bs g) bs cs
        (sym (take-take m front bs f) ∙ ap (λ (x : List ℕ). take m x) w.before ∙ take-take m front cs f)
    -- and after it
    same_bytes (inr l) =
        let r = g.from.run in
        let end = length (joined ds) + length (layout d) in
        let z : end + (r - end) ≡ r = omega arith in
        let y : drop r bs ≡ drop r cs = rw (← z, ← (drop-drop (r - end) end bs), ← (drop-drop (r - end) end cs), w.later) in
        ap (λ (x : List ℕ). take (own_bytes bs g) x) y

pub damaged-run : DamagedRun
damaged-run signed fill bs cs ds es d before later g h h' e w t o c =
    let all = ds ++ (d ∷ es) in
    let k = sum (counts before) in
    let z : 0 + k ≡ k = omega arith in
    let (a, u) = true-at bs cs ds es d h e w 0 before later g t in
    damaged-stream signed fill bs cs all before later g h h' w.long e t o
    (same_bytes bs cs ds es d h e w k g later (rw z at a) (rw z at u) c)

-- ---- WITH PLAIN POSITIONS

-- a row after the run stands at a byte after it
after_run : (ds es : List Description) (d : Description) (k : ℕ) → total_rows ds + row_count d ≤ k
    → length (joined ds) + length (layout d) ≤ (position_of 0 k (ds ++ (d ∷ es))).run
after_run ds es d k l =
    let b = 0 + length (joined ds) in
    let i = k - total_rows ds in
    let q : position_of 0 k (ds ++ (d ∷ es)) ≡ position_of (b + length (layout d)) (i - row_count d) es =
    past-front ds (d ∷ es) 0 k (omega arith) ∙ past_first b i d es (omega arith) in
    omega (arith, ap (λ (x : Position). x.run) q, from_byte es (b + length (layout d)) (i - row_count d))

pub damaged-cut : DamagedCut
damaged-cut signed fill bs cs ds es d ns ms n h h' e w s c =
    let all = ds ++ (d ∷ es) in
    let k = sum ns in
    let before = cut all 0 ns in
    let later = cut all (k + n) ms in
    let g = group (position_of 0 k all) n in
    let z : 0 + k ≡ k = omega arith in
    let split : cut all 0 (ns ++ (n ∷ ms)) ≡ before ++ (g ∷ later) =
    cut-split all 0 n ns ms ∙ ap (λ (j : ℕ). before ++ (group (position_of 0 j all) n ∷ cut all (j + n) ms)) z in
    let (x, y) = damaged-run signed fill bs cs ds es d before later g h h' e w
    (rw split at (cut-true bs all h e 0 (ns ++ (n ∷ ms)) (omega (arith, s))))
    (rw split at (cut-ordered bs all h e (ns ++ (n ∷ ms)) s)) (rw (cut-counts all 0 ns) (clear c)) in
    rw split (rw (cut-counts all 0 ns) at x, rw (cut-many all 0 ns) at y)
  where
    clear : (sum ns + n ≤ total_rows ds) ⊎ (total_rows ds + row_count d ≤ sum ns)
        → (sum ns + n ≤ total_rows ds) ⊎ (length (joined ds) + length (layout d) ≤ (position_of 0 (sum ns) (ds ++ (d ∷ es))).run)
    clear (inl l) = inl l
    clear (inr l) = inr (after_run ds es d (sum ns) l)
