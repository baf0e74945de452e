-- A true position tells how many rows are left, so of two at the same byte the later skips no fewer: true positions are in order if no byte
-- falls. The bytes of a row's plain position rise with the row, so any cut of the rows is such. Assumes nothing.
use mathlib.Core.Path.{◌≡◌, refl, sym, ap, ◌∙◌}
use Prim.Native.Nat.{ℕ, suc, ◌+◌, ◌-◌, ◌<◌, ◌≤◌}
use native.Mathlib.Omega.{arith}
use native.Mathlib.Decide.{dec_lt}
use mathlib.Core.Bool.{Bool, true, false, ◌&&◌, ◌||◌}
use mathlib.Core.List.{List, [], ◌∷◌, map}
use lib.ListN.{length, length-map}
use lib.Dec.{T, leb, ltb, eqb, le→leb, eqb→eq}
use borrow.Author.Tests.{eq-eqb, le-leb, le-ltb, lt-ltb, ltb-true}
use Rattle.format.specs.Digits.{AllBelow}
use Rattle.format.specs.Runs.{Description, AllValid, row_count, layout, joined}
use Rattle.format.specs.Streams.{whole, stream, runs_of, total_rows}
use Rattle.format.proofs.Rows.{row-bounds}
use Rattle.format.proofs.Tests.{and-e, and_i}
use Rattle.index.proofs.Entries.{total-cons}
use Rattle.batches.specs.Batches.{Position, position_of, reading_at}
use Rattle.batches.proofs.RowPositions.{in-first, past_first, no_run}
use Rattle.batches.proofs.NextPosition.{joined-long, no_bytes}
use Rattle.rescue.specs.Rescue.{position, at, made_plain, Group, paired, positions, groups, not_after, rising, in_order, sum}
use Rattle.rescue.specs.RescueTheorems.{starts, TrueFrom, FromStart, BytesRise, TrueOrder, cut_from, EveryCut}
use Rattle.rescue.proofs.PlainPositions.{plain-inv, first-row}
use Rattle.rescue.proofs.WholeStreams.{laid, within, row_is, true-rows, whole-call}

-- ---- the byte of a row's position

pub from_byte : (ds : List Description) (b k : ℕ) → b ≤ (position_of b k ds).run
from_byte [] b k = rw (no_run b k) (omega arith)
from_byte (d ∷ ds) b k = go (dec_lt k (row_count d)) (from_byte ds (b + length (layout d)) (k - row_count d))
  where
    go : Dec (k < row_count d) → b + length (layout d) ≤ (position_of (b + length (layout d)) (k - row_count d) ds).run
        → b ≤ (position_of b k (d ∷ ds)).run
    go (yes l) ih = rw (in-first b k d ds l) (omega arith)
    go (no l) ih = rw (past_first b k d ds (omega arith)) (omega arith)

to-byte : (ds : List Description) (b k : ℕ) → (position_of b k ds).run ≤ b + length (joined ds)
to-byte [] b k = rw (no_run b k) (omega arith)
to-byte (d ∷ ds) b k = go (dec_lt k (row_count d)) (to-byte ds (b + length (layout d)) (k - row_count d))
  where
    go : Dec (k < row_count d)
        → (position_of (b + length (layout d)) (k - row_count d) ds).run ≤ b + length (layout d) + length (joined ds)
        → (position_of b k (d ∷ ds)).run ≤ b + length (joined (d ∷ ds))
    go (yes l) ih = rw (in-first b k d ds l) (omega arith)
    go (no l) ih = rw (past_first b k d ds (omega arith)) (omega (arith, joined-long d ds))

later-byte : (ds : List Description) (b k j : ℕ) → k ≤ j → (position_of b k ds).run ≤ (position_of b j ds).run
later-byte [] b k j l = rw (no_run b k, no_run b j) (omega arith)
later-byte (d ∷ ds) b k j l =
    go (dec_lt k (row_count d)) (dec_lt j (row_count d)) (later-byte ds (b + length (layout d)) (k - row_count d) (j - row_count d))
  where
    go : Dec (k < row_count d) → Dec (j < row_count d)
        → (k - row_count d ≤ j - row_count d
        → (position_of (b + length (layout d)) (k - row_count d) ds).run ≤ (position_of (b + length (layout d)) (j - row_count d) ds).run)
        → (position_of b k (d ∷ ds)).run ≤ (position_of b j (d ∷ ds)).run
    go (yes x) y ih = rw (in-first b k d ds x) (from_byte (d ∷ ds) b j)
    go (no x) (yes y) ih = absurd (omega arith)
    go (no x) (no y) ih = rw (past_first b k d ds (omega arith), past_first b j d ds (omega arith)) (ih (omega arith))

-- ---- TRUE POSITIONS IN ORDER

module _ (bs : List ℕ) (ds : List Description) (h : AllBelow 256 bs) (e : stream bs ≡ whole ds) where
  abbrev True : ℕ → Position → Type 0
  True k p = made_plain bs p ≡ at (position_of 0 k ds)

  within_end : (k : ℕ) (p : Position) → True k p → p.run ≤ length bs
  within_end k p a =
      let f : (position_of p.run p.skip (runs_of (reading_at bs p))).run ≡ (position_of 0 k ds).run =
      ap (λ (q : Position). q.run) (plain-inv bs p a).1 in
      omega (arith, f, from_byte (runs_of (reading_at bs p)) p.run p.skip, to-byte ds 0 k, ap length (laid bs ds h e).1)

  not_after_lem : (k j : ℕ) (p q : Position) → True k p → True j q → k ≤ j → j ≤ total_rows ds → p.run ≤ q.run → T (not_after p q)
  not_after_lem k j p q a b l m r = go (dec_lt p.run q.run)
    where
      go : Dec (p.run < q.run) → T (not_after p q)
      go (yes x) = rw (lt-ltb p.run q.run x) tt
      go (no x) =
          let y : p.run ≡ q.run = omega arith in
          let z : total_rows (runs_of (reading_at bs p)) ≡ total_rows (runs_of (reading_at bs q)) =
          ap (λ (n : ℕ). total_rows (runs_of (reading_at bs (position n 0)))) y in
          let (s, c) = row_is bs ds h e true k p (omega arith) a in
          let (t, d) = row_is bs ds h e true j q m b in
          let n : p.skip ≤ q.skip = omega (arith, l, m, z, s, c, t, d) in
          rw (le-ltb p.run q.run (omega arith), eq-eqb p.run q.run y, le-leb p.skip q.skip n) tt

  rises : (k j : ℕ) (p : Position) (gs : List Group) → True k p → TrueFrom bs ds j gs → k ≤ j → BytesRise p.run gs
      → T (rising (length bs) p (starts gs))
  unfolding rising
  rises k j p [] a t l r = le→leb p.run (length bs) (within_end k p a)
  rises k j p (g ∷ gs) a (b, t) l (c, r) =
      let m = within bs ds h e (j + g.count) gs t in
      and_i (not_after p g.from) _ (not_after_lem k j p g.from a b l (omega (arith, m)) c)
      (rises j (j + g.count) g.from gs b t (omega arith) r)

  no_rows : (cs : List Description) → AllValid cs → total_rows cs ≡ 0 → length (joined cs) ≡ 0
  no_rows [] v z = no_bytes
  no_rows (c ∷ cs) (v, w) z = absurd (omega (arith, (row-bounds c v).0, total-cons c cs))

  ordered : (gs : List Group) → TrueFrom bs ds 0 gs → FromStart gs → BytesRise 0 gs → T (in_order (length bs) (starts gs))
  unfolding in_order
  ordered [] t f r =
      let (v, q) = laid bs ds h e in
      rw (eq-eqb (length bs) 0 (ap length q ∙ no_rows ds v (sym t))) tt
  ordered (g ∷ gs) (a, t) f (c, r) =
      and_i (eqb g.from.run 0) _ (rw f tt)
      (and_i (eqb g.from.skip 0) _ (rw f tt) (rises 0 (0 + g.count) g.from gs a t (omega arith) r))

-- .. and only then

pub not-below : (p p' : Position) → T (not_after p p') → p.run ≤ p'.run
not-below p p' t = go (ltb p.run p'.run) refl t
  where
    go : (b : Bool) → ltb p.run p'.run ≡ b → T (b || (eqb p.run p'.run && leb p.skip p'.skip)) → p.run ≤ p'.run
    go true e u = omega (arith, ltb-true p.run p'.run e)
    go false e u = omega (arith, eqb→eq p.run p'.run (and-e (eqb p.run p'.run) (leb p.skip p'.skip) u).0)

rise-from : (end : ℕ) (p : Position) (gs : List Group) → T (rising end p (starts gs)) → BytesRise p.run gs
unfolding rising
rise-from end p [] t = tt
rise-from end p (g ∷ gs) t =
    let (a, b) = and-e (not_after p g.from) _ t in
    (not-below p g.from a, rise-from end g.from gs b)

order_from : (end : ℕ) (gs : List Group) → T (in_order end (starts gs)) → FromStart gs × BytesRise 0 gs
unfolding in_order
order_from end [] t = (tt, tt)
order_from end (g ∷ gs) t =
    let (a, u) = and-e (eqb g.from.run 0) _ t in
    let (b, r) = and-e (eqb g.from.skip 0) _ u in
    let x : g.from.run ≡ 0 = eqb→eq g.from.run 0 a in
    let y : g.from.skip ≡ 0 = eqb→eq g.from.skip 0 b in
    (ap (λ (k : ℕ). position k g.from.skip) x ∙ ap (position 0) y, (omega arith, rise-from end g.from gs r))

pub true-order : TrueOrder
true-order bs ds gs h e t = (order_from (length bs) gs, λ (f, r). ordered bs ds h e gs t f r)

-- ---- ANY CUT of the rows, by plain positions

back : (ps : List Position) → positions (map (λ p. p.run) ps) (map (λ p. p.skip) ps) ≡ ps
unfolding paired
back [] = refl
back (p ∷ ps) = ap (λ (l : List Position). p ∷ l) (back ps)

module _ (ds : List Description) where
  abbrev pub cut : ℕ → List ℕ → List Group
  cut k ns = groups (cut_from ds k ns) ns

  cut-long : (k : ℕ) (ns : List ℕ) → length (cut_from ds k ns) ≡ length ns
  unfolding cut_from
  cut-long k [] = refl
  cut-long k (n ∷ ns) = ap suc (cut-long (k + n) ns)

  cut-starts : (k : ℕ) (ns : List ℕ) → starts (cut k ns) ≡ cut_from ds k ns
  unfolding cut_from paired
  cut-starts k [] = refl
  cut-starts k (n ∷ ns) = ap (λ (l : List Position). position_of 0 k ds ∷ l) (cut-starts (k + n) ns)

  cut-rises : (k j : ℕ) (ns : List ℕ) → k ≤ j → BytesRise (position_of 0 k ds).run (cut j ns)
  unfolding cut_from paired
  cut-rises k j [] l = tt
  cut-rises k j (n ∷ ns) l = (later-byte ds 0 k j l, cut-rises j (j + n) ns (omega arith))

module _ (bs : List ℕ) (ds : List Description) (h : AllBelow 256 bs) (e : stream bs ≡ whole ds) where
  first : position_of 0 0 ds ≡ position 0 0
  first = ap (λ m. position_of 0 0 (runs_of m)) (sym e) ∙ first-row bs 0 h

  pub cut-true : (k : ℕ) (ns : List ℕ) → k + sum ns ≡ total_rows ds → TrueFrom bs ds k (cut ds k ns)
  unfolding cut_from paired sum
  cut-true k [] l = omega arith
  cut-true k (n ∷ ns) l = ((true-rows bs ds k h e (omega arith)).0, cut-true (k + n) ns (omega arith))

  cut-start : (ns : List ℕ) → FromStart (cut ds 0 ns) × BytesRise 0 (cut ds 0 ns)
  unfolding cut_from paired
  cut-start [] = (tt, tt)
  cut-start (n ∷ ns) = (first, (omega arith, cut-rises ds 0 (0 + n) ns (omega arith)))

  pub cut-ordered : (ns : List ℕ) → sum ns ≡ total_rows ds → T (in_order (length bs) (starts (cut ds 0 ns)))
  cut-ordered ns s = let (f, r) = cut-start ns in ordered bs ds h e (cut ds 0 ns) (cut-true 0 ns (omega (arith, s))) f r

pub every-cut : EveryCut
every-cut signed fill bs ns some marks ds h e s r =
    let ps = cut_from ds 0 ns in
    let rs = map (λ p. p.run) ps in
    let ss = map (λ p. p.skip) ps in
    let a : length rs ≡ length ps = length-map ps (λ (p : Position). p.run) in
    let b : length ss ≡ length ps = length-map ps (λ (p : Position). p.skip) in
    whole-call signed fill bs rs ss ns some marks ds h e
    (record {
      skips-long = a ∙ sym b;
      counts-long = a ∙ cut-long ds 0 ns;
      order = rw (back ps, ← (cut-starts ds 0 ns)) (cut-ordered bs ds h e ns s);
    }) r
    (rw (back ps) (cut-true bs ds h e 0 ns (omega (arith, s))))
