-- The walk that fills the columns: what stands so far, then what is still to come, is the stream's. Assumes nothing.
use mathlib.Core.Path.{◌≡◌, refl, sym, ap, ◌∙◌}
use mathlib.Core.Logic.{◌⊎◌, inl, inr}
use Prim.Native.Nat.{ℕ, suc, ◌+◌, ◌<◌, ◌≤◌}
use native.Mathlib.Omega.{arith}
use mathlib.Core.List.{List, [], ◌∷◌, ◌++◌, map}
use lib.ListN.{length, take, drop, set, length-set}
use Rattle.format.specs.Fields.{two64}
use Rattle.format.specs.Runs.{Description, row_count}
use Rattle.format.specs.Streams.{Reading, whole, broken, after, stream, total_rows}
use Rattle.format.specs.declared.Refusal.{Refusal}
use Rattle.format.specs.declared.Run.{Run}
use Rattle.format.proofs.Tests.{never}
use Rattle.format.proofs.StreamRoom.{stream-none}
use Rattle.util.proofs.Grow.{grow, kept, filled}
use Rattle.index.specs.Columns.{Columns, sums_before, byte_count, columns_at}
use Rattle.index.specs.Entries.{gives}
use Rattle.index.specs.Walk.{Roomy, Filled}
use Rattle.index.proofs.MeasuredRun.{OneRun, NoRun, broken-here}

pub whole-inj : {ds es : List Description} → whole ds ≡ whole es → ds ≡ es
whole-inj e = cc

after-inv : (d : Description) (m : Reading) (rest : List Description) → after d m ≡ whole rest → (x : List Description) × (m ≡ whole x) × (rest ≡ d ∷ x)
after-inv d (whole x) rest e = (x, refl, sym (whole-inj e))
after-inv d (broken ds r t) rest e = never (cc)

-- one number more in a column
sums_next : (col : List ℕ) (i x n k : ℕ) (ns all : List ℕ) → n ≡ k → i < length col → take i col ++ sums_before x (k ∷ ns) ≡ all
    → take (i + 1) (set col i x) ++ sums_before (x + n) ns ≡ all
unfolding sums_before
sums_next col i x n k ns all e h q = rw e (grow col i x (sums_before (x + k) ns) all h q)

counts-next : (col : List ℕ) (i n k : ℕ) (ns all : List ℕ) → n ≡ k → i < length col → take i col ++ (k ∷ ns) ≡ all → take (i + 1) (set col i n) ++ ns ≡ all
counts-next col i n k ns all e h q = rw e (grow col i k ns all h q)

pub record Filling (s first₀ at₀ counts₀ first at counts : List ℕ) (p row i : ℕ) : Type 0 where
  pub runs : List Description
  pub whole_is : stream s ≡ whole runs
  pub room : length runs ≤ length first₀
  pub small : total_rows runs < two64
  pub same_at : length at₀ ≡ length first₀
  pub same-counts : length counts₀ ≡ length first₀
  pub rest : List Description
  pub rest-is : stream (drop p s) ≡ whole rest
  pub left : i + length rest ≡ length runs
  pub rows_left : row + total_rows rest ≡ total_rows runs
  pub within : p ≤ length s
  pub long-first : length first ≡ length first₀
  pub long-at : length at ≡ length at₀
  pub long-counts : length counts ≡ length counts₀
  pub firsts-are : take i first ++ sums_before row (map row_count rest) ≡ sums_before 0 (map row_count runs)
  pub offsets_are : take i at ++ sums_before p (map byte_count rest) ≡ sums_before 0 (map byte_count runs)
  pub counts-are : take i counts ++ map row_count rest ≡ map row_count runs
  pub kept-first : drop i first ≡ drop i first₀
  pub kept_at : drop i at ≡ drop i at₀
  pub kept-counts : drop i counts ≡ drop i counts₀

pub filling-first : {s first₀ at₀ counts₀ : List ℕ} → Roomy s (length first₀) (length at₀) (length counts₀)
    → Filling s first₀ at₀ counts₀ first₀ at₀ counts₀ 0 0 0
filling-first y = record {
  runs = y.runs;
  whole_is = y.whole_is;
  room = y.room;
  small = y.small;
  same_at = y.same-offsets;
  same-counts = y.same-counts;
  rest = y.runs;
  rest-is = y.whole_is;
  left = omega arith;
  rows_left = omega arith;
  within = omega arith;
  long-first = refl;
  long-at = refl;
  long-counts = refl;
  firsts-are = refl;
  offsets_are = refl;
  counts-are = refl;
  kept-first = refl;
  kept_at = refl;
  kept-counts = refl;
}

module _ {s first₀ at₀ counts₀ first at counts : List ℕ} {p row i : ℕ} (w : Filling s first₀ at₀ counts₀ first at counts p row i) where
  module _ {r : Run} (o : OneRun s p r) where
    next : (x : List Description) × (stream (drop (p + r.consumed.bytes) s) ≡ whole x) × (w.rest ≡ o.run ∷ x)
    next = after-inv o.run (stream (drop (p + r.consumed.bytes) s)) w.rest (sym o.onward ∙ w.rest-is)

    -- there is a place in each column, and the rows stay small
    pub record Room : Type 0 where
      pub in-first : i < length first
      pub in-at : i < length at
      pub in-counts : i < length counts
      pub in-first₀ : i < length first₀
      pub in-at₀ : i < length at₀
      pub in-counts₀ : i < length counts₀
      pub rows-small : row + r.rows.rows < two64

    pub has_room : Room
    unfolding total_rows
    has_room =
        let (x, e, q) = next in
        let a : i + suc (length x) ≡ length w.runs = rw q at w.left in
        let b : row + (row_count o.run + total_rows x) ≡ total_rows w.runs = rw q at w.rows_left in
        let c = o.rows_are in
        record {
          in-first = omega (arith, w.room, w.long-first);
          in-at = omega (arith, w.room, w.long-at, w.same_at);
          in-counts = omega (arith, w.room, w.long-counts, w.same-counts);
          in-first₀ = omega (arith, w.room);
          in-at₀ = omega (arith, w.room, w.same_at);
          in-counts₀ = omega (arith, w.room, w.same-counts);
          rows-small = omega (arith, w.small);
        }

    pub filling-run : Filling s first₀ at₀ counts₀ (set first i row) (set at i p) (set counts i r.rows.rows) (p + r.consumed.bytes)
        (row + r.rows.rows) (i + 1)
    unfolding total_rows
    filling-run =
        let (x, e, q) = next in
        let y = has_room in
        let a : i + suc (length x) ≡ length w.runs = rw q at w.left in
        let b : row + (row_count o.run + total_rows x) ≡ total_rows w.runs = rw q at w.rows_left in
        record {
          runs = w.runs;
          whole_is = w.whole_is;
          room = w.room;
          small = w.small;
          same_at = w.same_at;
          same-counts = w.same-counts;
          rest = x;
          rest-is = e;
          left = omega arith;
          rows_left = omega (arith, o.rows_are);
          within = o.within;
          long-first = length-set first i row ∙ w.long-first;
          long-at = length-set at i p ∙ w.long-at;
          long-counts = length-set counts i r.rows.rows ∙ w.long-counts;
          firsts-are = sums_next first i row r.rows.rows (row_count o.run) (map row_count x) _ o.rows_are y.in-first (rw q at w.firsts-are);
          offsets_are = sums_next at i p r.consumed.bytes (byte_count o.run) (map byte_count x) _ o.bytes-are y.in-at (rw q at w.offsets_are);
          counts-are = counts-next counts i r.rows.rows (row_count o.run) (map row_count x) _ o.rows_are y.in-counts (rw q at w.counts-are);
          kept-first = kept first first₀ i row w.kept-first;
          kept_at = kept at at₀ i p w.kept_at;
          kept-counts = kept counts counts₀ i r.rows.rows w.kept-counts;
        }

  pub filling-refused : {f : Refusal} → NoRun s p f → ⊥
  filling-refused q =
      let e : broken [] q.reason (drop p s) ≡ whole w.rest = sym (broken-here q) ∙ w.rest-is in
      never (cc)

  pub filling-end : drop p s ≡ [] → Filled s first₀ at₀ counts₀ first at counts
  unfolding sums_before
  filling-end z = record { filled = λ ds e. go ds (whole-inj (sym w.whole_is ∙ e)) }
    where
      rest-none : w.rest ≡ []
      rest-none = whole-inj (sym (rw z at w.rest-is) ∙ stream-none)

      three : (f f' o o' n n' : List ℕ) → f ≡ f' → o ≡ o' → n ≡ n'
          → ◌≡◌ {A = Columns} (record { firsts = f; offsets = o; counts = n }) (record { firsts = f'; offsets = o'; counts = n' })
      three f f' o o' n n' a b c = rw (a, b, c)

      go : (ds : List Description) → w.runs ≡ ds
          → ◌≡◌ {A = Columns} (record { firsts = first; offsets = at; counts = counts })
          (columns_at (record { firsts = first₀; offsets = at₀; counts = counts₀ }) (gives ds))
      go ds e =
          let n : i ≡ length ds = omega (arith, w.left, ap length rest-none, ap length e) in
          rw (← n) (three first _ at _ counts _
          (filled first first₀ (sums_before 0 (map row_count ds)) i (rw (rest-none, e) at w.firsts-are) w.kept-first)
          (filled at at₀ (sums_before 0 (map byte_count ds)) i (rw (rest-none, e) at w.offsets_are) w.kept_at)
          (filled counts counts₀ (map row_count ds) i (rw (rest-none, e) at w.counts-are) w.kept-counts))

  -- a run is refused nowhere
  pub filling-over : (drop p s ≡ []) ⊎ ((f : Refusal) × NoRun s p f) → Filled s first₀ at₀ counts₀ first at counts
  filling-over (inl z) = filling-end z
  filling-over (inr (f, q)) = absurd (filling-refused q)
