-- Any two outcomes of a call are equal, and what was built is a right index. Assumes nothing.
use mathlib.Core.Path.{◌≡◌, refl, sym, ap, ◌∙◌}
use mathlib.Core.Logic.{◌≢◌}
use Prim.Native.Nat.{ℕ}
use mathlib.Core.Bool.{Bool, true, false, not}
use mathlib.Core.List.{List, ◌++◌, map}
use lib.ListN.{length, take, drop, length-map}
use lib.Seq.{take_at}
use Rattle.format.specs.Digits.{AllBelow}
use Rattle.format.specs.Runs.{Description, row_count}
use Rattle.format.specs.Parse.{plain, cut}
use Rattle.format.proofs.Tests.{never}
use Rattle.index.specs.Entries.{Result, gives, refuses, number_of, unless, Entry, entries, building, lookup}
use Rattle.index.specs.Columns.{Columns, sums_before, byte_count, columns_at, alike, building_in, lookup_in}
use Rattle.index.specs.Theorems.{PromisesHold, as_columns}
use Rattle.std.specs.Prelude.{Ok, Err}
use Rattle.index.specs.Promises.{Built, Found, built_of, found_of, not_found, BuiltIn, LookedUp}
use Rattle.index.specs.declared.Sizes.{Sizes}
use Rattle.index.proofs.Building as Building
use Rattle.index.proofs.Columns.{columns-hold, columns-are}
use Rattle.index.proofs.Index.{lookup-holds}
use Rattle.index.proofs.Previews.{sums-length}

-- what was built, by the answer
built-runs : (total : ℕ) (s : Sizes) (m : Result (List Description)) → Ok s ≡ built_of total m
    → (ds : List Description) × (m ≡ gives ds) × (s.entries ≡ length ds)
built-runs total s (gives ds) e = (ds, refl, ap entries_in e)
  where
    entries_in : Built → ℕ
    entries_in (Ok z) = z.entries
    entries_in (Err f) = 0
built-runs total s (refuses r at) e = never (cc)

as-built : (f o n : ℕ) (bs : List ℕ) (ds : List Description) → building_in f o n bs ≡ gives ds → building f bs ≡ gives ds
unfolding building_in
as-built f o n bs ds e = go (alike f o n) e
  where
    go : (t : Bool) → unless (not t) 15 (building f bs) ≡ gives ds → building f bs ≡ gives ds
    go true e = e
    go false e = never (cc)

-- an answer of 15 is a refusal with 15
fifteen : (m : Result Entry) → found_of m ≡ not_found 15 → number_of m ≡ 15
fifteen (gives e) q = never (cc)
fifteen (refuses (plain k) p) q = ap number_in q
  where
    number_in : Found → ℕ
    number_in (Ok e) = 0
    number_in (Err f) = f.number
fifteen (refuses (cut k l) p) q = ap number_in q
  where
    number_in : Found → ℕ
    number_in (Ok e) = 0
    number_in (Err f) = f.number

firsts-in : (ds : List Description) (l : List ℕ) → take (length ds) (sums_before 0 (map row_count ds) ++ l) ≡ sums_before 0 (map row_count ds)
firsts-in ds l = take_at (sums_before 0 (map row_count ds)) l (length ds) (sums-length 0 (map row_count ds) ∙ length-map ds row_count)

offsets-in : (ds : List Description) (l : List ℕ) → take (length ds) (sums_before 0 (map byte_count ds) ++ l) ≡ sums_before 0 (map byte_count ds)
offsets-in ds l = take_at (sums_before 0 (map byte_count ds)) l (length ds) (sums-length 0 (map byte_count ds) ∙ length-map ds byte_count)

counts-in : (ds : List Description) (l : List ℕ) → take (length ds) (map row_count ds ++ l) ≡ map row_count ds
counts-in ds l = take_at (map row_count ds) l (length ds) (length-map ds row_count)

abbrev first-of : ℕ → Columns → Columns
first-of k c = record { firsts = take k c.firsts; offsets = take k c.offsets; counts = take k c.counts }

its-columns : (ds : List Description) (c : Columns) → first-of (length ds) (columns_at c (gives ds)) ≡ as_columns (entries ds)
its-columns ds c = rw (
  firsts-in ds (drop (length ds) c.firsts),
  offsets-in ds (drop (length ds) c.offsets),
  counts-in ds (drop (length ds) c.counts),
) (sym (columns-are ds))

built-never-15 : (input first at counts f o n : List ℕ) (s : Sizes) (row : ℕ) (r : Found) → AllBelow 256 input
    → BuiltIn input first at counts f o n (Ok s)
    → LookedUp input (record { firsts = take s.entries f; offsets = take s.entries o; counts = take s.entries n }) row r → r ≢ not_found 15
built-never-15 input first at counts f o n s row r h b l e =
    let (ds, m, k) = built-runs (length input) s (building_in (length first) (length at) (length counts) input) b.answer in
    let (v, w, p, q) = (Building.built input h (length first) ds).0 (as-built (length first) (length at) (length counts) input ds m) in
    let c : first-of s.entries (record { firsts = f; offsets = o; counts = n }) ≡ as_columns (entries ds) =
    ap (first-of s.entries) (b.columns ∙ ap (columns_at (record { firsts = first; offsets = at; counts = counts })) m)
    ∙ ap (λ (x : ℕ). first-of x (columns_at (record { firsts = first; offsets = at; counts = counts }) (gives ds))) k
    ∙ its-columns ds (record { firsts = first; offsets = at; counts = counts }) in
    let g : found_of (lookup (entries ds) input row) ≡ not_found 15 =
    sym (ap found_of (ap (λ (x : Columns). lookup_in x input row) c ∙ columns-hold.same-lookup (entries ds) input row)) ∙ sym l ∙ e in
    (lookup-holds input h (entries ds) row).is-15.0 (fifteen (lookup (entries ds) input row) g) (record { runs = ds; valid = v; bytes = w; are = refl })

pub promises-hold : PromisesHold
promises-hold = record {
  build-same = λ input first at counts f o n f' o' n' r r' p q.
      let e = p.columns ∙ sym q.columns in
      (p.answer ∙ sym q.answer, ap (λ (c : Columns). c.firsts) e, ap (λ (c : Columns). c.offsets) e, ap (λ (c : Columns). c.counts) e);
  lookup-same = λ input c row r r' p q. p ∙ sym q;
  reading-same = λ input c row signed out out' out'' r r' p q. (p.answer ∙ sym q.answer, p.places ∙ sym q.places);
  never-15 = built-never-15;
}
