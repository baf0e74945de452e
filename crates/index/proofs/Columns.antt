-- The three columns say what the table of entries says. Assumes nothing.
use mathlib.Core.Path.{◌≡◌, refl, sym, ap, ◌∙◌}
use mathlib.Core.Logic.{◌⊎◌, inl, inr}
use Prim.Native.Nat.{ℕ, zero, suc, ◌+◌}
use native.Mathlib.Omega.{arith}
use mathlib.Core.Bool.{Bool, true, false, not, ◌&&◌}
use mathlib.Core.List.{List, [], ◌∷◌, ◌++◌, map}
use lib.ListN.{length, drop, length-map}
use lib.Dec.{eqb}
use borrow.Author.Tests.{eq-eqb, eqb-true}
use Rattle.format.specs.Runs.{Description, row_count, layout}
use Rattle.format.specs.Parse.{plain}
use Rattle.format.specs.Streams.{Reading, whole, broken, stream}
use Rattle.index.specs.Entries.{Result, gives, refuses, unless, Entry, entries_from, entries, table_of, same, same_entry, checked_of, checked, holder}
use Rattle.index.specs.Entries.{lookup, reading}
use Rattle.index.specs.Columns.{Columns, sums_before, byte_count, columns, same_columns, alike, columns_at, building_in, checked_columns, checked_in, holder_in}
use Rattle.index.specs.Columns.{lookup_in, reading_in}
use Rattle.index.specs.Theorems.{as_columns, Alike, ColumnsHold}

-- the columns of a stream's entries are the stream's columns
firsts-are : (f a : ℕ) (ds : List Description) → map (λ e. e.first) (entries_from f a ds) ≡ sums_before f (map row_count ds)
unfolding entries_from sums_before
firsts-are f a [] = refl
firsts-are f a (d ∷ ds) = ap (λ (l : List ℕ). f ∷ l) (firsts-are (f + row_count d) (a + length (layout d)) ds)

offsets_are : (f a : ℕ) (ds : List Description) → map (λ e. e.at) (entries_from f a ds) ≡ sums_before a (map byte_count ds)
unfolding entries_from sums_before
offsets_are f a [] = refl
offsets_are f a (d ∷ ds) = ap (λ (l : List ℕ). a ∷ l) (offsets_are (f + row_count d) (a + length (layout d)) ds)

counts-are : (f a : ℕ) (ds : List Description) → map (λ e. e.rows) (entries_from f a ds) ≡ map row_count ds
unfolding entries_from
counts-are f a [] = refl
counts-are f a (d ∷ ds) = ap (λ (l : List ℕ). row_count d ∷ l) (counts-are (f + row_count d) (a + length (layout d)) ds)

pub columns-are : (ds : List Description) → as_columns (entries ds) ≡ columns ds
columns-are ds = rw (firsts-are 0 0 ds, offsets_are 0 0 ds, counts-are 0 0 ds)

-- two tables are the same by their columns
pub regrouped : (a b c s t u all : Bool) → all ≡ s && (t && u) → (a && (b && c)) && all ≡ (a && s) && ((b && t) && (c && u))
regrouped false b c s t u all e = refl
regrouped true false c false t u all e = refl
regrouped true false c true t u all e = refl
regrouped true true false false t u all e = refl
regrouped true true false true false u all e = refl
regrouped true true false true true u all e = refl
regrouped true true true s t u all e = e

same-columns : (es fs : List Entry) → same same_entry es fs ≡ same_columns (as_columns es) (as_columns fs)
unfolding same
same-columns [] [] = refl
same-columns [] (f ∷ fs) = refl
same-columns (e ∷ es) [] = refl
same-columns (e ∷ es) (f ∷ fs) =
    regrouped (eqb e.first f.first) (eqb e.at f.at) (eqb e.rows f.rows) _ _ _ (same same_entry es fs) (same-columns es fs)

holder-columns : (r : ℕ) (es : List Entry) → holder_in r (map (λ e. e.first) es) (map (λ e. e.at) es) (map (λ e. e.rows) es) ≡ holder r es
unfolding holder holder_in
holder-columns r [] = refl
holder-columns r (e ∷ es) = rw (holder-columns r es)

-- ---- columns of one length

table-alike : (es : List Entry) → Alike (as_columns es)
table-alike es = record {
  offsets = length-map es (λ e. e.first) ∙ sym (length-map es (λ e. e.at));
  counts = length-map es (λ e. e.first) ∙ sym (length-map es (λ e. e.rows));
}

pub alike-true : (f o n : ℕ) → f ≡ o → f ≡ n → alike f o n ≡ true
alike-true f o n p q = rw (eq-eqb f o p, eq-eqb f n q)

alike-false : (f o n : ℕ) → ((f ≡ o) × (f ≡ n) → ⊥) → alike f o n ≡ false
alike-false f o n h = go (eqb f o) (eqb f n) (eqb-true f o) (eqb-true f n)
  where
    go : (a b : Bool) → (a ≡ true → f ≡ o) → (b ≡ true → f ≡ n) → a && b ≡ false
    go false b p q = refl
    go true false p q = refl
    go true true p q = absurd (h (p refl, q refl))

-- what the calls' test of the lengths shows
pub not-alike : {f o n : ℕ} → (o ≡ f → ⊥) ⊎ ((o ≡ f) × (n ≡ f → ⊥)) → (f ≡ o) × (f ≡ n) → ⊥
not-alike (inl h) p = h (sym p.0)
not-alike (inr h) p = h.1 (sym p.1)

a-table : (fs os ns : List ℕ) → length fs ≡ length os → length fs ≡ length ns
    → (es : List Entry) × (record { firsts = fs; offsets = os; counts = ns } ≡ as_columns es)
a-table [] [] [] p q = ([], refl)
a-table [] [] (n ∷ ns) p q = absurd (omega arith)
a-table [] (o ∷ os) ns p q = absurd (omega arith)
a-table (f ∷ fs) [] ns p q = absurd (omega arith)
a-table (f ∷ fs) (o ∷ os) [] p q = absurd (omega arith)
a-table (f ∷ fs) (o ∷ os) (n ∷ ns) p q =
    let (es, e) = a-table fs os ns (omega arith) (omega arith) in (
      record { first = f; at = o; rows = n } ∷ es,
      ap (λ (c : Columns). record { firsts = f ∷ c.firsts; offsets = o ∷ c.offsets; counts = n ∷ c.counts }) e,
    )

-- ---- what is checked

pub checked-same : (es : List Entry) (bs : List ℕ) → checked_in (as_columns es) bs ≡ checked es bs
unfolding checked_in checked
checked-same es bs =
    let a = table-alike es in
    rw (alike-true _ _ _ a.offsets a.counts) (go (stream bs))
  where
    go : (m : Reading) → checked_columns (as_columns es) m ≡ checked_of es m
    go (whole ds) =
        ap (λ (t : Bool). unless (not t) 15 (gives ds)) (ap (same_columns (as_columns es)) (sym (columns-are ds)) ∙ sym (same-columns es (entries ds)))
    go (broken ds r rest) = refl

checked-unequal : (c : Columns) (bs : List ℕ) → (Alike c → ⊥) → checked_in c bs ≡ refuses (plain 15) 0
unfolding checked_in
checked-unequal c bs h = rw (alike-false (length c.firsts) (length c.offsets) (length c.counts) (λ p. h (record { offsets = p.0; counts = p.1 })))

-- ---- what is built

map-append : {A B : Type 0} (f : A → B) (s t : List A) → map f (s ++ t) ≡ map f s ++ map f t
map-append f [] t = refl
map-append f (x ∷ s) t = rw (map-append f s t)

map-drop : {A B : Type 0} (f : A → B) (n : ℕ) (l : List A) → map f (drop n l) ≡ drop n (map f l)
map-drop f zero l = refl
map-drop f (suc n) [] = refl
map-drop f (suc n) (x ∷ l) = map-drop f n l

table-columns : (table : List Entry) (m : Result (List Description)) → columns_at (as_columns table) m ≡ as_columns (table_of table m)
table-columns table (refuses r at) = refl
table-columns table (gives ds) =
    simp (map-append, map-drop, firsts-are 0 0 ds, offsets_are 0 0 ds, counts-are 0 0 ds)

pub columns-hold : ColumnsHold
unfolding lookup_in lookup reading_in reading building_in
columns-hold = record {
  a-table = λ c p. a-table c.firsts c.offsets c.counts p.offsets p.counts;
  table-alike = table-alike;
  same-lookup = λ es bs r. rw (checked-same es bs, holder-columns r es);
  same-reading = λ signed places es bs r. rw (checked-same es bs);
  same-table = table-columns;
  same-building = λ n bs. rw (alike-true n n n refl refl);
  unequal-lookup = λ c bs r h. rw (checked-unequal c bs h);
  unequal-reading = λ signed places c bs r h. rw (checked-unequal c bs h);
  unequal-building = λ f o n bs h. rw (alike-false f o n h);
}
