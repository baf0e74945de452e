-- What building comes to. Assumes nothing.
use mathlib.Core.Path.{◌≡◌, refl, ap, ◌∙◌}
use mathlib.Core.Logic.{◌↔◌, ◌⊎◌, inl, inr}
use Prim.Native.Nat.{ℕ, ◌<◌, ◌≤◌}
use native.Mathlib.Omega.{arith}
use mathlib.Core.Bool.{Bool, true, false, ◌||◌}
use mathlib.Core.List.{List}
use lib.ListN.{length, take, drop}
use lib.Seq.{take_at}
use lib.Dec.{leb, ltb}
use borrow.Author.Tests.{le-leb, lt-leb, le-ltb, leb-false, ltb-false}
use Rattle.format.specs.Digits.{AllBelow}
use Rattle.format.specs.Fields.{two64}
use Rattle.format.specs.Runs.{Description, AllValid, joined}
use Rattle.format.specs.Parse.{Reason, plain}
use Rattle.format.specs.Streams.{Reading, whole, broken, stream, total_rows}
use Rattle.format.proofs.Tests.{never}
use Rattle.index.specs.Entries.{gives, refuses, unless, Entry, entries, building_of, building, table_of}
use Rattle.index.specs.Theorems.{IsIndex}
use Rattle.index.proofs.Entries.{entries-length}
use Rattle.index.proofs.Checked.{exactly-whole}

module _ (bs : List ℕ) (h : AllBelow 256 bs) where
  -- the test of the two conditions of refusal 8
  room : (a b c d : ℕ) → (ltb a b || leb c d ≡ false) ↔ ((b ≤ a) × (d < c))
  room a b c d = (λ e. go (ltb a b) (leb c d) refl refl e, λ p. rw (le-ltb a b p.0, lt-leb c d p.1))
    where
      go : (s t : Bool) → ltb a b ≡ s → leb c d ≡ t → s || t ≡ false → (b ≤ a) × (d < c)
      go false false e f g = (ltb-false a b e, leb-false c d f)
      go false true e f g = never (cc)
      go true t e f g = never (cc)

  pub built : (places : ℕ) (ds : List Description)
      → (building places bs ≡ gives ds) ↔ (AllValid ds × (bs ≡ joined ds) × (length ds ≤ places) × (total_rows ds < two64))
  unfolding building
  built places ds = (
    λ e. from (stream bs) refl e,
    λ (v, b, l, t). rw ((exactly-whole bs h ds).1 (v, b), (room places (length ds) two64 (total_rows ds)).1 (l, t)),
  )
    where
      test : (es : List Description) (t : Bool) → unless t 8 (gives es) ≡ gives ds → (t ≡ false) × (es ≡ ds)
      test es false e = (refl, cc)
      test es true e = never (cc)

      from : (m : Reading) → stream bs ≡ m → building_of places m ≡ gives ds → AllValid ds × (bs ≡ joined ds) × (length ds ≤ places) × (total_rows ds < two64)
      from (broken es r rest) s e = never (cc)
      from (whole es) s e =
          let p = test es (ltb places (length es) || leb two64 (total_rows es)) e in
          let q = (room places (length es) two64 (total_rows es)).0 p.0 in
          let w = (exactly-whole bs h ds).0 (s ∙ ap whole p.1) in
          (w.0, w.1, rw p.1 at q.0, rw p.1 at q.1)

  pub own : (places : ℕ) (ds : List Description) (r : Reason) (rest : List ℕ) → stream bs ≡ broken ds r rest
      → building places bs ≡ refuses r (length (joined ds))
  unfolding building
  own places ds r rest e = rw e

  pub full : (places : ℕ) (ds : List Description) → AllValid ds → bs ≡ joined ds → (places < length ds) ⊎ (two64 ≤ total_rows ds)
      → building places bs ≡ refuses (plain 8) 0
  unfolding building
  full places ds v e z = rw ((exactly-whole bs h ds).1 (v, e), test (ltb places (length ds)) refl z)
    where
      test : (t : Bool) → ltb places (length ds) ≡ t → (places < length ds) ⊎ (two64 ≤ total_rows ds) → t || leb two64 (total_rows ds) ≡ true
      test true g h = refl
      test false g (inl l) = absurd (omega (arith, ltb-false places (length ds) g))
      test false g (inr l) = le-leb two64 (total_rows ds) l

  pub building-right : (table : List Entry) (ds : List Description) → building (length table) bs ≡ gives ds
      → IsIndex bs (take (length ds) (table_of table (building (length table) bs)))
  building-right table ds e =
      let (v, b, l, t) = (built (length table) ds).0 e in
      record { runs = ds; valid = v; bytes = b; are = rw e (take_at (entries ds) (drop (length ds) table) (length ds) (entries-length 0 0 ds)) }
