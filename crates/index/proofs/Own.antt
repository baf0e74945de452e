-- A stream's own refusal, where there is room enough, is never 8, and building tells 8 exactly where an entry lacks a place. Assumes nothing.
use mathlib.Core.Path.{◌≡◌, refl, sym, ap, ◌∙◌}
use mathlib.Core.Logic.{◌≢◌, ◌↔◌, ◌⊎◌, inl, inr}
use Prim.Native.Nat.{ℕ, ◌-◌, ◌*◌, ◌<◌, ◌≤◌}
use native.Mathlib.Omega.{arith}
use mathlib.Core.Bool.{Bool, true, false, ◌||◌}
use mathlib.Core.List.{List, []}
use lib.ListN.{length, length-append}
use lib.Dec.{leb, ltb}
use borrow.Author.Tests.{leb-true, ltb-true}
use Rattle.format.specs.Digits.{AllBelow}
use Rattle.format.specs.Fields.{two64}
use Rattle.format.specs.Runs.{Description, layout, AllValid, joined}
use Rattle.format.specs.Parse.{Reason, plain, cut, Parsed, refused, parse, into}
use Rattle.format.specs.Streams.{Reading, whole, broken, stream, total_rows}
use Rattle.format.proofs.Below.{behind-below}
use Rattle.format.proofs.Rows.{row-bounds}
use Rattle.format.proofs.Runs.{layout-pos, Outcome, nothing, run, refusal, outcome}
use Rattle.format.proofs.Streams.{Reads, reads-broken, into-got, into-end, into-refused}
use Rattle.format.proofs.Joined.{rows-le}
use Rattle.format.proofs.StreamRoom.{not-empty, stream-reads}
use Rattle.format.proofs.Never.{reason_number, never-8}
use Rattle.format.proofs.Tests.{never}
use Rattle.index.specs.Entries as Entries
use Rattle.index.specs.Entries.{Result, gives, refuses, number_of, building_of, building}
use Rattle.index.proofs.Checked.{exactly-whole}
use Rattle.index.proofs.Building.{full}

-- reading a run never refuses with 8, so the stream's own refusal is never 8
pub own-never-8 : (bs : List ℕ) → AllBelow 256 bs → (ds : List Description) (r : Reason) (rest : List ℕ) → stream bs ≡ broken ds r rest → reason_number r ≢ 8
own-never-8 bs h ds r rest e = go (rw e at (stream-reads bs h))
  where
    own : (m : ℕ) → (rest ≢ [] → 512 ≤ m) → into m (parse rest) ≡ refused r → {p : Parsed Description} → parse rest ≡ p → Outcome rest p → reason_number r ≢ 8
    own m l f q (nothing z) = never (cc (into-end m))
    own m l f q (run {d} {rest = s} t) =
        let k : 512 ≤ m = l λ z. omega (arith, layout-pos d, length-append (layout d) s, ap length (sym t.split ∙ z)) in
        never (cc (into-got m d s (omega (arith, row-bounds d t.ok))))
    own m l f q (refusal {r = x} z) =
        let y : r ≡ x = cc (into-refused m x) in
        rw y (never-8 rest x q)

    go : Reads (512 * length bs) bs (broken ds r rest) → reason_number r ≢ 8
    go (reads-broken v b t f) =
        own (512 * length bs - total_rows ds) (λ z. omega (arith, rows-le ds v, length-append (joined ds) rest, ap length b, not-empty rest z)) f refl
        (outcome rest (behind-below 256 (joined ds) rest (rw b at h)))

-- ---- building tells 8 exactly where an entry lacks a place or the rows pass 2^64 - 1

number_is : (r : Reason) (at : ℕ) → number_of {A = List Description} (refuses r at) ≡ reason_number r
number_is (plain n) at = refl
number_is (cut n left) at = refl

abbrev unless8 : Bool → List Description → Result (List Description)
unless8 t ds = Entries.unless t 8 (gives ds)

module _ (bs : List ℕ) (h : AllBelow 256 bs) (places : ℕ) where
  abbrev NoRoom : List Description → Type 0
  NoRoom ds = (places < length ds) ⊎ (two64 ≤ total_rows ds)

  no_room : (a b : Bool) (ds : List Description) → ltb places (length ds) ≡ a → leb two64 (total_rows ds) ≡ b → number_of (unless8 (a || b) ds) ≡ 8 → NoRoom ds
  no_room true b ds e f g = inl (ltb-true places (length ds) e)
  no_room false true ds e f g = inr (leb-true two64 (total_rows ds) f)
  no_room false false ds e f g = absurd (omega arith)

  pub exactly-8 : (number_of (building places bs) ≡ 8) ↔ ((ds : List Description) × AllValid ds × (bs ≡ joined ds) × NoRoom ds)
  unfolding building
  exactly-8 = (λ e. from (stream bs) refl e, λ (ds, v, b, r). ap number_of (full bs h places ds v b r))
    where
      from : (m : Reading) → stream bs ≡ m → number_of (building_of places m) ≡ 8 → (ds : List Description) × AllValid ds × (bs ≡ joined ds) × NoRoom ds
      from (broken ds r rest) s e = absurd (own-never-8 bs h ds r rest s (sym (number_is r (length (joined ds))) ∙ e))
      from (whole ds) s e =
          let w = (exactly-whole bs h ds).0 s in
          (ds, w.0, w.1, no_room (ltb places (length ds)) (leb two64 (total_rows ds)) ds refl refl e)
