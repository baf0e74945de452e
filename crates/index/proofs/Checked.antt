-- What checking an index comes to: the stream's runs where it is right, and else 15. Assumes nothing.
use mathlib.Core.Path.{◌≡◌, refl, sym, ap, ◌∙◌}
use mathlib.Core.Logic.{◌↔◌}
use Prim.Native.Nat.{ℕ, ◌*◌}
use mathlib.Core.Bool.{Bool, true, false, not}
use mathlib.Core.List.{List}
use lib.ListN.{length}
use lib.Dec.{T}
use Rattle.format.specs.Digits.{AllBelow}
use Rattle.format.specs.Runs.{Description, AllValid, joined}
use Rattle.format.specs.Parse.{plain}
use Rattle.format.specs.Streams.{Reading, whole, stream}
use Rattle.format.proofs.Streams.{Reads, reads_whole, reads-broken, joined-unique}
use Rattle.format.proofs.StreamRoom.{stream-is, stream-reads}
use Rattle.format.proofs.Tests.{never}
use Rattle.index.specs.Entries.{Result, gives, refuses, unless, Entry, entries, same, same_entry, checked_of, checked}
use Rattle.index.specs.Theorems.{IsIndex}
use Rattle.index.proofs.Entries.{same-sound, same_refl, entry-sound, entry-refl}

pub data Checked (bs : List ℕ) (es : List Entry) : Result (List Description) → Type 0 where
  right : (i : IsIndex bs es) → Checked bs es (gives i.runs)
  wrong : (IsIndex bs es → ⊥) → Checked bs es (refuses (plain 15) 0)

module _ (bs : List ℕ) (h : AllBelow 256 bs) (es : List Entry) where
  pub runs-are : (i : IsIndex bs es) (ds : List Description) → AllValid ds → bs ≡ joined ds → i.runs ≡ ds
  runs-are i ds v e = joined-unique i.runs ds i.valid v (sym i.bytes ∙ e)

  pub what-checked : Checked bs es (checked es bs)
  unfolding checked
  what-checked = go (stream bs) refl (stream-reads bs h)
    where
      test : (ds : List Description) (t : Bool) → same same_entry es (entries ds) ≡ t → AllValid ds → bs ≡ joined ds
          → Checked bs es (unless (not t) 15 (gives ds))
      test ds true e v b = right (record { runs = ds; valid = v; bytes = b; are = same-sound same_entry entry-sound es (entries ds) (rw e tt) })
      test ds false e v b = wrong λ i.
          let f : T (same same_entry es (entries ds)) = rw (i.are, runs-are i ds v b) (same_refl same_entry entry-refl (entries ds)) in
          rw e at f

      go : (m : Reading) → stream bs ≡ m → Reads (512 * length bs) bs m → Checked bs es (checked_of es m)
      go m e (reads_whole {ds} v b l) = test ds (same same_entry es (entries ds)) refl v b
      go m e (reads-broken {ds} {r} {rest} v b l f) = wrong λ i.
          let g : stream bs ≡ whole i.runs = rw i.bytes (stream-is i.runs i.valid) in
          never (cc)

module _ (bs : List ℕ) (h : AllBelow 256 bs) where
  pub exactly-whole : (ds : List Description) → (stream bs ≡ whole ds) ↔ (AllValid ds × (bs ≡ joined ds))
  exactly-whole ds = (λ e. go (rw e at (stream-reads bs h)), λ p. rw p.1 (stream-is ds p.0))
    where
      go : Reads (512 * length bs) bs (whole ds) → AllValid ds × (bs ≡ joined ds)
      go (reads_whole v e l) = (v, e)

  pub checked-wrong : (es : List Entry) → (IsIndex bs es → ⊥) → checked es bs ≡ refuses (plain 15) 0
  checked-wrong es n = go (what-checked bs h es)
    where
      go : {m : Result (List Description)} → Checked bs es m → m ≡ refuses (plain 15) 0
      go (right i) = absurd (n i)
      go (wrong n) = refl

  -- by whether the index is right
  pub right-or-wrong : {P : Type 0} (es : List Entry) → (IsIndex bs es → P) → ((IsIndex bs es → ⊥) → P) → P
  right-or-wrong {P} es a b = go (what-checked bs h es)
    where
      go : {m : Result (List Description)} → Checked bs es m → P
      go (right i) = a i
      go (wrong n) = b n

  module _ (es : List Entry) (i : IsIndex bs es) where
    pub checked-right : checked es bs ≡ gives i.runs
    checked-right = go (what-checked bs h es)
      where
        go : {m : Result (List Description)} → Checked bs es m → m ≡ gives i.runs
        go (right j) = ap gives (runs-are bs h es j i.runs i.valid i.bytes)
        go (wrong n) = absurd (n i)
