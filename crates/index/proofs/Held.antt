-- The entry that holds a row: it is the only one, and the runs before and behind it. Assumes nothing.
use mathlib.Core.Path.{◌≡◌, refl, ap}
use mathlib.Core.Logic.{◌⊎◌, inl, inr}
use Prim.Native.Nat.{ℕ, ◌+◌, ◌<◌, ◌≤◌}
use native.Mathlib.Omega.{arith}
use native.Mathlib.Decide.{dec_lt}
use mathlib.Core.Bool.{Bool, true, false, ◌&&◌}
use mathlib.Core.List.Memᴰ
use mathlib.Core.List.{List, [], ◌∷◌, ◌++◌, Memᴰ}
use lib.ListN.{length, length-append}
use lib.Dec.{T, leb, ltb, leb→le, ltb→lt, le→leb, lt→ltb}
use borrow.Author.Tests.{le-leb, le-ltb, lt-ltb}
use Rattle.format.specs.Fields.{pick}
use Rattle.format.specs.Runs.{Description, row_count, layout, joined}
use Rattle.format.specs.Parse.{plain}
use Rattle.format.specs.Streams.{total_rows}
use Rattle.index.specs.Entries.{Result, gives, refuses, Entry, entries_from, holds_row, holder}
use Rattle.index.specs.Theorems.{Holds}
use Rattle.format.proofs.Tests.{never, and-e, and_i}

holds_row_lem : (e : Entry) (r : ℕ) → Holds e r → T (holds_row e r)
holds_row_lem e r h = and_i (leb e.first r) (ltb r (e.first + e.rows)) (le→leb e.first r h.from) (lt→ltb r (e.first + e.rows) h.below)

row-holds : (e : Entry) (r : ℕ) → T (holds_row e r) → Holds e r
row-holds e r t =
    let p = and-e (leb e.first r) (ltb r (e.first + e.rows)) t in
    record { from = leb→le e.first r p.0; below = ltb→lt r (e.first + e.rows) p.1 }

-- what is given is one of the entries, and holds the row
pub holder-sound : (r : ℕ) (es : List Entry) (e : Entry) → holder r es ≡ gives e → Memᴰ e es × Holds e r
unfolding holder
holder-sound r [] e g = never (cc)
holder-sound r (d ∷ es) e g = go (holds_row d r) refl g (holder-sound r es e)
  where
    go : (t : Bool) → holds_row d r ≡ t → pick t (gives d) (holder r es) ≡ gives e → (holder r es ≡ gives e → Memᴰ e es × Holds e r)
        → Memᴰ e (d ∷ es) × Holds e r
    go true f g ih =
        let s : e ≡ d = cc in
        (Memᴰ.head s, rw s (row-holds d r (rw f tt)))
    go false f g ih = let p = ih g in (Memᴰ.tail p.0, p.1)

-- by the runs: the run that holds the row, and those before and behind it; or there is none
pub data Held (r f a : ℕ) (ds : List Description) : Result Entry → Type 0 where
  held : (before behind : List Description) (d : Description) {e : Entry} → ds ≡ before ++ (d ∷ behind)
      → e.first ≡ f + total_rows before → e.at ≡ a + length (joined before) → e.rows ≡ row_count d → Holds e r → Held r f a ds (gives e)
  unheld : f + total_rows ds ≤ r → Held r f a ds (refuses (plain 16) 0)

pub what-held : (r f a : ℕ) (ds : List Description) → f ≤ r → Held r f a ds (holder r (entries_from f a ds))
unfolding holder entries_from total_rows joined
what-held r f a [] h = unheld (omega arith)
what-held r f a (d ∷ ds) h = go (dec_lt r (f + row_count d)) (what-held r (f + row_count d) (a + length (layout d)) ds)
  where
    later : {m : Result Entry} → f + row_count d ≤ r → Held r (f + row_count d) (a + length (layout d)) ds m → Held r f a (d ∷ ds) m
    later l (held before behind c {e = x} e p q n s) =
        held (d ∷ before) behind c {e = x} (ap (λ (l : List Description). d ∷ l) e) (omega (arith, p))
        (omega (arith, q, length-append (layout d) (joined before))) n s
    later l (unheld g) = unheld (omega (arith, g))

    go : Dec (r < f + row_count d) → (f + row_count d ≤ r
        → Held r (f + row_count d) (a + length (layout d)) ds (holder r (entries_from (f + row_count d) (a + length (layout d)) ds)))
        → Held r f a (d ∷ ds) (pick (leb f r && ltb r (f + row_count d)) (gives (record { first = f; at = a; rows = row_count d }))
        (holder r (entries_from (f + row_count d) (a + length (layout d)) ds)))
    go (yes l) ih = rw (le-leb f r h, lt-ltb r (f + row_count d) l)
        (held [] ds d {e = record { first = f; at = a; rows = row_count d }} refl (omega arith) (omega arith) refl (record { from = h; below = l }))
    go (no l) ih = rw (le-leb f r h, le-ltb r (f + row_count d) (omega arith)) (later (omega arith) (ih (omega arith)))

-- an entry of the runs that holds the row is the one that is given
first-le : (f a : ℕ) (ds : List Description) (e : Entry) → Memᴰ e (entries_from f a ds) → f ≤ e.first
unfolding entries_from
first-le f a [] e m = absurd (Memᴰ.not-nil m)
first-le f a (d ∷ ds) e m = go (Memᴰ.cases_cons m) (first-le (f + row_count d) (a + length (layout d)) ds e)
  where
    go : (e ≡ record { first = f; at = a; rows = row_count d }) ⊎ Memᴰ e (entries_from (f + row_count d) (a + length (layout d)) ds)
        → (Memᴰ e (entries_from (f + row_count d) (a + length (layout d)) ds) → f + row_count d ≤ e.first) → f ≤ e.first
    go (inl s) ih = omega (arith, ap (λ (x : Entry). x.first) s)
    go (inr m) ih = omega (arith, ih m)

pub holder-of : (r f a : ℕ) (ds : List Description) (e : Entry) → Memᴰ e (entries_from f a ds) → Holds e r → holder r (entries_from f a ds) ≡ gives e
unfolding holder entries_from
holder-of r f a [] e m h = absurd (Memᴰ.not-nil m)
holder-of r f a (d ∷ ds) e m h = go (Memᴰ.cases_cons m) (λ m. holder-of r (f + row_count d) (a + length (layout d)) ds e m h)
  where
    go : (e ≡ record { first = f; at = a; rows = row_count d }) ⊎ Memᴰ e (entries_from (f + row_count d) (a + length (layout d)) ds)
        → (Memᴰ e (entries_from (f + row_count d) (a + length (layout d)) ds) → holder r (entries_from (f + row_count d) (a + length (layout d)) ds) ≡ gives e)
        → pick (leb f r && ltb r (f + row_count d)) (gives (record { first = f; at = a; rows = row_count d }))
        (holder r (entries_from (f + row_count d) (a + length (layout d)) ds)) ≡ gives e
    go (inl s) ih =
        let k : Holds (record { first = f; at = a; rows = row_count d }) r = rw s at h in
        rw (le-leb f r k.from, lt-ltb r (f + row_count d) k.below, s)
    go (inr m) ih =
        let l : f + row_count d ≤ r = omega (arith, first-le (f + row_count d) (a + length (layout d)) ds e m, h.from) in
        rw (le-leb f r (omega arith), le-ltb r (f + row_count d) l) (ih m)
