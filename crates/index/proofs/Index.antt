-- The theorems of the index, from the law of streams. Assumes nothing.
use mathlib.Core.Path.{◌≡◌, refl, sym, ap, ◌∙◌}
use mathlib.Core.Logic.{◌≢◌, ◌↔◌}
use Prim.Native.Nat.{ℕ, ◌+◌, ◌-◌, ◌<◌, ◌≤◌}
use native.Mathlib.Omega.{arith}
use native.Mathlib.Nat.{zero-add}
use mathlib.Core.Bool.{Bool, true, false}
use mathlib.Core.List.{List, ◌∷◌, ◌++◌, Memᴰ}
use lib.ListN.{length, take, drop}
use lib.Seq.{drop_at, drop-append-add}
use lib.Dec.{leb, ltb}
use lib.IntN.{ℤ}
use borrow.Author.Tests.{leb-true, leb-false, ltb-true, ltb-false}
use Rattle.format.specs.Digits.{AllBelow}
use Rattle.format.specs.Runs.{Description, joined}
use Rattle.format.specs.Parse.{plain}
use Rattle.format.specs.Streams.{whole, stream, total_rows, joined_rows}
use Rattle.format.proofs.Rows.{joined-count}
use Rattle.format.proofs.StreamRoom.{stream-is, room-enough}
use Rattle.format.proofs.Joined.{total-append, joined-append, rows_append, valid-behind}
use Rattle.format.proofs.Tests.{never}
use Rattle.index.specs.Entries.{Result, gives, refuses, number_of, unless, Entry, entries, building, table_of, holder, lookup, rows_from, reading}
use Rattle.index.specs.Theorems.{IsIndex, Holds, LookupHolds, ReadingHolds, IndexHolds, IndexProved}
use Rattle.index.proofs.Entries.{total-cons}
use Rattle.index.proofs.Held.{holder-sound, Held, held, unheld, what-held, holder-of}
use Rattle.index.proofs.Checked.{runs-are, checked-right, checked-wrong, right-or-wrong, exactly-whole}
use Rattle.index.proofs.Building.{built, own, full, building-right}
use Rattle.index.proofs.Own.{exactly-8}

module _ (bs : List ℕ) (h : AllBelow 256 bs) where
  module _ (es : List Entry) (i : IsIndex bs es) where
    lookup-right : (r : ℕ) → lookup es bs r ≡ holder r (entries i.runs)
    unfolding lookup
    lookup-right r = rw (checked-right bs h es i) (ap (holder r) i.are)

    reading-right : (signed : Bool) (places r : ℕ) → reading signed places es bs r ≡ rows_from signed places r i.runs
    unfolding reading
    reading-right signed places r = rw (checked-right bs h es i)

    lookup-held : (r : ℕ) → Held r 0 0 i.runs (lookup es bs r)
    lookup-held r = rw (lookup-right r) (what-held r 0 0 i.runs (omega arith))

  module _ (es : List Entry) (r : ℕ) where
    lookup-wrong : (IsIndex bs es → ⊥) → lookup es bs r ≡ refuses (plain 15) 0
    unfolding lookup
    lookup-wrong n = rw (checked-wrong bs h es n)

    found-only : (e e' : Entry) → IsIndex bs es → Memᴰ e es → Holds e r → Memᴰ e' es → Holds e' r → e ≡ e'
    found-only e e' i m k m' k' =
        let a : holder r (entries i.runs) ≡ gives e = holder-of r 0 0 i.runs e (rw i.are at m) k in
        let b : holder r (entries i.runs) ≡ gives e' = holder-of r 0 0 i.runs e' (rw i.are at m') k' in
        cc

    found-exactly : (e : Entry) → (lookup es bs r ≡ gives e) ↔ (IsIndex bs es × Memᴰ e es × Holds e r)
    found-exactly e = (
      λ g. right-or-wrong bs h es
          (λ i. let p = holder-sound r (entries i.runs) e (sym (lookup-right es i r) ∙ g) in (i, rw i.are p.0, p.1))
          (λ n. let w = lookup-wrong n in never (cc)),
      λ (i, m, k). lookup-right es i r ∙ holder-of r 0 0 i.runs e (rw i.are at m) k,
    )

    found_below : (i : IsIndex bs es) → r < total_rows i.runs → (e : Entry) × (lookup es bs r ≡ gives e)
    found_below i l = go refl (lookup-held es i r)
      where
        go : {m : Result Entry} → lookup es bs r ≡ m → Held r 0 0 i.runs m → (e : Entry) × (lookup es bs r ≡ gives e)
        go g (held before behind d {e = e} s p q n k) = (e, g)
        go g (unheld n) = absurd (omega arith)

    -- 16, of a right index: no row so high
    none-exactly : (i : IsIndex bs es) → (number_of (lookup es bs r) ≡ 16) ↔ (total_rows i.runs ≤ r)
    none-exactly i = go refl (lookup-held es i r)
      where
        go : {m : Result Entry} → lookup es bs r ≡ m → Held r 0 0 i.runs m → (number_of (lookup es bs r) ≡ 16) ↔ (total_rows i.runs ≤ r)
        go g (held before behind d {e = e} s p q n k) =
            rw g (omega (arith, k.below, ap total_rows s, total-append before (d ∷ behind), total-cons d behind))
        go g (unheld n) = rw g (omega arith)

    pub lookup-holds : LookupHolds bs es r
    lookup-holds = record {
      exactly = found-exactly;
      only = found-only;
      found = found_below;
      is-15 = (λ g i. not-15 (lookup-held es i r) g, λ n. ap number_of (lookup-wrong n));
      is-16 = (
        λ g. right-or-wrong bs h es (λ i. (i, (none-exactly i).0 g)) (λ n. absurd (omega (arith, ap number_of (lookup-wrong n)))),
        λ (i, l). (none-exactly i).1 l,
      );
    }
      where
        not-15 : {ds : List Description} {m : Result Entry} → Held r 0 0 ds m → number_of m ≢ 15
        not-15 (held before behind d s p q n k) = omega arith
        not-15 (unheld l) = omega arith

  module _ (signed : Bool) (places : ℕ) (es : List Entry) (r : ℕ) where
    reading-wrong : (IsIndex bs es → ⊥) → reading signed places es bs r ≡ refuses (plain 15) 0
    unfolding reading
    reading-wrong n = rw (checked-wrong bs h es n)

    -- the rows from r on of runs
    record From (ds : List Description) (m : Result (List ℤ)) : Type 0 where
      not-15 : number_of m ≢ 15
      is-16 : (number_of m ≡ 16) ↔ (total_rows ds ≤ r)
      is-8 : (number_of m ≡ 8) ↔ ((r < total_rows ds) × (places < total_rows ds - r))
      rows : r < total_rows ds → total_rows ds - r ≤ places → m ≡ gives (drop r (joined_rows signed ds))

    what-from : (ds : List Description) → From ds (rows_from signed places r ds)
    what-from ds = go (leb (total_rows ds) r) (ltb places (total_rows ds - r)) (leb-true _ r) (leb-false _ r) (ltb-true places _) (ltb-false places _)
      where
        go : (a b : Bool) → (a ≡ true → total_rows ds ≤ r) → (a ≡ false → r < total_rows ds)
            → (b ≡ true → places < total_rows ds - r) → (b ≡ false → total_rows ds - r ≤ places)
            → From ds (unless a 16 (unless b 8 (gives (drop r (joined_rows signed ds)))))
        go true b e e' f f' =
            let l = e refl in
            record { not-15 = omega arith; is-16 = omega arith; is-8 = omega arith; rows = λ x y. absurd (omega arith) }
        go false true e e' f f' =
            let l = e' refl in
            let k = f refl in
            record { not-15 = omega arith; is-16 = omega arith; is-8 = omega arith; rows = λ x y. absurd (omega arith) }
        go false false e e' f f' =
            let l = e' refl in
            let k = f' refl in
            record { not-15 = omega arith; is-16 = omega arith; is-8 = omega arith; rows = λ x y. refl }

    reading-from : (i : IsIndex bs es) → From i.runs (reading signed places es bs r)
    reading-from i = rw (reading-right es i signed places r) (what-from i.runs)

    reads-through : (i : IsIndex bs es) (e : Entry) → lookup es bs r ≡ gives e
        → (ds : List Description) × (stream (drop e.at bs) ≡ whole ds) × (drop r (joined_rows signed i.runs) ≡ drop (r - e.first) (joined_rows signed ds))
    reads-through i e g = go (rw g at (lookup-held es i r))
      where
        go : Held r 0 0 i.runs (gives e)
            → (ds : List Description) × (stream (drop e.at bs) ≡ whole ds)
            × (drop r (joined_rows signed i.runs) ≡ drop (r - e.first) (joined_rows signed ds))
        go (held before behind d s p q n k) =
            let b : bs ≡ joined before ++ joined (d ∷ behind) = i.bytes ∙ ap joined s ∙ joined-append before (d ∷ behind) in
            let c : r ≡ length (joined_rows signed before) + (r - e.first) = omega (arith, p, k.from, joined-count signed before) in (
              d ∷ behind,
              rw (b, drop_at (joined before) (joined (d ∷ behind)) e.at (sym (q ∙ zero-add (length (joined before)))))
                  (stream-is (d ∷ behind) (valid-behind before (d ∷ behind) (rw s at i.valid))),
              ap (λ (x : ℕ). drop x (joined_rows signed i.runs)) c
                  ∙ rw (s, rows_append signed before (d ∷ behind)) (drop-append-add (joined_rows signed before) (joined_rows signed (d ∷ behind)) (r - e.first)),
            )

    pub reading-holds : ReadingHolds bs signed places es r
    reading-holds = record {
      rows = λ i. (reading-from i).rows;
      is-15 = (λ g i. (reading-from i).not-15 g, λ n. ap number_of (reading-wrong n));
      is-16 = (
        λ g. right-or-wrong bs h es (λ i. (i, (reading-from i).is-16.0 g)) (λ n. absurd (omega (arith, ap number_of (reading-wrong n)))),
        λ (i, l). (reading-from i).is-16.1 l,
      );
      is-8 = (
        λ g. right-or-wrong bs h es (λ i. let p = (reading-from i).is-8.0 g in (i, p.0, p.1)) (λ n. absurd (omega (arith, ap number_of (reading-wrong n)))),
        λ (i, l, k). (reading-from i).is-8.1 (l, k),
      );
      through = reads-through;
    }

  pub index-holds : IndexHolds bs
  index-holds = record {
    the-stream = record { room-enough = room-enough bs h; exactly = exactly-whole bs h };
    the-building = record {
      exactly = built bs h;
      own = own bs h;
      is-8 = full bs h;
      exactly-8 = exactly-8 bs h;
      untouched = λ table r at e. rw e;
      right = building-right bs h;
      never-15 = λ table ds r e g. (lookup-holds (take (length ds) (table_of table (building (length table) bs))) r).is-15.0 g (building-right bs h table ds e);
      only = λ es es' i j. i.are ∙ ap entries (runs-are bs h es i j.runs j.valid j.bytes) ∙ sym j.are;
    };
    the-lookup = lookup-holds;
    the-reading = reading-holds;
  }

pub index-proved : IndexProved
index-proved bs h = index-holds bs h
