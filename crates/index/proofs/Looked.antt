-- What the code knows after looking up: reading answers the same refusal, or the run that holds the row stands so in the stream. Assumes nothing.
use mathlib.Core.Path.{◌≡◌, refl, sym, ap, ◌∙◌}
use Prim.Native.Nat.{ℕ, ◌+◌, ◌<◌, ◌≤◌}
use native.Mathlib.Omega.{arith}
use native.Mathlib.Nat.{zero-add}
use mathlib.Core.Bool.{Bool, true, false}
use mathlib.Core.List.{List, ◌∷◌, ◌++◌}
use lib.ListN.{length}
use lib.Dec.{eqb, eqb→eq}
use lib.IntN.{ℤ}
use borrow.Author.Tests.{le-leb}
use Rattle.format.specs.Digits.{AllBelow}
use Rattle.format.specs.Runs.{Description, row_count, AllValid, joined}
use Rattle.format.specs.Parse.{Reason, plain}
use Rattle.format.specs.Streams.{total_rows}
use Rattle.index.specs.Entries.{Result, gives, refuses, Entry, entries, holder, lookup, checked, preview_places}
use Rattle.index.specs.Columns.{Columns, columns, alike, checked_in, lookup_in, reading_in}
use Rattle.index.specs.Theorems.{as_columns}
use Rattle.std.specs.Prelude.{Ok, Err}
use Rattle.format.specs.declared.Refusal.{Refusal}
use Rattle.index.specs.declared.Entry as row
use Rattle.index.specs.Promises.{Found, found_of, LookedUp, preview_of, ReadFrom}
use Rattle.index.proofs.Held.{Held, held, unheld, what-held}
use Rattle.index.proofs.Checked.{Checked, right, wrong, what-checked}
use Rattle.index.proofs.Columns.{columns-hold, checked-same, columns-are}
use Rattle.format.proofs.Tests.{and-e}

module _ (bs f o n : List ℕ) (r : ℕ) where
  abbrev c : Columns
  c = record { firsts = f; offsets = o; counts = n }

  -- ---- the run that holds the row, in a right index
  pub record Through (first at : ℕ) : Type 0 where
    pub before : List Description
    pub behind : List Description
    pub run : Description
    pub valid : AllValid (before ++ (run ∷ behind))
    pub bytes : bs ≡ joined (before ++ (run ∷ behind))
    pub checked-is : checked_in c bs ≡ gives (before ++ (run ∷ behind))
    pub columns_of : c ≡ columns (before ++ (run ∷ behind))
    pub first-is : first ≡ total_rows before
    pub at-is : at ≡ length (joined before)
    pub from : first ≤ r
    pub below : r < first + row_count run

  -- looking up gives no entry, and reading gives the same; or one, and the stream stands so
  data Looked : Result Entry → Type 0 where
    looked-no : (x : Reason) (p : ℕ) → ((signed : Bool) (places : ℕ) → reading_in signed places c bs r ≡ refuses x p) → Looked (refuses x p)
    looked-yes : (e : Entry) → Through e.first e.at → Looked (gives e)

  looked-refused : (x : Reason) (p : ℕ) → checked_in c bs ≡ refuses x p → Looked (lookup_in c bs r)
  unfolding lookup_in reading_in
  looked-refused x p e = rw e (looked-no x p (λ signed places. rw e))

  looked-right : (ds : List Description) → AllValid ds → bs ≡ joined ds → checked_in c bs ≡ gives ds → c ≡ columns ds → lookup_in c bs r ≡ holder r (entries ds)
      → Looked (lookup_in c bs r)
  unfolding reading_in
  looked-right ds v b k q l = rw l (go (what-held r 0 0 ds (omega arith)))
    where
      go : {m : Result Entry} → Held r 0 0 ds m → Looked m
      go (unheld w) = looked-no (plain 16) 0 (λ signed places. rw (k, le-leb (total_rows ds) r (omega (arith, w))))
      go (held before behind d {e} s p t u w) = looked-yes e (record {
        before = before;
        behind = behind;
        run = d;
        valid = rw s at v;
        bytes = b ∙ ap joined s;
        checked-is = k ∙ ap gives s;
        columns_of = q ∙ ap columns s;
        first-is = p ∙ zero-add (total_rows before);
        at-is = t ∙ zero-add (length (joined before));
        from = w.from;
        below = omega (arith, w.below, u);
      })

  of-table : AllBelow 256 bs → (es : List Entry) → c ≡ as_columns es → Looked (lookup_in c bs r)
  unfolding lookup
  of-table h es q = go (checked es bs) refl (what-checked bs h es)
    where
      c-is : checked_in c bs ≡ checked es bs
      c-is = ap (λ (x : Columns). checked_in x bs) q ∙ checked-same es bs

      look : lookup_in c bs r ≡ lookup es bs r
      look = ap (λ (x : Columns). lookup_in x bs r) q ∙ columns-hold.same-lookup es bs r

      go : (m : Result (List Description)) → checked es bs ≡ m → Checked bs es m → Looked (lookup_in c bs r)
      go m e (wrong w) = looked-refused (plain 15) 0 (c-is ∙ e)
      go m e (right i) =
          looked-right i.runs i.valid i.bytes (c-is ∙ e) (q ∙ ap as_columns i.are ∙ columns-are i.runs) (look ∙ rw e (ap (holder r) i.are))

  looked : AllBelow 256 bs → Looked (lookup_in c bs r)
  unfolding checked_in
  looked h = go (alike (length f) (length o) (length n)) refl
    where
      go : (t : Bool) → alike (length f) (length o) (length n) ≡ t → Looked (lookup_in c bs r)
      go false e = looked-refused (plain 15) 0 (rw e)
      go true e =
          let p = and-e (eqb (length f) (length o)) (eqb (length f) (length n)) (rw e tt) in
          let (es, q) = columns-hold.a-table c (record { offsets = eqb→eq _ _ p.0; counts = eqb→eq _ _ p.1 }) in
          of-table h es q

  -- ---- what the code knows after looking up
  abbrev pub After : Found → Type 0
  After (Ok e) = Through e.first.rows e.at.bytes
  After (Err v) = (signed : Bool) (out : List ℤ) → ReadFrom bs c r signed out out (Err v)

  pub what-looked : (v : Found) → AllBelow 256 bs → LookedUp bs c r v → After v
  what-looked v h e = rw e (go (looked h))
    where
      go : {m : Result Entry} → Looked m → After (found_of m)
      go (looked-no x p g) = λ signed out. record {
        answer = sym (ap preview_of (g signed (length out)));
        places = sym (ap (preview_places out) (g signed (length out)));
      }
      go (looked-yes e t) = t

-- an entry that was found is that of the run that holds the row
pub entry-found : {bs f o n : List ℕ} {r : ℕ} {v : Found} {e : row.Entry} → AllBelow 256 bs → LookedUp bs (record { firsts = f; offsets = o; counts = n }) r v → v ≡ Ok e
    → Through bs f o n r e.first.rows e.at.bytes
entry-found {bs} {f} {o} {n} {r} {v} h l q = rw q at (what-looked bs f o n r v h l)

-- and a refusal is that of reading, with every place as it was
pub not-found : {bs f o n : List ℕ} {r : ℕ} {v : Found} {u : Refusal} → AllBelow 256 bs → LookedUp bs (record { firsts = f; offsets = o; counts = n }) r v → v ≡ Err u
    → (signed : Bool) (out : List ℤ) → ReadFrom bs (record { firsts = f; offsets = o; counts = n }) r signed out out (Err u)
not-found {bs} {f} {o} {n} {r} {v} h l q = rw q at (what-looked bs f o n r v h l)
