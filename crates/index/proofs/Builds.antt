-- What building answers, by what the walk over the stream found. Assumes nothing.
use mathlib.Core.Path.{◌≡◌, refl, sym, ap, ◌∙◌}
use mathlib.Core.Logic.{◌⊎◌}
use Prim.Native.Nat.{ℕ, ◌+◌, ◌-◌, ◌*◌, ◌<◌, ◌≤◌}
use native.Mathlib.Omega.{arith}
use native.Mathlib.Nat.{zero-add}
use mathlib.Core.Bool.{true, ◌||◌, or-true}
use mathlib.Core.List.{List}
use lib.ListN.{length, length-append}
use lib.Dec.{leb, ltb}
use borrow.Author.Tests.{le-leb, lt-leb, le-ltb, lt-ltb}
use Rattle.format.specs.Digits.{AllBelow}
use Rattle.format.specs.Fields.{two64}
use Rattle.format.specs.Runs.{Description, joined}
use Rattle.format.specs.Parse.{Reason, plain}
use Rattle.format.specs.Streams.{Reading, whole, broken, stream, total_rows}
use Rattle.format.specs.Answers as answers
use Rattle.format.specs.declared.Refusal.{Refusal}
use Rattle.format.proofs.Streams.{Reads, reads_whole, reads-broken}
use Rattle.format.proofs.StreamRoom.{stream-reads}
use Rattle.index.specs.Entries.{Result, gives, refuses, building}
use Rattle.index.specs.Columns.{columns_at, building_in}
use Rattle.index.specs.Promises.{built_of, built_with, not_built, BuiltIn}
use Rattle.std.specs.Prelude as std
use Rattle.std.specs.Prelude.{Option, Some, None, Ok, Err}
use Rattle.format.specs.declared.RowNumber.{RowNumber}
use Rattle.index.specs.declared.walk as walk
use Rattle.index.specs.Walk.{total_of, survey_from, Roomy, Filled}
use Rattle.index.proofs.Columns.{columns-hold, not-alike}
use Rattle.index.proofs.Totals as Totals

-- ---- what the walk found

module _ (bs : List ℕ) where
  pub record Whole (k : ℕ) (t : Option RowNumber) : Type 0 where
    pub runs : List Description
    pub whole_is : stream bs ≡ whole runs
    pub bytes : bs ≡ joined runs
    pub count : k ≡ length runs
    pub total-is : t ≡ total_of (total_rows runs)

  pub record Broken (f : Refusal) : Type 0 where
    pub runs : List Description
    pub reason : Reason
    pub rest : List ℕ
    pub broken-is : stream bs ≡ broken runs reason rest
    pub refusal_is : f ≡ answers.refusal (length (joined runs)) (length bs - length (joined runs)) reason

  abbrev pub Found : std.Result walk.Whole.Whole Refusal → Type 0
  Found (Ok w) = Whole w.runs w.rows
  Found (Err f) = Broken f

  pub what-found : (v : std.Result walk.Whole.Whole Refusal) → AllBelow 256 bs → v ≡ survey_from 0 0 0 (stream bs) → Found v
  what-found v h e = rw e (go (stream bs) refl (stream-reads bs h))
    where
      go : (m : Reading) → stream bs ≡ m → Reads (512 * length bs) bs m → Found (survey_from 0 0 0 m)
      go m e (reads_whole {ds} v b l) = record {
        runs = ds;
        whole_is = e;
        bytes = b;
        count = zero-add (length ds);
        total-is = ap total_of (zero-add (total_rows ds));
      }
      go m e (reads-broken {ds} {r} {rest} v b l f) = record {
        runs = ds;
        reason = r;
        rest = rest;
        broken-is = e;
        refusal_is = by (0 + length (joined ds)) (length rest) (zero-add (length (joined ds))) (omega (arith, ap length b, length-append (joined ds) rest)) r;
      }
        where
          by : (p q : ℕ) → p ≡ length (joined ds) → q ≡ length bs - length (joined ds) → (r : Reason)
              → answers.refusal p q r ≡ answers.refusal (length (joined ds)) (length bs - length (joined ds)) r
          by p q e f r = rw (e, f)

-- ---- the answers

module _ (bs f o n : List ℕ) where
  abbrev what : Result (List Description)
  what = building_in (length f) (length o) (length n) bs

  refused-so : (r : Reason) (p : ℕ) → what ≡ refuses r p → BuiltIn bs f o n f o n (Err (answers.refusal p (length bs - p) r))
  refused-so r p e = record { answer = rw e; columns = rw e }

  pub unequal : (length o ≡ length f → ⊥) ⊎ ((length o ≡ length f) × (length n ≡ length f → ⊥)) → BuiltIn bs f o n f o n (not_built 15)
  unequal h = refused-so (plain 15) 0 (columns-hold.unequal-building (length f) (length o) (length n) bs (not-alike h))

  module _ (a : length o ≡ length f) (b : length n ≡ length f) where
    as-table : what ≡ building (length f) bs
    as-table = go (length o) (length n) a b
      where
        go : (x y : ℕ) → x ≡ length f → y ≡ length f → building_in (length f) x y bs ≡ building (length f) bs
        go x y p q = rw (p, q) (columns-hold.same-building (length f) bs)

    pub own-so : (v : Refusal) → Broken bs v → BuiltIn bs f o n f o n (Err v)
    unfolding building
    own-so v w = rw w.refusal_is (refused-so w.reason (length (joined w.runs)) (as-table ∙ rw w.broken-is))

    module _ (k : ℕ) (t : Option RowNumber) (w : Whole bs k t) where
      eight : ltb (length f) (length w.runs) || leb two64 (total_rows w.runs) ≡ true → what ≡ refuses (plain 8) 0
      unfolding building
      eight e = as-table ∙ rw (w.whole_is, e)

      pub past-so : t ≡ None → BuiltIn bs f o n f o n (not_built 8)
      past-so e =
          refused-so (plain 8) 0
          (eight (rw (le-leb two64 (total_rows w.runs) (Totals.past_is (total_rows w.runs) (sym e ∙ w.total-is)))
          (or-true (ltb (length f) (length w.runs)))))

      pub few-so : length f < k → BuiltIn bs f o n f o n (not_built 8)
      few-so h = refused-so (plain 8) 0 (eight (rw (lt-ltb (length f) (length w.runs) (omega (arith, w.count)))))

      module _ (rows : ℕ) (e : t ≡ Some (record { rows = rows })) (l : k ≤ length f) where
        small : (rows ≡ total_rows w.runs) × (total_rows w.runs < two64)
        small = Totals.rows_are (total_rows w.runs) rows (sym e ∙ w.total-is)

        pub roomy-so : Roomy bs (length f) (length o) (length n)
        roomy-so = record { runs = w.runs; whole_is = w.whole_is; room = omega (arith, w.count); small = small.1; same-offsets = a; same-counts = b }

        what-is : what ≡ gives w.runs
        unfolding building
        what-is = as-table ∙ rw (w.whole_is, le-ltb (length f) (length w.runs) (omega (arith, w.count)), lt-leb two64 (total_rows w.runs) small.1)

        pub built-so : (f' o' n' : List ℕ) → Filled bs f o n f' o' n' → BuiltIn bs f o n f' o' n' (built_with k rows (length bs))
        built-so f' o' n' q = record {
          answer = numbers k rows (length bs) w.count small.0 (ap length w.bytes) ∙ sym (ap (built_of (length bs)) what-is);
          columns = q.filled w.runs w.whole_is ∙ sym (ap (columns_at (record { firsts = f; offsets = o; counts = n })) what-is);
        }
          where
            numbers : (x y z : ℕ) → x ≡ length w.runs → y ≡ total_rows w.runs → z ≡ length (joined w.runs)
                → built_with x y z ≡ built_of (length bs) (gives w.runs)
            numbers x y z p q r = rw (p, q, r)
