-- At a byte of the input stands nothing, a run with the stream after it, or a refusal; what is answered there says which. Assumes nothing.
use Rattle.std.specs.Prelude.{Some, None, Ok, Err}
use mathlib.Core.Path.{◌≡◌, refl, sym, ap, ◌∙◌}
use mathlib.Core.Logic.{◌≢◌}
use Prim.Native.Nat.{ℕ, ◌+◌, ◌-◌, ◌<◌, ◌≤◌}
use mathlib.Core.Bool.{Bool, true, false}
use mathlib.Core.List.{List, [], ◌++◌}
use lib.ListN.{length, drop}
use lib.Dec.{ltb}
use lib.IntN.{ℤ}
use borrow.Author.Tests.{ltb-true, ltb-false}
use Rattle.format.specs.declared.Run.{Run}
use Rattle.format.specs.declared.Refusal.{Refusal}
use Rattle.format.specs.Answers.{Answer}
use Rattle.format.specs.Answers as answers
use Rattle.format.specs.Digits.{AllBelow}
use Rattle.format.specs.Runs.{Description, row_count, layout}
use Rattle.format.specs.Rows.{i64_rows}
use Rattle.format.specs.Parse.{Reason, plain, cut, Parsed, end, got, refused, unless, parse, into}
use Rattle.format.specs.Streams.{Reading, whole, broken, after, stream}
use Rattle.format.specs.Promises.{answer_of, run_places, RunRead, RunMeasured}
use Rattle.format.proofs.Below.{below-drop}
use Rattle.format.proofs.Never.{reason_number, never-8}
use Rattle.format.proofs.Reading.{NoRun}
use Rattle.format.proofs.Rows.{row-bounds}
use Rattle.format.proofs.Runs.{layout-pos, Outcome, nothing, run, refusal, outcome}
use Rattle.format.proofs.Streams.{into-got}
use Rattle.format.proofs.Tests.{never}
use Rattle.format.proofs.StreamRoom.{stream-none, stream-refused}
use Rattle.format.proofs.RunAt.{taken_at}
use Rattle.batches.specs.BatchSteps.{Stands}

pub data There (s : List ℕ) (p : ℕ) : Parsed Description → Type 0 where
  no_bytes : drop p s ≡ [] → stream (drop p s) ≡ whole [] → There s p end
  a-run : {d : Description} {rest : List ℕ} → Stands s p d → There s p (got d rest)
  a-refusal : {r : Reason} → stream (drop p s) ≡ broken [] r (drop p s) → reason_number r ≢ 8 → There s p (refused r)

pub there : (s : List ℕ) (p : ℕ) → AllBelow 256 s → There s p (parse (drop p s))
there s p h = go (parse (drop p s)) refl (outcome (drop p s) (below-drop 256 p s h))
  where
    go : (m : Parsed Description) → parse (drop p s) ≡ m → Outcome (drop p s) m → There s p m
    go m e (nothing z) = no_bytes z (rw z stream-none)
    go m e (run {d} {rest} t) =
        let k = taken_at s p t in
        a-run {rest = rest} (record {
          parsed = e ∙ ap (got d) k.rest-is;
          onward = k.onward;
          within = k.within;
          some_bytes = layout-pos d;
          some = (row-bounds d t.ok).0;
          few = (row-bounds d t.ok).1;
        })
    go m e (refusal {r} z) = a-refusal (stream-refused (drop p s) r e) (never-8 (drop p s) r e)

-- ---- a reading that begins with a run

after-inj : (d c : Description) (m k : Reading) → after d m ≡ after c k → (d ≡ c) × (m ≡ k)
after-inj d c (whole ds) (whole cs) e = (cc, cc)
after-inj d c (whole ds) (broken cs r rest) e = never (cc)
after-inj d c (broken ds r rest) (whole cs) e = never (cc)
after-inj d c (broken ds r rest) (broken cs q t) e = (cc, cc)

after-some : (d : Description) (m : Reading) → after d m ≡ whole [] → ⊥
after-some d (whole ds) e = never (cc)
after-some d (broken ds r rest) e = never (cc)

after_more : (d : Description) (m : Reading) (r : Reason) (rest : List ℕ) → after d m ≡ broken [] r rest → ⊥
after_more d (whole ds) r rest e = never (cc)
after_more d (broken ds q t) r rest e = never (cc)

pub read-on : (s : List ℕ) (p : ℕ) → AllBelow 256 s → (d : Description) (m : Reading) → stream (drop p s) ≡ after d m
    → stream (drop (p + length (layout d)) s) ≡ m
read-on s p h d m e = go (there s p h) e
  where
    go : {x : Parsed Description} → There s p x → stream (drop p s) ≡ after d m → stream (drop (p + length (layout d)) s) ≡ m
    go (no_bytes z q) e = absurd (after-some d m (sym e ∙ q))
    go (a-run {d = c} t) e =
        let (a, b) = after-inj c d (stream (drop (p + length (layout c)) s)) m (sym t.onward ∙ e) in
        rw (sym a) b
    go (a-refusal {r} q n) e = absurd (after_more d m r (drop p s) (sym e ∙ q))

-- ---- what a run at a byte is answered with

module _ (s : List ℕ) (p : ℕ) where
  pub record Ran (r : Run) : Type 0 where
    pub run : Description
    pub stands : Stands s p run
    pub rows_are : r.rows.rows ≡ row_count run
    pub bytes-are : r.consumed.bytes ≡ length (layout run)

  pub record Broke (f : Refusal) : Type 0 where
    pub reason : Reason
    pub read : stream (drop p s) ≡ broken [] reason (drop p s)
    pub refusal_is : f ≡ answers.refusal p (length s - p) reason

  -- by the measure ..
  abbrev pub Step : Answer → Type 0
  Step (Ok None) = stream (drop p s) ≡ whole []
  Step (Ok (Some r)) = Ran r
  Step (Err f) = Broke f

  pub step : (a : Answer) → AllBelow 256 s → RunMeasured s p a → Step a
  step a h e = rw e (go (there s p h))
    where
      go : {m : Parsed Description} → There s p m → Step (answer_of p (length s - p) m)
      go (no_bytes z q) = q
      go (a-run {d} t) = record { run = d; stands = t; rows_are = refl; bytes-are = refl }
      go (a-refusal {r} q n) = record { reason = r; read = q; refusal_is = refl }

  module _ (n : ℕ) where
    pub record Fits (r : Run) : Type 0 where
      pub ran : Ran r
      pub fits : row_count ran.run ≤ n

    -- a run that stands there, with more rows than places
    pub record TooLong : Type 0 where
      pub run : Description
      pub stands : Stands s p run
      pub long : n < row_count run

    pub record Stops (f : Refusal) : Type 0 where
      pub cut : f.number ≡ 8 → TooLong
      pub broke : f.number ≢ 8 → (r : Reason) × (stream (drop p s) ≡ broken [] r (drop p s))

    -- .. and in n places
    abbrev pub Turn : Answer → Type 0
    Turn (Ok None) = stream (drop p s) ≡ whole []
    Turn (Ok (Some r)) = Fits r
    Turn (Err f) = Stops f

    own : (r : Reason) → stream (drop p s) ≡ broken [] r (drop p s) → reason_number r ≢ 8 → Stops (answers.refusal p (length s - p) r)
    own (plain k) q z = record { cut = λ e. absurd (z e); broke = λ e. (plain k, q) }
    own (cut k l) q z = record { cut = λ e. absurd (z e); broke = λ e. (cut k l, q) }

    pub turn : (a : Answer) → AllBelow 256 s → a ≡ answer_of p (length s - p) (into n (parse (drop p s))) → Turn a
    unfolding into
    turn a h e = rw e (go (there s p h))
      where
        room : (d : Description) (rest : List ℕ) → Stands s p d → (t : Bool) → ltb n (row_count d) ≡ t
            → Turn (answer_of p (length s - p) (unless t 8 (got d rest)))
        room d rest t true l = record {
          cut = λ e. record { run = d; stands = t; long = ltb-true n (row_count d) l };
          broke =
              λ e. absurd (e refl);
        }
        room d rest t false l = record {
          ran = record { run = d; stands = t; rows_are = refl; bytes-are = refl };
          fits =
              ltb-false n (row_count d) l;
        }

        go : {m : Parsed Description} → There s p m → Turn (answer_of p (length s - p) (into n m))
        go (no_bytes z q) = q
        go (a-run {d} {rest} t) = room d rest t (ltb n (row_count d)) refl
        go (a-refusal {r} q z) = own r q z

  -- the places, if a run was read, and if none was
  module _ (signed : Bool) (out out' : List ℤ) (a : Answer) (g : RunRead s p signed out out' a) where
    pub rows-read : (d : Description) → Stands s p d → row_count d ≤ length out → out' ≡ i64_rows signed d ++ drop (row_count d) out
    rows-read d t l = g.places
        ∙ ap (run_places signed out) (ap (into (length out)) t.parsed ∙ into-got (length out) d (drop (p + length (layout d)) s) l)

    pub unread : NoRun a → out' ≡ out
    unread u = go (into (length out) (parse (drop p s))) g.answer g.places
      where
        go : (m : Parsed Description) → a ≡ answer_of p (length s - p) m → out' ≡ run_places signed out m → out' ≡ out
        go end e f = f
        go (got d rest) e f = absurd (rw e at u)
        go (refused r) e f = f
