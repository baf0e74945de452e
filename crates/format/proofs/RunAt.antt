-- One run at a byte: whoever reads or measures there finds the end, a run or a refusal, and a run's bytes say where the next one begins. The walks over a
-- stream (`rle_v2`, `index`, `batches`, `convert`) go on from here. Assumes nothing.
use Rattle.std.specs.Prelude.{Some, None, Ok, Err}
use Rattle.format.proofs.Common.{◌≡◌, refl, sym, ap, ◌∙◌, ℕ, ◌+◌, ◌-◌, ◌≤◌, arith, Bool, true, false, List, [], ◌++◌, length, drop}
use Rattle.format.proofs.Common.{length-append, length-drop, drop-drop, drop_at, ltb, ltb-false}
use Rattle.format.specs.Digits.{AllBelow}
use Rattle.format.specs.Runs.{Description, row_count, Valid, layout}
use Rattle.format.specs.Parse.{Reason, Parsed, end, got, refused, unless, parse, into}
use Rattle.format.specs.Streams.{after, stream}
use Rattle.format.specs.Answers as answers
use Rattle.format.specs.Promises.{run_of, answer_of}
use Rattle.format.specs.declared.Refusal.{Refusal}
use Rattle.format.specs.declared.Run.{Run}
use Rattle.format.specs.Answers.{Answer}
use Rattle.format.proofs.Posts.{Took}
use Rattle.format.proofs.Rows.{row-bounds}
use Rattle.format.proofs.Runs.{layout-pos, got-inj, Outcome, nothing, run, refusal}
use Rattle.format.proofs.Streams.{Into, into-nothing, into-run, into-refusal, into-outcome}
use Rattle.format.proofs.StreamRoom.{stream-cons}
use Rattle.format.proofs.Tests.{never}

-- a run that is taken at byte p of s ends within s, what follows it is what stands after its bytes, and the stream goes on there
pub record TakenAt (s : List ℕ) (p : ℕ) (d : Description) (rest : List ℕ) : Type 0 where
  pub rest-is : rest ≡ drop (p + length (layout d)) s
  pub within : p + length (layout d) ≤ length s
  pub onward : stream (drop p s) ≡ after d (stream (drop (p + length (layout d)) s))

pub taken_at : (s : List ℕ) (p : ℕ) {d : Description} {rest : List ℕ} → Took (drop p s) layout Valid d rest → TakenAt s p d rest
taken_at s p {d} {rest} t =
    let l : length s - p ≡ length (layout d) + length rest = rw (← (length-drop p s), t.split) (length-append (layout d) rest) in
    let q : rest ≡ drop (p + length (layout d)) s =
    sym (sym (drop-drop (length (layout d)) p s) ∙ rw t.split (drop_at (layout d) rest (length (layout d)) refl)) in
    record {
      rest-is = q;
      within = omega (arith, layout-pos d);
      onward = ap stream t.split ∙ stream-cons d rest t.ok t.rest-bytes ∙ ap (λ (x : List ℕ). after d (stream x)) q;
    }

-- ---- what an answer at byte p says, if m is what reading from there gives

module _ (s : List ℕ) (p : ℕ) (m : Parsed Description) where
  pub record RunAt (r : Run) : Type 0 where
    pub run : Description
    pub run_is : r ≡ run_of run
    pub rows_are : r.rows.rows ≡ row_count run
    pub bytes-are : r.consumed.bytes ≡ length (layout run)
    pub valid : Valid run
    pub read : m ≡ got run (drop (p + r.consumed.bytes) s)
    pub split : drop p s ≡ layout run ++ drop (p + r.consumed.bytes) s
    pub onward : stream (drop p s) ≡ after run (stream (drop (p + r.consumed.bytes) s))
    pub within : p + r.consumed.bytes ≤ length s
    pub some_bytes : 1 ≤ r.consumed.bytes
    pub few : r.rows.rows ≤ 512

  pub record NoRunAt (f : Refusal) : Type 0 where
    pub reason : Reason
    pub read : m ≡ refused reason
    pub refusal_is : f ≡ answers.refusal p (length s - p) reason

  abbrev pub StandsAt : Answer → Type 0
  StandsAt (Ok None) = drop p s ≡ []
  StandsAt (Ok (Some r)) = RunAt r
  StandsAt (Err f) = NoRunAt f

  pub stands_at : (a : Answer) → Outcome (drop p s) m → a ≡ answer_of p (length s - p) m → StandsAt a
  stands_at a o g = rw g (by m refl o)
    where
      by : (x : Parsed Description) → m ≡ x → Outcome (drop p s) x → StandsAt (answer_of p (length s - p) x)
      by x e (nothing z) = z
      by x e (run {d} {rest} t) =
          let k = taken_at s p t in
          record {
            run = d;
            run_is = refl;
            rows_are = refl;
            bytes-are = refl;
            valid = t.ok;
            read = e ∙ ap (got d) k.rest-is;
            split = t.split ∙ ap (λ (x : List ℕ). layout d ++ x) k.rest-is;
            onward = k.onward;
            within = k.within;
            some_bytes = layout-pos d;
            few = (row-bounds d t.ok).1;
          }
      by x e (refusal {r} z) = record { reason = r; read = e; refusal_is = refl }

-- ---- in n places: what is left of the outcome, and a run that was read had room

pub in-places : (n : ℕ) (bs : List ℕ) → AllBelow 256 bs → Outcome bs (into n (parse bs))
in-places n bs h = go (into-outcome n bs h)
  where
    go : {m : Parsed Description} → Into n bs m → Outcome bs m
    go (into-nothing z) = nothing z
    go (into-run t l) = run t
    go (into-refusal z) = refusal z

pub into-fits : (n : ℕ) (m : Parsed Description) {d : Description} {rest : List ℕ} → into n m ≡ got d rest → row_count d ≤ n
unfolding into
into-fits n (got c s) {d} {rest} e = go (ltb n (row_count c)) refl e
  where
    go : (t : Bool) → ltb n (row_count c) ≡ t → unless t 8 (got c s) ≡ got d rest → row_count d ≤ n
    go true l e = never (cc)
    go false l e = rw (← (got-inj e).0) (ltb-false n (row_count c) l)
into-fits n end e = never (cc)
into-fits n (refused r) e = never (cc)
