-- What the small readers give at a place p of a lent slice s: by the tests that a reader makes on lengths. Assumes nothing.
use Rattle.std.specs.Prelude.{Some, None, Ok, Err}
use Rattle.format.proofs.Common.{◌≡◌, refl, sym, ap, ℕ, suc, ◌+◌, ◌-◌, ◌*◌, ◌<◌, ◌≤◌, arith, add-one, Bool, List, [], ◌∷◌, ◌++◌}
use Rattle.format.proofs.Common.{length, get_or, take, drop, length-drop, drop_of_length-le, drop-cons, drop-drop, ℤ, le-leb, lt-leb}
use Rattle.format.proofs.Common.{lt-ltb}
use Rattle.format.specs.Digits.{number}
use Rattle.format.specs.Fields.{Block, bytes_for}
use Rattle.format.specs.Runs.{Description, row_count, layout}
use Rattle.format.specs.Rows.{i64_rows}
use Rattle.format.specs.Parse.{plain, cut_in, Parsed, end, got, refused, bytes, unpack, block, into}
use Rattle.format.specs.Answers.{Answer, ran, refusal, refused_at, cut_at, cutting}
use Rattle.format.specs.Promises.{kind_of, width_of, run_of, answer_of, Gives}
use Rattle.format.specs.declared.Kind.{Kind}
use Rattle.format.specs.declared.Run.{Run}
use Rattle.format.specs.declared.Refusal.{Refusal}
use Rattle.format.proofs.Streams.{into-got, into-refused, into-end}
use Rattle.format.proofs.Tests.{never}

module _ (s : List ℕ) (p : ℕ) where
  pub byte-here : p < length s → drop p s ≡ get_or s p 0 ∷ drop (p + 1) s
  byte-here h = rw (add-one, drop-cons s p 0 h)

  -- what follows it: one byte more, or none
  pub byte-after : 2 ≤ length s - p → drop (p + 1) s ≡ get_or s (p + 1) 0 ∷ drop (p + 2) s
  byte-after h =
      let e : p + 2 ≡ suc (p + 1) = omega arith in
      rw (e, drop-cons s (p + 1) 0 (omega arith))

  pub none_after : p < length s → length s - p < 2 → drop (p + 1) s ≡ []
  none_after h l = drop_of_length-le s {i = p + 1} (omega arith)

  pub bytes-here : (c n : ℕ) → n ≤ length s - p → bytes c n (drop p s) ≡ got (take n (drop p s)) (drop (p + n) s)
  unfolding bytes
  bytes-here c n h = rw (le-leb n (length (drop p s)) (rw length-drop h), drop-drop n p s)

  pub bytes_cut : (c n : ℕ) → length s - p < n → bytes c n (drop p s) ≡ refused (cut_in c (drop p s))
  unfolding bytes
  bytes_cut c n h = rw (lt-leb n (length (drop p s)) (rw length-drop h))

  -- the block that stands at p
  abbrev pub block_at : ℕ → ℕ → Block
  block_at w n = unpack w n (number 256 (take (bytes_for (n * w)) (drop p s)))

  pub block_here : (c w n : ℕ) → bytes_for (n * w) ≤ length s - p → block c w n (drop p s) ≡ got (block_at w n) (drop (p + bytes_for (n * w)) s)
  unfolding block
  block_here c w n h = rw (bytes-here c (bytes_for (n * w)) h)

  pub block-cut : (c w n : ℕ) → length s - p < bytes_for (n * w) → block c w n (drop p s) ≡ refused (cut_in c (drop p s))
  unfolding block
  block-cut c w n h = rw (bytes_cut c (bytes_for (n * w)) h)

-- the field that begins at p, in a call at `at`, is named by p
pub field-at : (s : List ℕ) (at p n : ℕ) → at ≤ p → p ≤ length s → refusal at (length s - at) (cut_in n (drop p s)) ≡ cutting n at p
field-at s at p n h l =
    let e : at + (length s - at - (length s - p)) ≡ p = omega arith in
    rw (length-drop, e)

-- ---- what a measure answers, by what reading gives

module _ (at total : ℕ) (m : Parsed Description) where
  pub answer-refused : (n : ℕ) → m ≡ refused (plain n) → refused_at n at ≡ answer_of at total m
  answer-refused n e = rw e

  pub answer-run : (d : Description) (rest : List ℕ) → m ≡ got d rest → (k : Kind) (w n b : ℕ) → k ≡ kind_of d → w ≡ width_of d → n ≡ row_count d
      → b ≡ length (layout d) → ran k w n b ≡ answer_of at total m
  answer-run d rest e k w n b ek ew en eb = rw (e, ek, ew, en, eb)

-- the input ends in the field that begins at p
pub answer-cut : (s : List ℕ) (at p n : ℕ) (m : Parsed Description) → at ≤ p → p ≤ length s → m ≡ refused (cut_in n (drop p s))
    → cut_at n at p ≡ answer_of at (length s - at) m
answer-cut s at p n m h l e = rw e (ap Err (sym (field-at s at p n h l)))

-- an answer that names a run names one run, and refuses nothing
pub run-inj : (r r' : Run) → ◌≡◌ {A = Answer} (Ok (Some r)) (Ok (Some r')) → r ≡ r'
run-inj r r' e = cc

pub run-not-refused : (r : Run) (f : Refusal) → Ok (Some r) ≡ Err f → ⊥
run-not-refused r f e = never (cc)

-- ---- what a call gives, by its measure: nothing but the answer, where no run is named ..

abbrev pub NoRun : Answer → Type 0
NoRun (Ok None) = Unit {0}
NoRun (Ok (Some r)) = ⊥
NoRun (Err f) = Unit {0}

module _ (at total : ℕ) (signed : Bool) (m : Parsed Description) (out : List ℤ) where
  pub gives_none : (a : Answer) → NoRun a → a ≡ answer_of at total m → Gives at total signed m out out a
  gives_none a u e = go m refl e
    where
      go : (x : Parsed Description) → m ≡ x → a ≡ answer_of at total x → Gives at total signed m out out a
      go end q e = record { answer = rw (q, into-end (length out)) e; places = rw (q, into-end (length out)) }
      go (got d rest) q e = absurd (rw e at u)
      go (refused r) q e = record { answer = rw (q, into-refused (length out) r) e; places = rw (q, into-refused (length out) r) }

  -- .. and a run where there is room for its rows
  module _ (d : Description) (rest : List ℕ) (e : m ≡ got d rest) where
    pub gives-8 : length out < row_count d → Gives at total signed m out out (refused_at 8 at)
    unfolding into
    gives-8 h = record { answer = rw (e, lt-ltb _ _ h); places = rw (e, lt-ltb _ _ h) }

    pub gives-run : (out' : List ℤ) (a : Answer) → a ≡ answer_of at total m → row_count d ≤ length out → out' ≡ i64_rows signed d ++ drop (row_count d) out
        → Gives at total signed m out out' a
    gives-run out' a ea h eo = record { answer = rw (e, into-got (length out) d rest h) (rw e at ea); places = rw (e, into-got (length out) d rest h) eo }

-- ---- a measured run in so many places

module _ (at total places : ℕ) (m : Parsed Description) where
  module _ (r : Run) (e : Ok (Some r) ≡ answer_of at total m) where
    pub placed-8 : places < r.rows.rows → refused_at 8 at ≡ answer_of at total (into places m)
    unfolding into
    placed-8 h = go m e
      where
        go : (x : Parsed Description) → Ok (Some r) ≡ answer_of at total x → refused_at 8 at ≡ answer_of at total (into places x)
        go end q = never (cc)
        go (got d rest) q = rw (lt-ltb places (row_count d) (rw (run-inj r (run_of d) q) at h))
        go (refused f) q = absurd (run-not-refused r _ q)

    pub placed-run : r.rows.rows ≤ places → Ok (Some r) ≡ answer_of at total (into places m)
    placed-run h = go m e
      where
        go : (x : Parsed Description) → Ok (Some r) ≡ answer_of at total x → Ok (Some r) ≡ answer_of at total (into places x)
        go end q = rw (into-end places) q
        go (got d rest) q = rw (into-got places d rest (rw (run-inj r (run_of d) q) at h)) q
        go (refused f) q = rw (into-refused places f) q

  pub placed-none : (a : Answer) → NoRun a → a ≡ answer_of at total m → a ≡ answer_of at total (into places m)
  placed-none a u e = go m e
    where
      go : (x : Parsed Description) → a ≡ answer_of at total x → a ≡ answer_of at total (into places x)
      go end q = rw (into-end places) q
      go (got d rest) q = absurd (rw q at u)
      go (refused f) q = rw (into-refused places f) q
