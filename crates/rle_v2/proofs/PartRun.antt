-- What a part of a direct run gives, by the tests of its reader: a run whose first byte names another kind is not direct, and the fields laid,
-- decoded, are the run's own rows from `skip` on. Assumes nothing.
use Rattle.std.specs.Prelude.{Some, Ok}
use mathlib.Core.Path.{◌≡◌, refl, sym, ap, ◌∙◌}
use mathlib.Core.Logic.{◌≢◌}
use Prim.Native.Nat.{ℕ, zero, suc, ◌+◌, ◌-◌, ◌/◌, ◌<◌, ◌≤◌, min}
use native.Mathlib.Omega.{arith}
use native.Mathlib.Decide.{dec_le}
use mathlib.Core.Bool.{Bool}
use mathlib.Core.List.{List, [], ◌∷◌, ◌++◌, map}
use lib.ListN.{length, take, drop, get_or, length-drop, length-map, drop_of_length-le}
use lib.Seq.{take-nil, take_all, length-take-le}
use lib.IntN.{ℤ}
use borrow.Author.Tests.{lt-ltb, le-ltb}
use Rattle.format.specs.Digits.{AllBelow}
use Rattle.format.specs.Fields.{two64, row}
use Rattle.format.specs.Runs.{Description, short, direct, fixed, delta, patched, layout}
use Rattle.format.specs.Rows.{as_i64, i64_rows, rows_of}
use Rattle.format.specs.Parse.{Parsed, end, got, refused, code_of, parse}
use Rattle.format.specs.Promises.{run_of, answer_of}
use Rattle.format.specs.Answers.{Answer}
use Rattle.format.specs.declared.Run.{Run}
use Rattle.format.proofs.Below.{below-take, below-drop}
use Rattle.format.proofs.Reading.{NoRun, block_at, byte-here, run-inj}
use Rattle.format.proofs.Rows.{width-le, i64-count}
use Rattle.format.proofs.Runs.{Outcome, nothing, run, refusal, outcome}
use Rattle.rle_v2.specs.Pass.{decoded}
use Rattle.rle_v2.specs.Part.{part_rows, part_answer, laid_first, PartGives, DirectPartRead, PartPut}
use Rattle.std.specs.Prelude.{Option, Some, None}
use Rattle.rle_v2.proofs.Blocks.{block-count, block-patterns}
use Rattle.rle_v2.proofs.DirectRun as direct-run
use Rattle.rle_v2.proofs.DirectRun.{Measured, found}
use Rattle.rle_v2.proofs.Pass.{then-pass, decoded-is}

module _ (skip : ℕ) (signed : Bool) (out : List ℤ) where
  -- ---- no rows

  none : (m : Parsed Description) → None ≡ part_answer skip m → part_rows signed skip m ≡ [] → PartGives skip signed m out out None
  none m a e = record { answer = a; places = rw (e, take-nil {A = ℤ} (length out)) }

  pub none-there : (m : Parsed Description) → m ≡ end → PartGives skip signed m out out None
  none-there m e = none m (rw e) (rw e)

  -- the measure names no run
  pub none_named : (at total : ℕ) (m : Parsed Description) (a : Answer) → NoRun a → a ≡ answer_of at total m → PartGives skip signed m out out None
  none_named at total end a u e = none end refl refl
  none_named at total (got d rest) a u e = absurd (rw e at u)
  none_named at total (refused r) a u e = none (refused r) refl refl

  -- the first byte names another kind
  pub none-direct : (s : List ℕ) (p : ℕ) → AllBelow 256 s → p < length s → get_or s p 0 / 64 ≢ 1
      → PartGives skip signed (parse (drop p s)) out out None
  unfolding layout
  none-direct s p h l k = go (parse (drop p s)) (outcome (drop p s) (below-drop 256 p s h))
    where
      first : (a : ℕ) (t : List ℕ) → drop p s ≡ a ∷ t → get_or s p 0 ≡ a
      first a t e = ap (λ (x : List ℕ). get_or x 0 0) (sym (byte-here s p l) ∙ e)

      go : (m : Parsed Description) → Outcome (drop p s) m → PartGives skip signed m out out None
      go m (nothing z) = none end refl refl
      go m (run {d = short count value} {rest} t) = none (got (short count value) rest) refl refl
      go m (run {d = direct code b} {rest} t) = absurd (k (ap (λ (x : ℕ). x / 64) (first _ _ t.split) ∙ omega (arith, t.ok.head)))
      go m (run {d = fixed rows one base} {rest} t) = none (got (fixed rows one base) rest) refl refl
      go m (run {d = delta code one base b} {rest} t) = none (got (delta code one base b) rest) refl refl
      go m (run {d = patched code base pc gw b c} {rest} t) = none (got (patched code base pc gw b c) rest) refl refl
      go m (refusal {r} z) = none (refused r) refl refl

-- ---- lists

take-map : {A B : Type 0} (f : A → B) (n : ℕ) (l : List A) → map f (take n l) ≡ take n (map f l)
take-map f zero l = refl
take-map f (suc n) [] = refl
take-map f (suc n) (x ∷ l) = ap (λ (t : List _). f x ∷ t) (take-map f n l)

drop-map : {A B : Type 0} (f : A → B) (n : ℕ) (l : List A) → map f (drop n l) ≡ drop n (map f l)
drop-map f zero l = refl
drop-map f (suc n) [] = refl
drop-map f (suc n) (x ∷ l) = drop-map f n l

-- the first rows, no more than there are places, are laid
first-laid : (rows out : List ℤ) (n : ℕ) → n ≡ min (length out) (length rows) → take n rows ++ drop n out ≡ laid_first rows out
first-laid rows out n e = by (dec_le (length out) (length rows))
  where
    by : Dec (length out ≤ length rows) → take n rows ++ drop n out ≡ laid_first rows out
    by (yes h) =
        let f : n ≡ length out = omega arith in
        rw (f, drop_of_length-le out {i = length out} (omega arith), drop_of_length-le out {i = length rows} h)
    by (no h) =
        let f : n ≡ length rows = omega arith in
        rw (f, take_all (length rows) rows (omega arith), take_all (length out) rows (omega arith))

-- ---- the run that its measure names

module _ (s : List ℕ) (at skip : ℕ) (signed : Bool) (out : List ℤ) (r : Run)
    (e : Ok (Some r) ≡ answer_of at (length s - at) (direct-run.run s at)) (m : Measured s at r) where
  abbrev values : List ℕ
  values = (block_at s (at + 2) r.width r.rows.rows).values

  abbrev d : Description
  d = direct (code_of (get_or s at 0)) (block_at s (at + 2) r.width r.rows.rows)

  abbrev rest : List ℕ
  rest = (found s at r m).0

  there : direct-run.run s at ≡ got d rest
  there = (found s at r m).1

  count : length values ≡ r.rows.rows
  count = block-count s (at + 2) r.width r.rows.rows

  pub part_none : r.rows.rows ≤ skip → PartGives skip signed (direct-run.run s at) out out None
  part_none h =
      rw there (none skip signed out (got d rest) (rw (le-ltb skip (length values) (omega (arith, count))))
      (drop_of_length-le (i64_rows signed d) {i = skip} (omega (arith, i64-count signed d, count))))

  decoded-rows : (n : ℕ) → decoded signed (map as_i64 (take n (drop skip values))) ≡ take n (drop skip (i64_rows signed d))
  unfolding i64_rows rows_of
  decoded-rows n =
      let b = block-patterns s (at + 2) r.width r.rows.rows (rw m.width_is (width-le _)) in
      decoded-is signed (take n (drop skip values)) (below-take two64 n (drop skip values) (below-drop two64 skip values b))
      ∙ rw (take-map (row signed) n, take-map as_i64 n, drop-map (row signed) skip, drop-map as_i64 skip)

  pub part-read : (n : ℕ) (one two : List ℤ) → skip < r.rows.rows → n ≡ min (length out) (r.rows.rows - skip)
      → PartPut r.width r.rows.rows skip n (drop (at + 2) s) out one → two ≡ decoded signed (take n one)
      → PartGives skip signed (direct-run.run s at) out (two ++ drop n one) (Some r)
  part-read n one two h q f g =
      let rows = drop skip (i64_rows signed d) in
      let lv : length (map as_i64 (take n (drop skip values))) ≡ n
      = length-map (take n (drop skip values)) as_i64 ∙ length-take-le n (drop skip values) (rw length-drop (omega (arith, count, q))) in
      let lr : length rows ≡ r.rows.rows - skip = rw (length-drop, i64-count signed d, count) in
      let o : two ++ drop n one ≡ take n rows ++ drop n out
      = then-pass (decoded signed) (map as_i64 (take n (drop skip values))) out one two n lv f g ∙ ap (λ (x : List ℤ). x ++ drop n out) (decoded-rows n) in
      let named : r ≡ run_of d = run-inj r (run_of d) (e ∙ ap (answer_of at (length s - at)) there) in
      record {
        answer = ap Some named ∙ sym (rw (there, lt-ltb skip (length values) (omega (arith, count))));
        places = rw there (o ∙ first-laid rows out n (q ∙ ap (min (length out)) (sym lr)));
      }

-- ---- any two outcomes that the promise allows are equal
pub part-determined : (input : List ℕ) (at skip : ℕ) (signed : Bool) (out out' out'' : List ℤ) (r r' : Option Run)
    → DirectPartRead input at skip signed out out' r → DirectPartRead input at skip signed out out'' r' → (r ≡ r') × (out' ≡ out'')
part-determined input at skip signed out out' out'' r r' g h = (g.answer ∙ sym h.answer, g.places ∙ sym h.places)
