-- The promise's table, and reading back. Assumes nothing.
use Rattle.format.proofs.Common.{◌≡◌, refl, sym, ap, ◌∙◌, ◌↔◌, ◌⊎◌, inl, inr, ℕ, ◌<◌, ◌≤◌, arith, dec_lt, ℕ_discrete, Bool, true, false, not}
use Rattle.format.proofs.Common.{◌&&◌, List, [], ◌++◌, map, length, drop, length-map, T, ltb, ltb→lt, lt→ltb, nltb→le, T_not, not_T, ℤ, w64}
use Rattle.format.proofs.Common.{SFits}
use lib.Arith.{le→nltb}
use Rattle.format.specs.Runs.{Description, row_count, layout}
use Rattle.format.specs.Rows.{as_u64, i64_rows}
use Rattle.format.specs.Parse.{Parsed, got, unless, parse, into}
use Rattle.format.specs.Answers.{Answer, answer_number, answer_place}
use Rattle.format.specs.Promises.{answer_of, RunRead}
use Rattle.format.specs.Writing.{between, AllI64, bytes_in}
use Rattle.format.proofs.Patterns.{as-lt}
use Rattle.format.proofs.Rows.{rows-count}
use Rattle.format.proofs.Streams.{into-got}
use Rattle.format.proofs.RunComplete.{parse-complete}
use Rattle.format.proofs.Tests.{between_le, le-between, and_i, T_true, and_left, and_right}
use Rattle.format.proofs.Writing.{patterns-lt, patterns-back}
use Rattle.format.specs.Kept.{is_kept_width}
use Rattle.format.specs.PatchedWriting.{Parts, run, parts, header_holds, writing_patched, PatchedWritten}
use Rattle.promises.specs.Patched.{Describes, PatchedMeaning, Some, PatchedTable, PatchedTableHolds, PatchedReadsBack}
use Rattle.promises.proofs.Patched.{patched-meaning}

-- what is written, by the three tests
module _ (d : Description) where
  abbrev tested : Bool → Bool → Bool → Parsed Description
  tested a b few = unless (not a) 9 (unless (not b) 10 (unless few 8 (got d [])))

  record Lines (a b few : Bool) (n : ℕ) : Type 0 where
    nine : (n ≡ 9) ↔ T (not a)
    ten : (n ≡ 10) ↔ T (a && not b)
    eight : (n ≡ 8) ↔ T (a && b && few)
    accepted : (n ≡ 0) ↔ T (a && b && not few)

  record Fate (a b few : Bool) (m : Parsed Description) : Type 0 where
    number : Lines a b few (answer_number (answer_of 0 0 m))
    place : answer_place (answer_of 0 0 m) ≡ 0
    is-got : answer_number (answer_of 0 0 m) ≡ 0 → m ≡ got d []
    untouched : (out : List ℕ) → (answer_number (answer_of 0 0 m) ≡ 0 → ⊥) → bytes_in out m ≡ out

  fate : (a b few : Bool) → Fate a b few (tested a b few)
  fate false b few = record { number = omega arith; place = refl; is-got = λ e. absurd (omega arith); untouched = λ out n. refl }
  fate true false few = record { number = omega arith; place = refl; is-got = λ e. absurd (omega arith); untouched = λ out n. refl }
  fate true true true = record { number = omega arith; place = refl; is-got = λ e. absurd (omega arith); untouched = λ out n. refl }
  fate true true false = record { number = omega arith; place = refl; is-got = λ e. refl; untouched = λ out n. absurd (n refl) }

-- one "exactly when" after another
onward : {A B C : Type 0} → A ↔ B → B ↔ C → A ↔ C
onward f g = (λ a. g.0 (f.0 a), λ c. f.1 (g.1 c))

module _ (signed : Bool) (rows : List ℤ) (base : ℤ) (w : ℕ) (h : AllI64 rows) (hb : SFits w64 base) where
  abbrev rs : List ℕ
  rs = map as_u64 rows

  abbrev p : Parts
  p = parts (as_u64 base) w rs

  abbrev counted : Bool
  counted = between 1 512 (length rs)

  -- 10 does not apply
  abbrev formed : Bool
  formed = is_kept_width w && header_holds p

  counts : T counted ↔ ((1 ≤ length rows) × (length rows ≤ 512))
  counts = rw (length-map rows as_u64) (λ t. between_le 1 512 (length rows) t, λ n. le-between 1 512 (length rows) n.0 n.1)

  means : T counted → PatchedMeaning signed (as_u64 base) w rs
  means t = patched-meaning signed (as_u64 base) w rs (as-lt base hb) (patterns-lt rows h) (between_le 1 512 (length rs) t).0
      (between_le 1 512 (length rs) t).1

  some-counted : Some signed base w rows → T counted
  some-counted s =
      let d = s.described in
      let e = s.describes in
      let n : length rs ≡ length d.values.values = ap (λ (l : List ℕ). length l) (sym e.has-rows) ∙ rows-count signed (run d) in
      le-between 1 512 (length rs) (omega (arith, e.valid.head.some-rows)) (omega (arith, e.valid.head.rows_fit))

  -- where the count is allowed: there is a description of a kept width exactly where 10 does not apply
  is-formed : T counted → Some signed base w rows → T formed
  is-formed c s = and_i (is_kept_width w) (header_holds p) (rw s.kept tt) ((means c).exactly-some.1 (s.described, s.describes))

  has_some : T counted → T formed → Some signed base w rows
  has_some c t =
      let d = (means c).exactly-some.0 (and_right (is_kept_width w) (header_holds p) t) in
      record { kept = T_true (is_kept_width w) (and_left (is_kept_width w) (header_holds p) t); described = d.0; describes = d.1 }

  some_is : T (counted && formed) ↔ Some signed base w rows
  some_is = (λ t. has_some (and_left counted formed t) (and_right counted formed t), λ s. and_i counted formed (some-counted s) (is-formed (some-counted s) s))

  none_is : T (counted && not formed) ↔ ((1 ≤ length rows) × (length rows ≤ 512) × (Some signed base w rows → ⊥))
  none_is = (
    λ t.
        let c = and_left counted (not formed) t in
        ((counts.0 c).0, (counts.0 c).1, λ s. T_not formed (and_right counted (not formed) t) (is-formed c s)),
    λ n.
        let c = counts.1 (n.0, n.1) in
        and_i counted (not formed) c (not_T formed (λ t. n.2 (has_some c t))),
  )

  with-room : (few : Bool) (Q : Type 0) → T few ↔ Q → T (counted && formed && few) ↔ (Some signed base w rows × Q)
  with-room few Q q = (
    λ t. (some_is.0 (and_left (counted && formed) few t), q.0 (and_right (counted && formed) few t)),
    λ s. and_i (counted && formed) few (some_is.1 s.0) (q.1 s.1),
  )

  not-counted : T (not counted) ↔ ((length rows ≡ 0) ⊎ (512 < length rows))
  not-counted = (λ t. by (ℕ_discrete (length rows) 0) (dec_lt 512 (length rows)) t, λ c. not_T counted (λ t. of c (counts.0 t)))
    where
      by : Dec (length rows ≡ 0) → Dec (512 < length rows) → T (not counted) → (length rows ≡ 0) ⊎ (512 < length rows)
      by (yes e) l t = inl e
      by (no n) (yes l) t = inr l
      by (no n) (no l) t = absurd (T_not counted t (counts.1 (omega (arith, n), omega arith)))

      of : (length rows ≡ 0) ⊎ (512 < length rows) → (1 ≤ length rows) × (length rows ≤ 512) → ⊥
      of (inl e) n = omega arith
      of (inr l) n = omega arith

  row_count_lem : T counted → T (header_holds p) → row_count (run p) ≡ length rows
  row_count_lem c t =
      sym (rows-count signed (run p)) ∙ ap (λ (l : List ℕ). length l) ((means c).chosen t).describes.has-rows ∙ length-map rows as_u64

  module _ (out out' : List ℕ) (r : Answer) (q : PatchedWritten rows base w out out' r) where
    abbrev few : Bool
    few = ltb (length out) (length (layout (run p)))

    fated : Fate (run p) counted formed few (writing_patched (as_u64 base) w rs (length out))
    unfolding writing_patched
    fated = fate (run p) counted formed few

    ok : answer_number r ≡ 0 → answer_number (answer_of 0 0 (writing_patched (as_u64 base) w rs (length out))) ≡ 0
    ok e = rw q.answer at e

    is-written : answer_number r ≡ 0 → writing_patched (as_u64 base) w rs (length out) ≡ got (run p) []
    is-written e = fated.is-got (ok e)

    holds : answer_number r ≡ 0 → T counted × T (header_holds p)
    holds e =
        let t = and_left (counted && formed) (not few) (fated.number.accepted.0 (ok e)) in
        (and_left counted formed t, and_right (is_kept_width w) (header_holds p) (and_right counted formed t))

    its-table : PatchedTable signed rows base w out out' r
    its-table =
        let l : Lines (run p) counted formed few (answer_number r) = rw q.answer fated.number in
        record {
          nine = onward l.nine not-counted;
          ten = onward l.ten none_is;
          eight = onward l.eight (with-room few (length out < length (layout (run p))) (λ t. ltb→lt _ _ t, λ t. lt→ltb _ _ t));
          accepted = onward l.accepted (with-room (not few) (length (layout (run p)) ≤ length out) (λ t. nltb→le _ _ t, λ t. le→nltb _ _ t));
          place = rw q.answer fated.place;
          unchanged = λ n. q.places ∙ fated.untouched out (rw q.answer at n);
          answer = λ e. q.answer ∙ rw (is-written e, row_count_lem (holds e).0 (holds e).1, ((means (holds e).0).chosen (holds e).1).describes.has_width);
          bytes = λ e. q.places ∙ rw (is-written e);
        }

    back : answer_number r ≡ 0 → (places places' : List ℤ) (r' : Answer) → length rows ≤ length places → RunRead out' 0 signed places places' r'
        → (r' ≡ r) × (places' ≡ rows ++ drop (length rows) places)
    unfolding i64_rows
    back e places places' r' room g =
        let n : row_count (run p) ≡ length rows = row_count_lem (holds e).0 (holds e).1 in
        let d : Describes signed (as_u64 base) w rs p = ((means (holds e).0).chosen (holds e).1).describes in
        let i : into (length places) (parse out') ≡ got (run p) (drop (length (layout (run p))) out) =
        rw (its-table.bytes e, parse-complete (run p) (drop (length (layout (run p))) out) d.valid) (into-got (length places) (run p) _ (rw n room)) in (
          g.answer ∙ rw i (sym (q.answer ∙ rw (is-written e))),
          g.places ∙ rw (i, n, d.has-rows, patterns-back rows h),
        )

pub patched-table : PatchedTableHolds
patched-table signed rows base w out out' r h hb q = its-table signed rows base w h hb out out' r q

pub patched-reads-back : PatchedReadsBack
patched-reads-back rows base w out out' r h hb q e signed places places' r' room g = back signed rows base w h hb out out' r q e places places' r' room g
