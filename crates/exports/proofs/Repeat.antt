-- A short repeat as `orc_read_run`'s number and bytes, by what its measure named. Assumes nothing.
use Rattle.std.specs.Prelude.{Some, None, Ok}
use mathlib.Core.Path.{◌≡◌, refl, ap, ◌∙◌}
use Prim.Native.Nat.{ℕ, ◌+◌, ◌*◌, ◌/◌, ◌%◌, ◌-◌, ◌<◌, ◌≤◌}
use native.Mathlib.Nat.{sub-zero}
use native.Mathlib.Omega.{arith}
use mathlib.Core.Bool.{Bool}
use mathlib.Core.List.{List, ◌++◌, map}
use lib.ListN.{length, take, drop, get_or, replicate}
use borrow.Author.Tests.{lt-ltb}
use Rattle.format.specs.Digits.{number}
use Rattle.format.specs.Fields.{row}
use Rattle.format.specs.Runs.{Description, short, row_count}
use Rattle.format.specs.Rows.{as_i64, rows_of, i64_rows}
use Rattle.format.specs.Parse.{Parsed, end, got, refused, plain, parse, into}
use Rattle.format.specs.Promises.{answer_of, RunMeasured}
use Rattle.format.specs.Answers.{Answer, answer_rows, answer_bytes, answer_packed}
use Rattle.exports.specs.RowBytes.{row_bytes, places_in, LoadedAs}
use Rattle.format.specs.declared.Run.{Run}
use Rattle.format.proofs.Streams.{into-end, into-got, into-refused}
use Rattle.rle_v2.proofs.ByKind.{is-short}
use Rattle.rle_v2.proofs.ShortRun.{is-run, Measured, measured}

pub run-not-end : (r : Run) → ◌≡◌ {A = Answer} (Ok (Some r)) (Ok None) → ⊥
run-not-end r e = let z : ◌≡◌ {A = ℕ} 0 1 = cc in omega arith

into_few : (n : ℕ) (d : Description) (rest : List ℕ) → n < row_count d → into n (got d rest) ≡ refused (plain 8)
unfolding into
into_few n d rest h = rw (lt-ltb n (row_count d) h)

module _ (s : List ℕ) (signed : Bool) (out : List ℕ) where
  -- no run was named: no row, no byte, and the output as it was
  pub record Nothing (a : Answer) : Type 0 where
    pub rows : answer_rows a ≡ 0
    pub bytes : answer_bytes a ≡ 0
    pub loaded : LoadedAs s signed out out (answer_packed a)

  pub nothing : (a : Answer) → ((r : Run) → a ≡ Ok (Some r) → ⊥) → RunMeasured s 0 a → Nothing a
  nothing a n m = by (parse s) refl (rw sub-zero at m)
    where
      by : (x : Parsed Description) → x ≡ parse s → a ≡ answer_of 0 (length s) x → Nothing a
      by end e q = record { rows = rw q; bytes = rw q; loaded = record { number = rw (q, ← e, into-end (places_in out)); bytes = rw (← e, into-end (places_in out)) } }
      by (refused f) e q = record { rows = rw q; bytes = rw q; loaded = record { number = rw (q, ← e, into-refused (places_in out) f); bytes = rw (← e, into-refused (places_in out) f) } }
      by (got d rest) e q = absurd (n _ q)

  module _ (h : 0 < length s) (k : get_or s 0 0 / 64 ≡ 0) (r : Run) (e : RunMeasured s 0 (Ok (Some r))) where
    pub named : Measured s 0 r
    named = measured s 0 r h (e ∙ ap (answer_of 0 (length s - 0)) (is-short s 0 h k))

    parsed : parse s ≡ got (short (get_or s 0 0 % 8 + 3) (take (get_or s 0 0 / 8 + 1) (drop 1 s))) (drop (1 + (get_or s 0 0 / 8 + 1)) s)
    parsed = is-short s 0 h k ∙ is-run s 0 named.there

    pub no_room : places_in out < r.rows.rows → LoadedAs s signed out out 8
    no_room l =
        let f = into_few (places_in out) (short (get_or s 0 0 % 8 + 3) (take (get_or s 0 0 / 8 + 1) (drop 1 s))) (drop (1 + (get_or s 0 0 / 8 + 1)) s) (rw named.rows_are at l) in
        record { number = rw (parsed, f); bytes = rw (parsed, f) }

    pub repeats : (out' : List ℕ) → r.rows.rows ≤ places_in out
        → out' ≡ row_bytes (map as_i64 (replicate r.rows.rows (row signed (number 256 (take (r.width / 8) (drop 1 s)))))) ++ drop (8 * r.rows.rows) out
        → LoadedAs s signed out out' (answer_packed (Ok (Some r)))
    unfolding i64_rows rows_of
    repeats out' l o =
        let f = into-got (places_in out) (short (get_or s 0 0 % 8 + 3) (take (get_or s 0 0 / 8 + 1) (drop 1 s))) (drop (1 + (get_or s 0 0 / 8 + 1)) s) (rw named.rows_are at l) in
        record {
          number = rw (parsed, f) (ap answer_packed (rw (sub-zero, parsed) at e));
          bytes = rw (parsed, f) (rw (named.rows_are, named.size_is) at o);
        }
