-- What a direct run gives, by the tests of its reader. Assumes nothing.
use Rattle.std.specs.Prelude.{Some, Ok}
use mathlib.Core.Path.{◌≡◌, refl, sym, ap, ◌∙◌}
use Prim.Native.Nat.{ℕ, ◌+◌, ◌-◌, ◌*◌, ◌<◌, ◌≤◌}
use native.Mathlib.Omega.{arith}
use native.Mathlib.Decide.{dec_lt}
use mathlib.Core.Bool.{Bool}
use mathlib.Core.List.{List, ◌++◌, map}
use lib.ListN.{length, drop, get_or}
use lib.IntN.{ℤ}
use Rattle.format.specs.Fields.{width, bytes_for}
use Rattle.format.specs.Runs.{Description, direct}
use Rattle.format.specs.Rows.{as_i64, i64_rows, rows_of}
use Rattle.format.specs.Parse.{Parsed, got, code_of, rows_less, direct_run}
use Rattle.format.specs.Promises.{answer_of, Gives}
use Rattle.format.specs.Answers.{running, ran, refused_at, cut_at}
use Rattle.format.specs.declared.Run.{Run}
use Rattle.format.specs.declared.Kind.TheVariants.{Direct}
use Rattle.format.proofs.Rows.{width-le, bytes_count}
use Rattle.format.proofs.Reading.{byte-after, none_after, block_at, block_here, block-cut, answer-refused, answer-cut, answer-run, run-inj, run-not-refused, gives-8, gives-run}
use Rattle.rle_v2.specs.Pass.{decoded}
use Rattle.rle_v2.proofs.Pass.{decoded-is}
use Rattle.rle_v2.proofs.Blocks.{block-count, block-patterns}

module _ (s : List ℕ) (at : ℕ) where
  -- the header's bytes, and what they say
  abbrev bits : ℕ
  bits = width (code_of (get_or s at 0))

  abbrev count : ℕ
  count = rows_less (get_or s at 0) (get_or s (at + 1) 0) + 1

  abbrev pub run : Parsed Description
  run = direct_run (get_or s at 0) (drop (at + 1) s)

  pub no_header : at < length s → length s - at < 2 → refused_at 1 at ≡ answer_of at (length s - at) run
  unfolding direct_run
  no_header h l = answer-refused at (length s - at) run 1 (rw (none_after s at h l))

  module _ (h : 2 ≤ length s - at) where
    pub no_body : length s - (at + 2) < bytes_for (count * bits) → cut_at 13 at (at + 2) ≡ answer_of at (length s - at) run
    unfolding direct_run
    no_body l = answer-cut s at (at + 2) 13 run (omega arith) (omega arith) (rw (byte-after s at h, block-cut s (at + 2) 13 bits count l))

    module _ (l : bytes_for (count * bits) ≤ length s - (at + 2)) where
      is-run : run ≡ got (direct (code_of (get_or s at 0)) (block_at s (at + 2) bits count)) (drop (at + 2 + bytes_for (count * bits)) s)
      unfolding direct_run
      is-run = rw (byte-after s at h, block_here s (at + 2) 13 bits count l)

      pub run_is : ran Direct bits count (2 + bytes_for (count * bits)) ≡ answer_of at (length s - at) run
      run_is =
          let n = block-count s (at + 2) bits count in
          answer-run at (length s - at) run _ _ is-run Direct bits count (2 + bytes_for (count * bits)) refl refl (sym n) (sym (bytes_count _ ∙ rw n))

  -- the run that its measure names
  pub record Measured (r : Run) : Type 0 where
    pub head : 2 ≤ length s - at
    pub there : bytes_for (count * bits) ≤ length s - (at + 2)
    pub width_is : r.width ≡ bits
    pub rows_are : r.rows.rows ≡ count

  pub measured : (r : Run) → at < length s → Ok (Some r) ≡ answer_of at (length s - at) run → Measured r
  measured r h e = by (dec_lt (length s - at) 2) (dec_lt (length s - (at + 2)) (bytes_for (count * bits)))
    where
      by : Dec (length s - at < 2) → Dec (length s - (at + 2) < bytes_for (count * bits)) → Measured r
      by (yes k) b = absurd (run-not-refused r _ (e ∙ sym (no_header h k)))
      by (no k) (yes l) = absurd (run-not-refused r _ (e ∙ sym (no_body (omega arith) l)))
      by (no k) (no l) =
          let u : 2 ≤ length s - at = omega arith in
          let t : bytes_for (count * bits) ≤ length s - (at + 2) = omega arith in
          let q : r ≡ running Direct bits count (2 + bytes_for (count * bits)) = run-inj r _ (e ∙ sym (run_is u t)) in
          record { head = u; there = t; width_is = rw q; rows_are = rw q }

  pub rows-there : (r : Run) → Measured r → bytes_for (r.rows.rows * r.width) ≤ length s - (at + 2)
  rows-there r m = rw (m.width_is, m.rows_are) m.there

  -- what stands there then
  pub found : (r : Run) → Measured r
      → (rest : List ℕ) × (run ≡ got (direct (code_of (get_or s at 0)) (block_at s (at + 2) r.width r.rows.rows)) rest)
  found r m = (drop (at + 2 + bytes_for (count * bits)) s, rw (m.width_is, m.rows_are) (is-run m.head m.there))

  module _ (signed : Bool) (out : List ℤ) (r : Run) (e : Ok (Some r) ≡ answer_of at (length s - at) run) (m : Measured r) where
    pub no_room : length out < r.rows.rows → Gives at (length s - at) signed run out out (refused_at 8 at)
    no_room h = gives-8 at (length s - at) signed run out _ _ (is-run m.head m.there) (rw (block-count s (at + 2) bits count) (rw m.rows_are at h))

    pub read_is : (out' : List ℤ) → r.rows.rows ≤ length out
        → out' ≡ decoded signed (map as_i64 (block_at s (at + 2) r.width r.rows.rows).values) ++ drop r.rows.rows out
        → Gives at (length s - at) signed run out out' (Ok (Some r))
    unfolding i64_rows rows_of
    read_is out' h o =
        let n = block-count s (at + 2) bits count in
        gives-run at (length s - at) signed run out _ _ (is-run m.head m.there) out' (Ok (Some r)) e (rw n (rw m.rows_are at h))
        (rw (m.rows_are, m.width_is) at o
        ∙ rw n (ap (λ (x : List ℤ). x ++ drop count out) (decoded-is signed (block_at s (at + 2) bits count).values (block-patterns s (at + 2) bits count (width-le _)))))
