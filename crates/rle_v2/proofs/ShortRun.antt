-- What a short repeat gives, by the tests of its reader. Assumes nothing.
use Rattle.std.specs.Prelude.{Some, Ok}
use mathlib.Core.Path.{◌≡◌, refl, sym, ap, ◌∙◌}
use Prim.Native.Nat.{ℕ, zero, suc, ◌+◌, ◌-◌, ◌*◌, ◌/◌, ◌%◌, ◌<◌, ◌≤◌}
use native.Mathlib.Nat.{add-zero, mod-eq_of_lt}
use native.Mathlib.Omega.{arith}
use native.Mathlib.Decide.{dec_lt}
use mathlib.Core.Bool.{Bool}
use mathlib.Core.List.{List, ◌∷◌, ◌++◌}
use lib.ListN.{length, take, drop, get_or, replicate, length-drop}
use lib.Seq.{length-take-le}
use lib.IntN.{ℤ}
use Rattle.format.specs.Digits.{number}
use Rattle.format.specs.Fields.{two64, row}
use Rattle.format.specs.Runs.{Description, short}
use Rattle.format.specs.Rows as Rows
use Rattle.format.specs.Rows.{plus, as_i64, i64_rows, rows_of}
use Rattle.format.specs.Parse.{Parsed, got, short_run}
use Rattle.format.specs.Promises.{answer_of, Gives}
use Rattle.format.specs.Answers.{running, ran, refused_at, cut_at}
use Rattle.format.specs.declared.Run.{Run}
use Rattle.format.specs.declared.Kind.TheVariants.{ShortRepeat}
use Rattle.format.proofs.Rows.{bytes_count}
use Rattle.format.proofs.Reading.{bytes-here, bytes_cut, answer-cut, answer-run, run-inj, run-not-refused, gives-8, gives-run}
use Rattle.rle_v2.specs.Pass.{stepped}
use Rattle.rle_v2.proofs.Pass.{stepped-is}

-- steps of 0 repeat
repeated : (n v : ℕ) → v < two64 → Rows.steps n v 0 ≡ replicate n v
unfolding Rows.steps
repeated zero v h = refl
repeated (suc n) v h =
    let e : plus v 0 ≡ v = rw add-zero (mod-eq_of_lt h) in
    rw e (ap (λ (l : List ℕ). v ∷ l) (repeated n v h))

module _ (s : List ℕ) (at : ℕ) where
  abbrev size : ℕ
  size = get_or s at 0 / 8 + 1

  abbrev count : ℕ
  count = get_or s at 0 % 8 + 3

  abbrev pub run : Parsed Description
  run = short_run (get_or s at 0) (drop (at + 1) s)

  pub no_body : at < length s → length s - (at + 1) < size → cut_at 6 at (at + 1) ≡ answer_of at (length s - at) run
  unfolding short_run
  no_body h l = answer-cut s at (at + 1) 6 run (omega arith) (omega arith) (rw (bytes_cut s (at + 1) 6 size l))

  module _ (l : size ≤ length s - (at + 1)) where
    pub is-run : run ≡ got (short count (take size (drop (at + 1) s))) (drop (at + 1 + size) s)
    unfolding short_run
    is-run = rw (bytes-here s (at + 1) 6 size l)

    value-count : length (take size (drop (at + 1) s)) ≡ size
    value-count = length-take-le size (drop (at + 1) s) (rw length-drop l)

    pub run_is : ran ShortRepeat (8 * size) count (1 + size) ≡ answer_of at (length s - at) run
    run_is =
        let n = value-count in
        answer-run at (length s - at) run _ _ is-run ShortRepeat (8 * size) count (1 + size) refl (rw n) refl (sym (bytes_count _ ∙ rw n))

  -- the run that its measure names
  pub record Measured (r : Run) : Type 0 where
    pub there : size ≤ length s - (at + 1)
    pub size_is : r.width / 8 ≡ size
    pub rows_are : r.rows.rows ≡ count
    pub bytes-are : r.consumed.bytes ≡ 1 + size

  pub measured : (r : Run) → at < length s → Ok (Some r) ≡ answer_of at (length s - at) run → Measured r
  measured r h e = by (dec_lt (length s - (at + 1)) size)
    where
      by : Dec (length s - (at + 1) < size) → Measured r
      by (yes l) = absurd (run-not-refused r _ (e ∙ sym (no_body h l)))
      by (no l) =
          let t : size ≤ length s - (at + 1) = omega arith in
          let q : r ≡ running ShortRepeat (8 * size) count (1 + size) = run-inj r _ (e ∙ sym (run_is t)) in
          record { there = t; size_is = rw q (omega arith); rows_are = rw q; bytes-are = rw q }

  module _ (signed : Bool) (out : List ℤ) (r : Run) (e : Ok (Some r) ≡ answer_of at (length s - at) run) (m : Measured r) where
    -- the one value
    abbrev value : ℕ
    value = row signed (number 256 (take (r.width / 8) (drop (at + 1) s)))

    pub no_room : length out < r.rows.rows → Gives at (length s - at) signed run out out (refused_at 8 at)
    no_room h = gives-8 at (length s - at) signed run out _ _ (is-run m.there) (rw m.rows_are at h)

    pub read_is : (out' : List ℤ) → r.rows.rows ≤ length out → value < two64 → out' ≡ stepped value 0 (take r.rows.rows out) ++ drop r.rows.rows out
        → Gives at (length s - at) signed run out out' (Ok (Some r))
    unfolding i64_rows rows_of
    read_is out' h v o =
        gives-run at (length s - at) signed run out _ _ (is-run m.there) out' (Ok (Some r)) e (rw m.rows_are at h)
        (o ∙ rw (stepped-is value 0 r.rows.rows out h, repeated r.rows.rows value v, m.rows_are, m.size_is))
