-- The rows of the run that holds the row, without the first few, and those of the runs behind it. Assumes nothing.
use Rattle.std.specs.Prelude.{Some, None, Ok, Err}
use mathlib.Core.Path.{◌≡◌, refl, sym, ap, ◌∙◌}
use Prim.Native.Nat.{ℕ, ◌+◌, ◌-◌, ◌≤◌}
use native.Mathlib.Omega.{arith}
use mathlib.Core.Bool.{Bool}
use mathlib.Core.List.{List, ◌∷◌, ◌++◌}
use lib.ListN.{length, take, drop, length-append, length-drop}
use lib.Seq.{take_at, drop_at, drop-drop, drop-append-le}
use lib.IntN.{ℤ}
use Rattle.format.specs.Runs.{Description, row_count, layout, joined}
use Rattle.format.specs.Rows.{i64_rows}
use Rattle.format.specs.Parse.{got, parse, into}
use Rattle.format.specs.Streams.{whole, read_all, total_rows, joined_rows}
use Rattle.format.specs.Promises.{run_of, answer_of, run_places, Gives, StreamRead}
use Rattle.format.specs.declared.Refusal.{Refusal}
use Rattle.format.specs.declared.Run.{Run}
use Rattle.format.specs.Answers.{Answer, Stream}
use Rattle.format.proofs.Reading.{run-inj, run-not-refused}
use Rattle.format.proofs.RunComplete.{parse-complete}
use Rattle.format.proofs.Rows.{row-bounds, i64-count}
use Rattle.format.proofs.Streams.{into-got, stream-whole, joined-unique}
use Rattle.format.proofs.Tests.{never}
use Rattle.util.proofs.Grow.{back_is}
use Rattle.index.specs.Walk.{Ready, RowsLaid}

module _ (s : List ℕ) (at skip : ℕ) (signed : Bool) (out : List ℤ) (y : Ready s at skip (length out)) where
  abbrev d : Description
  d = y.run

  abbrev b : List Description
  b = y.behind

  the-run : parse (drop at s) ≡ got d (joined b)
  unfolding joined
  the-run = ap parse y.bytes ∙ parse-complete d (joined b) y.valid.0

  -- the call of the run reader
  module _ (held held' : List ℤ) (a : Answer) (l : length held ≡ 512) (g : Gives at (length s - at) signed (parse (drop at s)) held held' a) where
    into-is : into (length held) (parse (drop at s)) ≡ got d (joined b)
    into-is = ap (into (length held)) the-run ∙ into-got (length held) d (joined b) (omega (arith, row-bounds d y.valid.0, l))

    ran : a ≡ Ok (Some (run_of d))
    ran = g.answer ∙ ap (answer_of at (length s - at)) into-is

    pub held-is : held' ≡ i64_rows signed d ++ drop (row_count d) held
    held-is = g.places ∙ ap (run_places signed held) into-is

    pub rows_are : (r : Run) → a ≡ Ok (Some r) → r.rows.rows ≡ row_count d
    rows_are r e = ap (λ (x : Run). x.rows.rows) (run-inj r (run_of d) (sym e ∙ ran))

    pub bytes-are : (r : Run) → a ≡ Ok (Some r) → r.consumed.bytes ≡ length (layout d)
    bytes-are r e = ap (λ (x : Run). x.consumed.bytes) (run-inj r (run_of d) (sym e ∙ ran))

    pub not-refused : (f : Refusal) → a ≡ Err f → ⊥
    not-refused f e = run-not-refused (run_of d) f (sym ran ∙ e)

    pub not-ended : a ≡ Ok None → ⊥
    not-ended e = let q : Ok (Some (run_of d)) ≡ (Ok None) = sym ran ∙ e in never (cc)

  -- there are so many bytes ..
  pub bytes-within : at + length (layout d) ≤ length s
  unfolding joined
  bytes-within = omega (arith, length-drop at s, ap length y.bytes, length-append (layout d) (joined b), y.within)

  -- .. and so many rows of this run
  pub rows-within : row_count d - skip ≤ length out
  unfolding total_rows
  rows-within = omega (arith, y.room)

  module _ (held held' : List ℤ) (e : held' ≡ i64_rows signed d ++ drop (row_count d) held) (n : ℕ) (q : n ≡ row_count d - skip) where
    abbrev piece : List ℤ
    piece = drop skip (i64_rows signed d)

    piece-long : length piece ≡ n
    piece-long = length-drop skip (i64_rows signed d) ∙ omega (arith, i64-count signed d)

    pub held-long : skip + n ≤ length held'
    held-long = omega (arith, ap length e, length-append (i64_rows signed d) (drop (row_count d) held), i64-count signed d, y.skips)

    piece_is : take n (drop skip held') ≡ piece
    piece_is =
        ap (λ (x : List ℤ). take n (drop skip x)) e
        ∙ ap (take n) (drop-append-le skip (i64_rows signed d) (drop (row_count d) held) (omega (arith, i64-count signed d, y.skips)))
        ∙ take_at piece (drop (row_count d) held) n piece-long

    all-rows : (piece ++ joined_rows signed b) ++ drop (n + total_rows b) out ≡ drop skip (joined_rows signed (d ∷ b)) ++ drop (total_rows (d ∷ b) - skip) out
    unfolding joined_rows total_rows
    all-rows =
        let m : n + total_rows b ≡ row_count d + total_rows b - skip = omega (arith, y.skips) in
        ap (λ (x : ℕ). (piece ++ joined_rows signed b) ++ drop x out) m
        ∙ ap (λ (x : List ℤ). x ++ drop (row_count d + total_rows b - skip) out)
        (sym (drop-append-le skip (i64_rows signed d) (joined_rows signed b) (omega (arith, i64-count signed d, y.skips))))

    module _ (out₁ part : List ℤ) (c : out₁ ≡ take n (drop skip held') ++ drop n out) (next : ℕ) (k : next ≡ at + length (layout d)) (r : Stream)
        (g : StreamRead s next signed (drop n out₁) part r) where
      out-is : out₁ ≡ piece ++ drop n out
      out-is = c ∙ ap (λ (x : List ℤ). x ++ drop n out) piece_is

      front-is : take n out₁ ≡ piece
      front-is = ap (take n) out-is ∙ take_at piece (drop n out) n piece-long

      tail-is : drop n out₁ ≡ drop n out
      tail-is = ap (λ (x : List ℤ). drop n x) out-is ∙ drop_at piece (drop n out) n piece-long

      rest-is : drop next s ≡ joined b
      unfolding joined
      rest-is =
          ap (λ (x : ℕ). drop x s) k ∙ sym (drop-drop (length (layout d)) at s) ∙ ap (λ (x : List ℕ). drop (length (layout d)) x) y.bytes
          ∙ drop_at (layout d) (joined b) (length (layout d)) refl

      reads : read_all (length (drop n out₁)) (drop next s) ≡ whole b
      unfolding total_rows
      reads = ap (read_all (length (drop n out₁))) rest-is
          ∙ stream-whole (length (drop n out₁)) b y.valid.1 (omega (arith, y.room, y.skips, ap length tail-is, length-drop n out))

      part-is : part ≡ joined_rows signed b ++ drop (total_rows b) (drop n out₁)
      part-is = rw reads at g.places

      done : take n out₁ ++ (part ++ drop (length out₁ - n) (drop n out₁)) ≡ (piece ++ joined_rows signed b) ++ drop (n + total_rows b) out
      done =
          back_is out₁ part (joined_rows signed b) n (total_rows b) part-is
          ∙ ap (λ (x : List ℤ). (x ++ joined_rows signed b) ++ drop (n + total_rows b) out₁) front-is
          ∙ ap (λ (x : List ℤ). (piece ++ joined_rows signed b) ++ x)
          (sym (drop-drop (total_rows b) n out₁) ∙ ap (λ (x : List ℤ). drop (total_rows b) x) tail-is ∙ drop-drop (total_rows b) n out)

      pub laid-is : RowsLaid s at skip signed out (take n out₁ ++ (part ++ drop (length out₁ - n) (drop n out₁)))
      laid-is = record { laid = λ ds v w. done ∙ same ds (joined-unique (d ∷ b) ds y.valid v (sym y.bytes ∙ w)) }
        where
          same : (ds : List Description) → d ∷ b ≡ ds
              → (piece ++ joined_rows signed b) ++ drop (n + total_rows b) out ≡ drop skip (joined_rows signed ds) ++ drop (total_rows ds - skip) out
          same ds u = all-rows ∙ ap (λ (x : List Description). drop skip (joined_rows signed x) ++ drop (total_rows x - skip) out) u
