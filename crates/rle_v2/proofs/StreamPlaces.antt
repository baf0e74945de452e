-- The stream reader's runs leave their rows in the first places. Assumes nothing.
use Rattle.std.specs.Prelude.{Some, None}
use mathlib.Core.Path.{◌≡◌, refl, sym, ap, ◌∙◌}
use Prim.Native.Nat.{ℕ, ◌+◌, ◌-◌, ◌<◌, ◌≤◌}
use native.Mathlib.Nat.{le_refl}
use native.Mathlib.Omega.{arith}
use mathlib.Core.Bool.{Bool}
use mathlib.Core.List.{List, [], ◌++◌, append-nil}
use lib.ListN.{length, take, drop, length-drop, take-append-drop, drop_of_length-le}
use lib.IntN.{ℤ}
use Rattle.format.specs.Digits.{AllBelow}
use Rattle.format.specs.Rows.{i64_rows}
use Rattle.format.specs.Parse.{parse}
use Rattle.format.specs.Streams.{total_rows, joined_rows}
use Rattle.format.specs.Answers.{Answer, LastRun, read_whole, broke_at}
use Rattle.format.specs.Promises.{Gives, StreamRead}
use Rattle.format.specs.declared.Refusal.{Refusal}
use Rattle.format.specs.declared.Run.{Run}
use Rattle.format.proofs.Runs.{parse-empty}
use Rattle.format.proofs.Rows.{i64-count}
use Rattle.format.proofs.Streams.{into-end}
use Rattle.format.proofs.Joined.{rows_snoc}
use Rattle.util.proofs.Grow.{back_is, front-is, kept_by, long-by}
use Rattle.rle_v2.proofs.OneRun.{OneRun, NoRun, Step, step_is, fits}
use Rattle.rle_v2.proofs.StreamWalk.{Counted, counted-first, counted-run, is_whole, counted-whole, is-broken, counted-refused}

-- ---- the stream reader's places

-- the runs that are counted left their rows in the first places
pub record Walked (s : List ℕ) (from : ℕ) (signed : Bool) (out₀ out : List ℤ) (p k : ℕ) (last : LastRun) : Type 0 where
  pub counted : Counted s from (length out₀) p k last
  pub long : length out ≡ length out₀
  pub laid : take k out ≡ joined_rows signed counted.ds
  pub kept : drop k out ≡ drop k out₀

pub walked-first : (s : List ℕ) (from : ℕ) (signed : Bool) (out₀ : List ℤ) → Walked s from signed out₀ out₀ from 0 None
unfolding counted-first joined_rows
walked-first s from signed out₀ = record { counted = counted-first s from (length out₀); long = refl; laid = refl; kept = refl }

module _ {s : List ℕ} {from : ℕ} {signed : Bool} {out₀ out : List ℤ} {p k : ℕ} {last : LastRun} (w : Walked s from signed out₀ out p k last) where
  abbrev left : ℕ
  left = length out₀ - k

  room : length (drop k out) ≡ left
  room = length-drop k out ∙ ap (λ (n : ℕ). n - k) w.long

  -- a call of the run reader. The part that was lent came back with its rows.
  module _ {part : List ℤ} {a : Answer} (g : Gives p (length s - p) signed (parse (drop p s)) (drop k out) part a) where
    pub walked_step : AllBelow 256 s → Step s p left a
    walked_step h = step_is s p left a h (rw room at g.answer)

    module _ {r : Run} (h : p < length s) (o : OneRun s p left r) where
      abbrev rows : ℕ
      rows = r.rows.rows

      back : List ℤ
      back = take k out ++ (part ++ drop (length out - k) (drop k out))

      back-so : back ≡ (take k out ++ i64_rows signed o.run) ++ drop (k + rows) out
      unfolding back
      back-so = back_is out part (i64_rows signed o.run) k rows (rw (room, o.read, ← o.rows_are) at g.places)

      counted-rows : length (i64_rows signed o.run) ≡ rows
      counted-rows = i64-count signed o.run ∙ sym o.rows_are

      pub walked-run : Walked s from signed out₀ (take k out ++ (part ++ drop (length out - k) (drop k out))) (p + r.consumed.bytes) (k + rows) (Some r)
      unfolding back counted-run
      walked-run =
          let d = o.run in
          let n = w.counted in
          let c : k ≤ length out = omega (arith, n.fits, w.long) in
          let f : k + rows ≤ length out = omega (arith, fits left o, n.fits, w.long) in
          record {
            counted = counted-run n h o;
            long = long-by out back (i64_rows signed d) k rows c counted-rows back-so f ∙ w.long;
            laid = front-is out back (i64_rows signed d) k rows c counted-rows back-so ∙ rw (w.laid, rows_snoc signed n.ds d);
            kept = kept_by out back (i64_rows signed d) k rows c counted-rows back-so out₀ w.kept;
          }

    -- if nothing came back, the places are as they were
    back-same : part ≡ drop k out → take k out ++ (part ++ drop (length out - k) (drop k out)) ≡ out
    back-same e =
        let z : drop (length out - k) (drop k out) ≡ [] = drop_of_length-le (drop k out) {i = length out - k} (rw length-drop (le_refl _)) in
        rw (e, z, append-nil, take-append-drop k out)

    pub back-refused : {f : Refusal} → NoRun s p left f → take k out ++ (part ++ drop (length out - k) (drop k out)) ≡ out
    back-refused q = back-same (rw (room, q.read) at g.places)

    pub back-ended : drop p s ≡ [] → take k out ++ (part ++ drop (length out - k) (drop k out)) ≡ out
    back-ended z = back-same (rw (z, parse-empty, into-end (length (drop k out))) at g.places)

  places-so : out ≡ joined_rows signed w.counted.ds ++ drop (total_rows w.counted.ds) out₀
  places-so = sym (take-append-drop k out) ∙ rw (w.laid, w.kept, w.counted.rows)

  pub walked_whole : drop p s ≡ [] → StreamRead s from signed out₀ out (read_whole k (p - from) last)
  walked_whole z = record { answer = counted-whole w.counted z; places = rw (is_whole w.counted z) places-so }

  pub walked-refused : {f : Refusal} → NoRun s p left f → StreamRead s from signed out₀ out (broke_at f k (p - from) last)
  walked-refused q = record { answer = counted-refused w.counted q; places = rw (is-broken w.counted q) places-so }
