-- The flag reader and the boolean reader read the same runs, so they refuse alike, and the flags are the last of the booleans. Assumes
-- nothing.
use mathlib.Core.Path.{◌≡◌, refl, sym, ◌∙◌}
use Prim.Native.Nat.{ℕ, ◌+◌, ◌-◌, ◌≤◌}
use native.Mathlib.Omega.{arith}
use native.Mathlib.Nat.{zero-add, le_refl}
use mathlib.Core.List.{List}
use mathlib.Core.Bool.{Bool, true, false}
use lib.ListN.{length, take, drop, length-drop}
use lib.Dec.{ltb}
use lib.Seq.{take_at, length-take-le}
use borrow.Author.Tests.{le-ltb}
use Rattle.format.specs.Fields.{bytes_for}
use Rattle.format.specs.Parse.{Parsed, got, then, unless}
use Rattle.format.specs.Booleans.{ByteRun, joined_runs, joined_bytes, bits, booleans_of, booleans, booleans_into, booleans_answer, booleans_places}
use Rattle.format.proofs.ByteRuns.{OnlyCut, any-got, any-cut, runs-only}
use Rattle.format.proofs.Booleans.{length-bits}
use Rattle.boolean_rle.specs.declared.positions.FlagPosition.{FlagPosition}
use Rattle.boolean_rle.specs.Positions.{byte_at, flag_at, skipped}
use Rattle.boolean_rle.specs.Batches.{Batch, take_flags, flags_from, placed, flags_answer, places_after}
use Rattle.boolean_rle.specs.BatchTheorems.{Alike, FromRun, LastOf, AsBooleans}
use Rattle.boolean_rle.proofs.Column.{Reads, of-enough, reads}

-- ---- from the byte where a run begins

module _ (at total n : ℕ) (out : List ℕ) where
  -- what the flag reader makes of the runs that were read, and what the boolean reader does
  abbrev flags_of : Parsed (List ByteRun) → Batch FlagPosition
  flags_of m = placed (length out) n (take_flags (flag_at (byte_at at 0) 0) n m)

  abbrev booleans-of : Parsed (List ByteRun) → Parsed (List ByteRun)
  booleans-of m = then m λ ds rest. unless (ltb (length out) n) 8 (got ds rest)

  same : (m : Parsed (List ByteRun)) → OnlyCut m
      → (places_after n out (flags_of m) ≡ booleans_places n out (booleans-of m)) × Alike n (flags_answer at total n (flags_of m))
      (booleans_answer at total n (booleans-of m))
  same m (any-got {a = ds} {s = rest}) = by (ltb (length out) n) refl
    where
      by : (b : Bool) → ltb (length out) n ≡ b
          → (places_after n out (flags_of (got ds rest)) ≡ booleans_places n out (booleans-of (got ds rest)))
          × Alike n (flags_answer at total n (flags_of (got ds rest))) (booleans_answer at total n (booleans-of (got ds rest)))
      by true e = rw e (refl, refl)
      by false e = rw (e, zero-add n) (refl, (refl, (length (joined_runs ds), refl)))
  same m any-cut = (refl, refl)

pub from-run : FromRun
unfolding flags_from booleans_into booleans
from-run input at n out places places' batch r g h =
    let bs = drop at input in
    let (e, f) = same at (length input - at) n out (booleans n bs) (runs-only (length bs) (bytes_for n) bs) in
    (rw (zero-add n) at g.places ∙ e ∙ sym h.places, rw (rw (zero-add n) at g.answer, h.answer) f)

-- ---- from any position

module _ (input : List ℕ) (p : FlagPosition) (n : ℕ) (out out' : List ℕ) (room : n ≤ length out) (room' : skipped p + n ≤ length out') where
  last_of : (m : Parsed (List ByteRun)) → OnlyCut m → Reads (drop p.run.bytes input) (bytes_for (skipped p + n)) m
      → let b = placed (length out) n (take_flags p n m) in
      let read = then m λ ds rest. unless (ltb (length out') (skipped p + n)) 8 (got ds rest) in
      LastOf (skipped p) n (places_after n out b) (booleans_places (skipped p + n) out' read)
      (flags_answer p.run.bytes (length input - p.run.bytes) n b)
      (booleans_answer p.run.bytes (length input - p.run.bytes) (skipped p + n) read)
  unfolding booleans_of
  last_of m (any-got {a = ds} {s = rest}) q =
      let k = skipped p in
      let all = take (k + n) (bits (joined_bytes ds)) in
      let enough = (of-enough q).1 in
      let long : length all ≡ k + n = length-take-le (k + n) (bits (joined_bytes ds)) (rw length-bits (omega arith)) in
      let long-left : length (drop k all) ≡ n = rw (length-drop, long) (omega arith) in
      rw (le-ltb (length out) n room, le-ltb (length out') (k + n) room') (
        refl,
        (length (joined_runs ds), refl),
        rw (take_at (drop k all) (drop n out) n long-left, take_at all (drop (k + n) out') (k + n) long),
      )
  last_of m any-cut q = refl

pub as-booleans : AsBooleans
unfolding flags_from booleans_into booleans
as-booleans input p n out places out' places' batch r g h room room' =
    let bs = drop p.run.bytes input in
    rw (g.answer, g.places, h.answer, h.places)
    (last_of input p n out out' room room' (booleans (skipped p + n) bs) (runs-only (length bs) (bytes_for (skipped p + n)) bs)
    (reads (length bs) (bytes_for (skipped p + n)) bs (le_refl _)))
