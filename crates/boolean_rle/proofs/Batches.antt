-- Batches by the column: what a batch takes stands in the column after what is skipped. Assumes nothing.
use mathlib.Core.Path.{◌≡◌, refl, sym, ap, ◌∙◌}
use Prim.Native.Nat.{ℕ, zero, suc, ◌+◌, ◌-◌, ◌/◌, ◌<◌, ◌≤◌}
use native.Mathlib.Omega.{arith}
use native.Mathlib.Decide.{dec_lt}
use native.Mathlib.Nat.{le_refl}
use mathlib.Core.List.{List, [], ◌∷◌, ◌++◌}
use lib.ListN.{length, take, drop, length-append, length-drop}
use lib.Dec.{ltb, leb}
use lib.Seq.{drop-drop, drop_at, drop-append-le, take-add, take-append-le, length-take-le}
use borrow.Author.Tests.{lt-ltb, le-leb, lt-leb}
use Rattle.format.specs.Digits.{AllBelow}
use Rattle.format.specs.Fields.{pick, bytes_for}
use Rattle.format.specs.Parse.{Reason, Parsed}
use Rattle.format.specs.Booleans.{ByteRun, ValidRun, AllValidRuns, run_layout, run_bytes, byte_count, joined_bytes, bits, booleans_of, byte_run, booleans}
use Rattle.format.proofs.Digits.{spread-append}
use Rattle.format.proofs.Posts.{Post, at-got, at-refused, Took}
use Rattle.format.proofs.Below.{below-drop}
use Rattle.format.proofs.ByteRuns.{run_sound}
use Rattle.format.proofs.Booleans.{length_run, length-bits}
use Rattle.boolean_rle.specs.declared.positions.BytePosition.{BytePosition}
use Rattle.boolean_rle.specs.declared.positions.FlagPosition.{FlagPosition}
use Rattle.boolean_rle.specs.Column.{scanned, scan, whole_runs, column}
use Rattle.boolean_rle.specs.Positions.{skipped, byte_at, past, past_flags}
use Rattle.boolean_rle.specs.Batches.{Batch, took, missing, take_bytes, bytes_from, take_flags, flags_from}
use Rattle.boolean_rle.specs.BatchTheorems.{in_front, and_then}
use Rattle.boolean_rle.proofs.FirstPass.{layout-pos}
use Rattle.boolean_rle.proofs.Column.{joined-append, Reads, enough, short, reads}

-- ---- lists

-- n of a list, after k of it: what follows the list does not change them
part-of : (k n : ℕ) (l m : List ℕ) → k + n ≤ length l → drop k (take (k + n) l) ≡ take n (drop k (l ++ m))
part-of k n l m h =
    rw (take-add k n l, drop_at (take k l) (take n (drop k l)) k (length-take-le k l (omega arith)), drop-append-le k l m (omega arith))
    (sym (take-append-le n (drop k l) m (rw length-drop (omega arith))))

-- ---- runs that are scanned are valid, and those after the ones that are read do not move a position

scan-valid : (f : ℕ) (bs : List ℕ) → AllBelow 256 bs → AllValidRuns (scan f bs).runs
unfolding scan
scan-valid zero bs h = tt
scan-valid (suc f) bs h = go (byte_run bs) (run_sound bs h) λ s k. scan-valid f s k
  where
    go : (m : Parsed ByteRun) {lay : ByteRun → List ℕ} → Post (Took bs lay ValidRun) m
        → ((s : List ℕ) → AllBelow 256 s → AllValidRuns (scan f s).runs)
        → AllValidRuns (scanned (scan f) m).runs
    go m (at-got {s} t) again = (t.ok, again s t.rest-bytes)
    go m at-refused again = tt

valid-after : (ds es : List ByteRun) → AllValidRuns (ds ++ es) → AllValidRuns es
valid-after [] es v = v
valid-after (d ∷ ds) es v = valid-after ds es v.1

past-append : (at m : ℕ) (ds es : List ByteRun) → AllValidRuns es → m ≤ length (joined_bytes ds) → past at m (ds ++ es) ≡ past at m ds
unfolding past joined_bytes
past-append at m [] [] v h = refl
past-append at m [] (e ∷ es) v h = rw (lt-ltb m (byte_count e) (omega (arith, layout-pos e v.0)))
past-append at m (d ∷ ds) es v h =
    ap (λ (x : BytePosition). pick (ltb m (byte_count d)) (byte_at at m) x)
    (past-append (at + length (run_layout d)) (m - byte_count d) ds es v (omega (arith, length-append (run_bytes d) (joined_bytes ds), length_run d)))

-- ---- n values after k of them, of those that there are; the position after them, and why there are no more

abbrev pub seen : {P : Type 0} → ℕ → ℕ → List ℕ → P → Reason → Batch P
seen k n vs q r = pick (leb (k + n) (length vs)) (took (take n (drop k vs)) q) (missing r)

-- THE LAW OF PARTS: after n of them, the others are those of another list vs' after k'
module _ {P : Type 0} (k n m k' : ℕ) (vs vs' : List ℕ) (q r : P) (why : Reason) (f : P → Batch P)
    (same : k + n ≤ length vs → (drop (k + n) vs ≡ drop k' vs') × (k' ≤ length vs') × (f q ≡ seen k' m vs' r why)) where
  pub seen_parts : seen k (n + m) vs r why ≡ and_then (seen k n vs q why) f
  seen_parts = by (dec_lt (length vs) (k + n))
    where
      by : Dec (length vs < k + n) → seen k (n + m) vs r why ≡ and_then (seen k n vs q why) f
      by (yes h) = rw (lt-leb (k + n) (length vs) h, lt-leb (k + (n + m)) (length vs) (omega arith))
      by (no h) =
          let (d, l, e) = same (omega arith) in
          let z : length vs - (k + n) ≡ length vs' - k' = sym (length-drop (k + n) vs) ∙ ap length d ∙ length-drop k' vs' in
          rw (le-leb (k + n) (length vs) (omega arith), e) (more (dec_lt (length vs) (k + (n + m))) z d l)
        where
          more : Dec (length vs < k + (n + m)) → length vs - (k + n) ≡ length vs' - k' → drop (k + n) vs ≡ drop k' vs' → k' ≤ length vs'
              → seen k (n + m) vs r why ≡ in_front (take n (drop k vs)) (seen k' m vs' r why)
          more (yes g) z d l = rw (lt-leb (k + (n + m)) (length vs) g, lt-leb (k' + m) (length vs') (omega arith))
          more (no g) z d l =
              rw (
                le-leb (k + (n + m)) (length vs) (omega arith),
                le-leb (k' + m) (length vs') (omega arith),
                take-add n m
                    (drop k vs),
                drop-drop n k vs,
                d,
              )

-- ---- a batch by the column: the runs ds that were read, and es after them

seen-got : {P : Type 0} (k n : ℕ) (l m : List ℕ) (q q' : P) (why : Reason) → k + n ≤ length l → q ≡ q'
    → took (drop k (take (k + n) l)) q ≡ seen k n (l ++ m) q' why
seen-got k n l m q q' why h e = rw (part-of k n l m h, e, le-leb (k + n) (length (l ++ m)) (rw length-append (omega arith)))

module _ (at : ℕ) (ds es : List ByteRun) (v : AllValidRuns (ds ++ es)) (why : Reason) where
  bytes-got : (p n : ℕ) → p + n ≤ length (joined_bytes ds)
      → took (drop p (take (p + n) (joined_bytes ds))) (past at (p + n) ds)
      ≡ seen p n (joined_bytes (ds ++ es)) (past at (p + n) (ds ++ es)) why
  bytes-got p n h =
      rw (joined-append ds es)
      (seen-got p n (joined_bytes ds) (joined_bytes es) _ _ why h (sym (past-append at (p + n) ds es (valid-after ds es v) h)))

  flags-got : (k n : ℕ) → bytes_for (k + n) ≤ length (joined_bytes ds)
      → took (drop k (booleans_of (k + n) ds)) (past_flags at (k + n) ds)
      ≡ seen k n (bits (joined_bytes (ds ++ es))) (past_flags at (k + n) (ds ++ es)) why
  unfolding booleans_of
  flags-got k n h =
      rw (joined-append ds es, spread-append 2 8 (joined_bytes ds) (joined_bytes es))
      (seen-got k n (bits (joined_bytes ds)) (bits (joined_bytes es)) _ _ why (rw length-bits (omega arith))
      (rw (past-append at ((k + n) / 8) ds es (valid-after ds es v) (omega arith))))

module _ (bs : List ℕ) (v : AllValidRuns (whole_runs bs).runs) (n : ℕ) where
  bytes_read : (p : BytePosition) (x : Parsed (List ByteRun)) → Reads bs (p.bytes.bytes + n) x
      → take_bytes p n x
      ≡ seen p.bytes.bytes n (joined_bytes (whole_runs bs).runs) (past p.run.bytes (p.bytes.bytes + n) (whole_runs bs).runs)
      (whole_runs bs).why
  bytes_read p x (enough {ds} {rest} e h) = rw e (bytes-got p.run.bytes ds (whole_runs rest).runs (rw e at v) (whole_runs bs).why
      p.bytes.bytes n h)
  bytes_read p x (short e h) = rw (e, lt-leb (p.bytes.bytes + n) (length (joined_bytes (whole_runs bs).runs)) h)

  flags-read : (p : FlagPosition) (x : Parsed (List ByteRun)) → Reads bs (bytes_for (skipped p + n)) x
      → take_flags p n x ≡ seen (skipped p) n (bits (joined_bytes (whole_runs bs).runs))
      (past_flags p.run.bytes (skipped p + n) (whole_runs bs).runs) (whole_runs bs).why
  flags-read p x (enough {ds} {rest} e h) = rw e (flags-got p.run.bytes ds (whole_runs rest).runs (rw e at v) (whole_runs bs).why
      (skipped p) n h)
  flags-read p x (short e h) =
      rw (e, lt-leb (skipped p + n) (length (bits (joined_bytes (whole_runs bs).runs))) (rw length-bits (omega arith)))

module _ (s : List ℕ) (b : AllBelow 256 s) where
  pub all_valid : (at : ℕ) → AllValidRuns (whole_runs (drop at s)).runs
  all_valid at = scan-valid (length (drop at s)) (drop at s) (below-drop 256 at s b)

  pub bytes-seen : (p : BytePosition) (n : ℕ)
      → let bs = drop p.run.bytes s in
      bytes_from p n s
      ≡ seen p.bytes.bytes n (column bs) (past p.run.bytes (p.bytes.bytes + n) (whole_runs bs).runs) (whole_runs bs).why
  unfolding bytes_from column
  bytes-seen p n =
      let bs = drop p.run.bytes s in
      bytes_read bs (all_valid p.run.bytes) n p _ (reads (length bs) (p.bytes.bytes + n) bs (le_refl _))

  pub flags-seen : (p : FlagPosition) (n : ℕ)
      → let bs = drop p.run.bytes s in
      flags_from p n s ≡ seen (skipped p) n (bits (column bs)) (past_flags p.run.bytes (skipped p + n) (whole_runs bs).runs)
      (whole_runs bs).why
  unfolding flags_from booleans column
  flags-seen p n =
      let bs = drop p.run.bytes s in
      flags-read bs (all_valid p.run.bytes) n p _ (reads (length bs) (bytes_for (skipped p + n)) bs (le_refl _))
