-- From one position to a later one: the same runs follow, the bytes after the skipped ones are the same, and the positions after those.
-- Assumes nothing.
use mathlib.Core.Path.{◌≡◌, refl, sym, ap, ◌∙◌}
use Prim.Native.Nat.{ℕ, zero, suc, ◌+◌, ◌-◌, ◌<◌, ◌≤◌}
use native.Mathlib.Omega.{arith}
use native.Mathlib.Decide.{dec_lt}
use mathlib.Core.List.{List, ◌∷◌, ◌++◌}
use lib.ListN.{length, drop, length-append, length-drop}
use lib.Seq.{drop-drop, drop_at, drop-append-add}
use borrow.Author.Tests.{lt-ltb, le-ltb}
use Rattle.format.specs.Digits.{AllBelow}
use Rattle.format.specs.Parse.{Reason, Parsed, got, refused}
use Rattle.format.specs.Booleans.{ByteRun, ValidRun, run_layout, run_bytes, byte_count, joined_bytes, byte_run}
use Rattle.format.proofs.Posts.{Post, at-got, at-refused, Took}
use Rattle.format.proofs.Below.{below-drop}
use Rattle.format.proofs.ByteRuns.{run_sound}
use Rattle.format.proofs.Booleans.{length_run}
use Rattle.boolean_rle.specs.declared.positions.BytePosition.{BytePosition}
use Rattle.boolean_rle.specs.Column.{no_runs, run_then, whole_runs}
use Rattle.boolean_rle.specs.Positions.{byte_at, past, Plain}
use Rattle.boolean_rle.proofs.FirstPass.{layout-pos}
use Rattle.boolean_rle.proofs.Column.{all-got, all-refused}

-- ---- what stands at a place: a run, with those after it, or none

-- the place after a run
abbrev pub after : ℕ → ByteRun → ℕ
after at d = at + length (run_layout d)

pub data Next (s : List ℕ) (at : ℕ) : Parsed ByteRun → Type 0 where
  run : {d : ByteRun} → ValidRun d → length s - after at d < length s - at
      → whole_runs (drop at s) ≡ run_then d (whole_runs (drop (after at d) s))
      → Next s at (got d (drop (after at d) s))
  none : {r : Reason} → whole_runs (drop at s) ≡ no_runs r → Next s at (refused r)

module _ (s : List ℕ) (b : AllBelow 256 s) where
  pub next : (at : ℕ) → Next s at (byte_run (drop at s))
  next at = go (byte_run (drop at s)) refl (run_sound (drop at s) (below-drop 256 at s b))
    where
      go : (m : Parsed ByteRun) → byte_run (drop at s) ≡ m → Post (Took (drop at s) run_layout ValidRun) m → Next s at m
      go m e (at-got {a = d} {s = t} k) =
          let z : drop (after at d) s ≡ t =
          sym (drop-drop (length (run_layout d)) at s) ∙ ap (λ (x : List ℕ). drop (length (run_layout d)) x) k.split ∙ drop_at
          (run_layout d) t _ refl in
          let l : length (drop at s) ≡ length (run_layout d) + length t = ap length k.split ∙ length-append (run_layout d) t in
          rw (← z) (run {d = d} k.ok (omega (arith, layout-pos d k.ok, length-drop at s)) (rw z (all-got (drop at s) d t e)))
      go m e (at-refused {r}) = none {r = r} (all-refused (drop at s) r e)

-- ---- the position m bytes on, where the runs ds begin: q, where the runs es begin

pub record Onward (at m : ℕ) (ds : List ByteRun) (q : BytePosition) (es : List ByteRun) : Type 0 where
  pub same_bytes : drop m (joined_bytes ds) ≡ drop q.bytes.bytes (joined_bytes es)
  pub inside : Plain q.bytes.bytes es
  pub past-on : (x : ℕ) → past at (m + x) ds ≡ past q.run.bytes (q.bytes.bytes + x) es

onward-here : (at m : ℕ) (ds : List ByteRun) → Plain m ds → Onward at m ds (byte_at at m) ds
onward-here at m ds h = record { same_bytes = refl; inside = h; past-on = λ x. refl }

onward-run : (at m : ℕ) (d : ByteRun) (ds : List ByteRun) (q : BytePosition) (es : List ByteRun) → byte_count d ≤ m
    → Onward (after at d) (m - byte_count d) ds q es → Onward at m (d ∷ ds) q es
unfolding joined_bytes past
onward-run at m d ds q es h o =
    let z : m ≡ length (run_bytes d) + (m - byte_count d) = omega (arith, length_run d) in
    record {
      same_bytes = ap (λ (x : ℕ). drop x (run_bytes d ++ joined_bytes ds)) z ∙ drop-append-add (run_bytes d) (joined_bytes ds)
          (m - byte_count d) ∙ o.same_bytes;
      inside = o.inside;
      past-on = λ x.
          let y : m + x - byte_count d ≡ m - byte_count d + x = omega arith in
          rw (le-ltb (m + x) (byte_count d) (omega arith), y) (o.past-on x);
    }

-- in an input s: and the column ends there for the same reason
abbrev pub OnwardIn : List ℕ → ℕ → ℕ → BytePosition → Type 0
OnwardIn s at m q =
    Onward at m (whole_runs (drop at s)).runs q (whole_runs (drop q.run.bytes s)).runs
    × ((whole_runs (drop at s)).why ≡ (whole_runs (drop q.run.bytes s)).why)

-- where the column ends, no byte is skipped
at-end : (s : List ℕ) (at m : ℕ) (q : BytePosition) (r : Reason) → whole_runs (drop at s) ≡ no_runs r
    → m ≤ length (joined_bytes (whole_runs (drop at s)).runs)
    → q ≡ past at m (whole_runs (drop at s)).runs → OnwardIn s at m q
unfolding joined_bytes past
at-end s at m q r a h e =
    let y : m ≡ 0 = omega (arith, rw a at h) in
    let z : q ≡ byte_at at m = e ∙ rw a in
    rw z (onward-here at m (whole_runs (drop at s)).runs (rw a y), refl)

module _ (s : List ℕ) (b : AllBelow 256 s) where
  onward-in : (f at m : ℕ) (q : BytePosition) → length s - at ≤ f → m ≤ length (joined_bytes (whole_runs (drop at s)).runs)
      → q ≡ past at m (whole_runs (drop at s)).runs
      → OnwardIn s at m q
  unfolding joined_bytes past
  onward-in zero at m q l h e = end_of (byte_run (drop at s)) (next s b at)
    where
      end_of : (x : Parsed ByteRun) → Next s at x → OnwardIn s at m q
      end_of x (none {r} a) = at-end s at m q r a h e
      end_of x (run v k a) = absurd (omega arith)
  onward-in (suc f) at m q l h e = go (byte_run (drop at s)) (next s b at) λ d k. onward-in f (after at d) (m - byte_count d) q (omega arith)
    where
      go : (x : Parsed ByteRun) → Next s at x
          → ((d : ByteRun) → length s - after at d < length s - at → m - byte_count d ≤ length
          (joined_bytes (whole_runs (drop (after at d) s)).runs)
          → q ≡ past (after at d) (m - byte_count d) (whole_runs (drop (after at d) s)).runs → OnwardIn s (after at d) (m - byte_count d) q)
          → OnwardIn s at m q
      go x (none {r} a) again = at-end s at m q r a h e
      go x (run {d} v k a) again = by (dec_lt m (byte_count d))
        where
          by : Dec (m < byte_count d) → OnwardIn s at m q
          by (yes t) =
              let z : q ≡ byte_at at m = e ∙ rw (a, lt-ltb m (byte_count d) t) in
              rw z (onward-here at m (whole_runs (drop at s)).runs (rw a t), refl)
          by (no t) =
              let es = (whole_runs (drop (after at d) s)).runs in
              let i = again d k (omega (arith, rw a at h, length-append (run_bytes d) (joined_bytes es), length_run d))
              (e ∙ rw (a, le-ltb m (byte_count d) (omega arith))) in
              rw a (onward-run at m d es q (whole_runs (drop q.run.bytes s)).runs (omega arith) i.0, i.1)

  pub onward : (at m : ℕ) → m ≤ length (joined_bytes (whole_runs (drop at s)).runs)
      → OnwardIn s at m (past at m (whole_runs (drop at s)).runs)
  onward at m h = onward-in (length s - at) at m _ (omega arith) h refl
