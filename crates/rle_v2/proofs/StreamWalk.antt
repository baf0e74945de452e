-- The turns of the walks over a stream: the runs so far are counted, and what is left is read in the places that are left.
-- Assumes nothing.
use Rattle.std.specs.Prelude.{Some, None}
use mathlib.Core.Path.{◌≡◌, refl, sym, ap, ◌∙◌}
use Prim.Native.Nat.{ℕ, suc, ◌+◌, ◌-◌, ◌<◌, ◌≤◌}
use native.Mathlib.Nat.{sub-zero, le_refl}
use native.Mathlib.Omega.{arith}
use mathlib.Core.List.{List, [], ◌∷◌, ◌++◌}
use lib.ListN.{length, drop, length-append, length-drop}
use Rattle.format.specs.Runs.{Description, layout, joined}
use Rattle.format.specs.Streams.{Reading, whole, broken, after, runs_from, read_all, total_rows}
use Rattle.format.specs.Answers.{LastRun, read_whole, broke_at}
use Rattle.format.specs.Promises.{last_of, stream_answer}
use Rattle.format.specs.declared.Refusal.{Refusal}
use Rattle.format.specs.declared.Run.{Run}
use Rattle.format.proofs.Streams.{after_all, after-whole, after-broken, stops-empty, stops-refused, sub-sub, last_snoc}
use Rattle.format.proofs.Joined.{joined_snoc, total-snoc}
use Rattle.rle_v2.proofs.OneRun.{OneRun, NoRun, fits}

-- ---- the loop: one run more

pub after-snoc : (ds : List Description) (d : Description) (r : Reading) → after_all (ds ++ (d ∷ [])) r ≡ after_all ds (after d r)
after-snoc [] d r = refl
after-snoc (x ∷ ds) d r = ap (after x) (after-snoc ds d r)

abbrev reading : List ℕ → ℕ → ℕ → Reading
reading s from n = read_all n (drop from s)

-- the runs ds are counted: k rows, and the bytes from `from` to p; `last` is the last of them
pub record Counted (s : List ℕ) (from n p k : ℕ) (last : LastRun) : Type 0 where
  pub ds : List Description
  pub fuel : ℕ
  pub enough : length s - p ≤ fuel
  pub so_far : reading s from n ≡ after_all ds (runs_from fuel (n - k) (drop p s))
  pub rows : k ≡ total_rows ds
  pub bytes : p ≡ from + length (joined ds)
  pub last-is : last ≡ last_of ds
  pub fits : k ≤ n

unfoldable pub counted-first : (s : List ℕ) (from n : ℕ) → Counted s from n from 0 None
unfolding read_all joined total_rows
counted-first s from n = record {
  ds = [];
  fuel = length (drop from s);
  enough = rw length-drop (le_refl _);
  so_far = rw sub-zero;
  rows = refl;
  bytes = omega arith;
  last-is = refl;
  fits = omega arith;
}

module _ {s : List ℕ} {from n p k : ℕ} {last : LastRun} (w : Counted s from n p k last) where
  module _ {r : Run} (h : p < length s) (o : OneRun s p (n - k) r) where
    pub one_more : (f : ℕ) → w.fuel ≡ suc f
        → runs_from w.fuel (n - k) (drop p s) ≡ after o.run (runs_from f (n - (k + r.rows.rows)) (drop (p + r.consumed.bytes) s))
    unfolding runs_from
    one_more f e = rw (e, o.read, ← o.rows_are, sub-sub n k r.rows.rows)

    unfoldable pub counted-run : Counted s from n (p + r.consumed.bytes) (k + r.rows.rows) (Some r)
    counted-run =
        let f : ℕ = w.fuel - 1 in
        let e : w.fuel ≡ suc f = omega (arith, w.enough, h) in
        let d = o.run in
        record {
          ds = w.ds ++ (d ∷ []);
          fuel = f;
          enough = omega (arith, w.enough, o.some_bytes);
          so_far = w.so_far ∙ ap (after_all w.ds) (one_more f e) ∙ sym (after-snoc w.ds d _);
          rows = rw (total-snoc w.ds d) (omega (arith, w.rows, o.rows_are));
          bytes = rw (joined_snoc w.ds d, length-append (joined w.ds) (layout d)) (omega (arith, w.bytes, o.bytes-are));
          last-is = ap Some o.run_is ∙ sym (last_snoc None w.ds d);
          fits = omega (arith, fits (n - k) o, w.fits);
        }

  -- the bytes end after a whole run, or there are none
  pub is_whole : drop p s ≡ [] → reading s from n ≡ whole w.ds
  is_whole z = w.so_far ∙ rw z (ap (after_all w.ds) (stops-empty (n - k) w.fuel (omega arith)) ∙ after-whole w.ds)

  pub counted-whole : drop p s ≡ [] → read_whole k (p - from) last ≡ stream_answer from (reading s from n)
  counted-whole z =
      let b : p - from ≡ length (joined w.ds) = omega (arith, w.bytes) in
      rw (is_whole z, b, w.rows, w.last-is)

  -- the first refusal
  module _ {f : Refusal} (q : NoRun s p (n - k) f) where
    pub is-broken : reading s from n ≡ broken w.ds q.reason (drop p s)
    is-broken =
        w.so_far
        ∙ ap (after_all w.ds) (stops-refused (n - k) (drop p s) q.reason q.read w.fuel (rw length-drop w.enough))
        ∙ after-broken w.ds q.reason (drop p s)

    pub counted-refused : broke_at f k (p - from) last ≡ stream_answer from (reading s from n)
    counted-refused =
        let b : p - from ≡ length (joined w.ds) = omega (arith, w.bytes) in
        rw (is-broken, q.refusal_is, b, w.rows, w.last-is, ← w.bytes, length-drop)
