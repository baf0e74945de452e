-- The position after some bytes is in the run at hand, or as far after the next; so the tests of the walk over the controls find it.
-- Assumes nothing.
use mathlib.Core.Path.{◌≡◌, refl, sym, ap, ◌∙◌}
use Prim.Native.Nat.{ℕ, ◌+◌, ◌-◌, ◌*◌, ◌/◌, ◌%◌, ◌<◌, ◌≤◌}
use native.Mathlib.Omega.{arith}
use native.Mathlib.Decide.{dec_lt}
use mathlib.Core.Bool.{Bool, true, false}
use mathlib.Core.List.{List, [], ◌∷◌, ◌++◌}
use Rattle.std.specs.Prelude.{Ok, Err}
use lib.ListN.{length, drop, length-append, length-drop}
use lib.Dec.{leb}
use borrow.Author.Tests.{lt-ltb, le-ltb, le-leb, lt-leb, leb-true, leb-false}
use Rattle.format.specs.Digits.{AllBelow}
use Rattle.format.specs.Fields.{pick}
use Rattle.format.specs.Booleans.{ByteRun, AllValidRuns, run_bytes, byte_count, joined_bytes, byte_run}
use Rattle.format.proofs.Booleans.{length_run}
use Rattle.format.proofs.Tests.{never}
use Rattle.boolean_rle.specs.declared.ByteRun as code
use Rattle.boolean_rle.specs.declared.positions.BytePosition.{BytePosition}
use Rattle.boolean_rle.specs.declared.positions.FlagPosition.{FlagPosition}
use Rattle.boolean_rle.specs.declared.Cut.{Cut}
use Rattle.boolean_rle.specs.Column.{run_then, runs_at}
use Rattle.boolean_rle.specs.Positions.{byte_at, flag_at, past, past_flags, Plain}
use Rattle.boolean_rle.specs.Found.{cut_of, found_in, byte_end, flag_end}
use Rattle.boolean_rle.proofs.FirstPass.{Here, layout-pos}
use Rattle.boolean_rle.proofs.Column.{all-got, none_found}
use Rattle.boolean_rle.proofs.Onward.{onward}
use Rattle.boolean_rle.proofs.Batches.{all_valid}

-- ---- bytes

-- two numbers that are counted down together: the second by what the first leaves of the count
pub both-less : (left rest count unused : ℕ) → unused ≡ count - left → unused ≤ rest → left + rest - count ≡ left - count + (rest - unused)
both-less left rest count unused e h = omega arith

leb-less : (m c l : ℕ) → c ≤ m → leb m (c + l) ≡ leb (m - c) l
leb-less m c l h = by (dec_lt (c + l) m)
  where
    by : Dec (c + l < m) → leb m (c + l) ≡ leb (m - c) l
    by (yes t) = rw (lt-leb m (c + l) t, lt-leb (m - c) l (omega arith))
    by (no t) = rw (le-leb m (c + l) (omega arith), le-leb (m - c) l (omega arith))

past-zero : (at : ℕ) (ds : List ByteRun) → AllValidRuns ds → past at 0 ds ≡ byte_at at 0
unfolding past
past-zero at [] v = refl
past-zero at (d ∷ ds) v = rw (lt-ltb 0 (byte_count d) (omega (arith, layout-pos d v.0)))

module _ (s : List ℕ) (p : ℕ) where
  pub end_none : AllBelow 256 s → byte_end s p 0 ≡ Ok (byte_at p 0)
  end_none b = rw (le-leb 0 (length (joined_bytes (runs_at s p).runs)) (omega arith), past-zero p (runs_at s p).runs (all_valid s b p))

  module _ (e : code.ByteRun) (d : ByteRun) (h : Here s p e d) (m : ℕ) where
    -- the runs from p on begin with the one that was found
    pub runs_here : runs_at s p ≡ run_then d (runs_at s (p + e.size))
    runs_here = all-got (drop p s) d (drop (p + e.size) s) h.is-run

    pub end-inside : m < e.count → byte_end s p m ≡ Ok (byte_at p m)
    unfolding past joined_bytes
    end-inside l =
        let js = joined_bytes (runs_at s (p + e.size)).runs in
        rw (
          runs_here,
          le-leb m (length (run_bytes d ++ js)) (omega (
            arith,
            length-append
                (run_bytes d) js,
            length_run d,
            h.count-is,
          )),
          lt-ltb m (byte_count d) (rw h.count-is l),
        )

    pub end-run : e.count ≤ m → byte_end s p m ≡ byte_end s (p + e.size) (m - e.count)
    unfolding past joined_bytes
    end-run l =
        let js = joined_bytes (runs_at s (p + e.size)).runs in
        let n : length (run_bytes d ++ js) ≡ e.count + length js = length-append (run_bytes d) js ∙ rw (length_run d, h.count-is) in
        rw (runs_here, n, leb-less m e.count (length js) l, le-ltb m (byte_count d) (rw h.count-is l), h.count-is, h.size_is)

  pub end-cut : (m : ℕ) (q : Cut) → 0 < m → found_in (length s) (byte_run (drop p s)) ≡ Err q → byte_end s p m ≡ Err q
  unfolding joined_bytes
  end-cut m q l f =
      let (r, e, g) = none_found (length s) (drop p s) q f in
      rw (e, lt-leb m 0 l) (ap Err g)

-- ---- flags: k of them are m whole bytes and c bits

picked_first : {A : Type 0} (b : Bool) (x y z : A) → (y ≡ z → ⊥) → pick b x y ≡ z → (b ≡ true) × (x ≡ z)
picked_first true x y z n e = (refl, e)
picked_first false x y z n e = absurd (n e)

picked-second : {A : Type 0} (b : Bool) (x y z : A) → (x ≡ z → ⊥) → pick b x y ≡ z → (b ≡ false) × (y ≡ z)
picked-second true x y z n e = absurd (n e)
picked-second false x y z n e = (refl, e)

module _ (s : List ℕ) (at m : ℕ) where
  pub byte_cut : (q : Cut) → byte_end s at m ≡ Err q → (length (joined_bytes (runs_at s at).runs) < m) × (cut_of (length s) (runs_at s at).why ≡ q)
  byte_cut q e =
      let (t, g) = picked-second (leb m (length (joined_bytes (runs_at s at).runs))) _ _ (Err q)
      (λ u. never (cc)) e in
      (leb-false m (length (joined_bytes (runs_at s at).runs)) t, cc)

  pub byte-at : (q : BytePosition) → byte_end s at m ≡ Ok q → (m ≤ length (joined_bytes (runs_at s at).runs))
      × (past at m (runs_at s at).runs ≡ q)
  byte-at q e =
      let (t, g) = picked_first (leb m (length (joined_bytes (runs_at s at).runs))) _ _ (Ok q)
      (λ u. never (cc)) e in
      (leb-true m (length (joined_bytes (runs_at s at).runs)) t, cc)

  pub flag-cut : (q : Cut) → flag_end s at m ≡ Err q → (8 * length (joined_bytes (runs_at s at).runs) < m) × (cut_of (length s) (runs_at s at).why ≡ q)
  flag-cut q e =
      let (t, g) = picked-second (leb m (8 * length (joined_bytes (runs_at s at).runs))) _ _ (Err q)
      (λ u. never (cc)) e in
      (leb-false m (8 * length (joined_bytes (runs_at s at).runs)) t, cc)

  pub flag_at_lem : (q : FlagPosition) → flag_end s at m ≡ Ok q → (m ≤ 8 * length (joined_bytes (runs_at s at).runs))
      × (past_flags at m (runs_at s at).runs ≡ q)
  flag_at_lem q e =
      let (t, g) = picked_first (leb m (8 * length (joined_bytes (runs_at s at).runs))) _ _ (Ok q)
      (λ u. never (cc)) e in
      (leb-true m (8 * length (joined_bytes (runs_at s at).runs)) t, cc)

  pub flags-cut : (k : ℕ) (q : Cut) → 8 * m ≤ k → byte_end s at m ≡ Err q → flag_end s at k ≡ Err q
  flags-cut k q h e =
      let (l, y) = byte_cut q e in
      rw (lt-leb k (8 * length (joined_bytes (runs_at s at).runs)) (omega arith)) (ap Err y)

  module _ (q : BytePosition) (e : byte_end s at m ≡ Ok q) (k c : ℕ) (i : k ≡ 8 * m + c) (j : c < 8) where
    flags-at : k ≤ 8 * length (joined_bytes (runs_at s at).runs) → flag_end s at k ≡ Ok (flag_at q c)
    flags-at h =
        let y : k / 8 ≡ m = omega arith in
        let z : k % 8 ≡ c = omega arith in
        rw (le-leb k (8 * length (joined_bytes (runs_at s at).runs)) h, y, z, (byte-at q e).1)

    pub flags-even : c ≡ 0 → flag_end s at k ≡ Ok (flag_at q c)
    flags-even h = flags-at (omega (arith, (byte-at q e).0))

    -- as many bytes are left there as here
    left : AllBelow 256 s
        → (length (joined_bytes (runs_at s at).runs) - m ≡ length (joined_bytes (runs_at s q.run.bytes).runs) - q.bytes.bytes)
        × Plain q.bytes.bytes (runs_at s q.run.bytes).runs × ((runs_at s at).why ≡ (runs_at s q.run.bytes).why)
    left b =
        let (o, w) = rw (byte-at q e).1 at (onward s b at m (byte-at q e).0) in (
          sym (length-drop m (joined_bytes (runs_at s at).runs)) ∙ ap length o.same_bytes ∙ length-drop q.bytes.bytes
              (joined_bytes (runs_at s q.run.bytes).runs),
          o.inside,
          w,
        )

    pub flags-run : AllBelow 256 s → (r : code.ByteRun) (d : ByteRun) → Here s q.run.bytes r d → flag_end s at k ≡ Ok (flag_at q c)
    unfolding joined_bytes
    flags-run b r d h =
        let (y, z, w) = left b in
        let u = runs_here s q.run.bytes r d h m in
        let js = joined_bytes (runs_at s (q.run.bytes + r.size)).runs in
        flags-at (omega (arith, rw u at z, rw u at y, length-append (run_bytes d) js, length_run d, (byte-at q e).0))

    pub flags-missing : AllBelow 256 s → (f : Cut) → (c ≡ 0 → ⊥) → found_in (length s) (byte_run (drop q.run.bytes s)) ≡ Err f
        → flag_end s at k ≡ Err f
    unfolding joined_bytes
    flags-missing b f h g =
        let (y, z, w) = left b in
        let (r, u, v) = none_found (length s) (drop q.run.bytes s) f g in
        let x : (runs_at s at).why ≡ r = w ∙ rw u in
        rw (lt-leb k (8 * length (joined_bytes (runs_at s at).runs)) (omega (arith, rw u at z, rw u at y, (byte-at q e).0)), x) (ap Err v)
