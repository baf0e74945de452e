-- What the flag reader gives, by the positions that it finds: from a later position on, all is as from the call's. Assumes nothing.
use mathlib.Core.Path.{◌≡◌, sym, ap, ◌∙◌}
use Prim.Native.Nat.{ℕ, ◌+◌, ◌-◌, ◌*◌, ◌<◌, ◌≤◌, max}
use native.Mathlib.Omega.{arith}
use mathlib.Core.List.{List}
use Rattle.std.specs.Prelude.{Ok, Err}
use lib.ListN.{length, drop, length-drop}
use Rattle.format.specs.Digits.{AllBelow}
use Rattle.format.specs.Answers.{cutting, refusing}
use Rattle.format.specs.Booleans.{joined_bytes, bits}
use Rattle.format.proofs.Booleans.{length-bits}
use Rattle.boolean_rle.specs.declared.positions.FlagPosition.{FlagPosition}
use Rattle.boolean_rle.specs.declared.Cut.{Cut}
use Rattle.boolean_rle.specs.Column.{runs_at, column}
use Rattle.boolean_rle.specs.Positions.{skipped, past_flags}
use Rattle.boolean_rle.specs.Batches.{FlagBatch, read_flags, FlagsGiven}
use Rattle.boolean_rle.specs.Found.{flags_ahead, Wrote, flag_end, Ready}
use Rattle.boolean_rle.proofs.FlagsOnward.{FlagsOnward, flags-onward}
use Rattle.boolean_rle.proofs.Batches.{flags-seen}
use Rattle.boolean_rle.proofs.Ends.{flag-cut, flag_at_lem}
use native.Mathlib.Nat.{add-zero, le_refl}
use Rattle.boolean_rle.specs.Walked.{Walked, cut_before, cut_within, no_room, whole}
use Rattle.boolean_rle.proofs.Placed.{scan-cut, cut-is, placed-short, placed-8, placed-all, laid, leb-shift}

-- from a position q that was found, k flags after the byte `at`
module _ (s : List ℕ) (b : AllBelow 256 s) (at k : ℕ) (q : FlagPosition) (e : flag_end s at k ≡ Ok q) where
  onward : FlagsOnward s at k q
  unfolding column
  onward = let (h, y) = flag_at_lem s at k q e in rw y at (flags-onward s b at k h)

  pub flags-on : (x : ℕ) → flag_end s at (k + x) ≡ flag_end s q.run.bytes (skipped q + x)
  unfolding column
  flags-on x =
      let l = 8 * length (joined_bytes (runs_at s at).runs) in
      let l' = 8 * length (joined_bytes (runs_at s q.run.bytes).runs) in
      let c = column (drop at s) in
      let c' = column (drop q.run.bytes s) in
      let f : l - k ≡ l' - skipped q =
      ap (λ (y : ℕ). y - k) (sym (length-bits c)) ∙ sym (length-drop k (bits c)) ∙ ap length onward.same_flags
      ∙ length-drop (skipped q) (bits c') ∙ ap (λ (y : ℕ). y - skipped q) (length-bits c') in
      let g : skipped q ≤ l' = rw length-bits at onward.there in
      rw (leb-shift k l (skipped q) l' x (flag_at_lem s at k q e).0 g f, onward.past-on x, onward.same-why)

  pub flags-same : drop k (bits (column (drop at s))) ≡ flags_ahead s q
  flags-same = onward.same_flags

  pub flags-ready : (n : ℕ) (q' : FlagPosition) → flag_end s q.run.bytes (skipped q + n) ≡ Ok q' → Ready s q n
  unfolding column
  flags-ready n q' g =
      record { in_byte = onward.in-byte; in_run = onward.in-run; there = (flag_at_lem s q.run.bytes (skipped q + n) q' g).0 }

module _ (s : List ℕ) (b : AllBelow 256 s) (p : FlagPosition) (n : ℕ) (out : List ℕ) where
  pub flags-cut : (k : ℕ) (f : Cut) → k ≤ skipped p + n → flag_end s p.run.bytes k ≡ Err f
      → FlagsGiven s p n out out (Err (cutting f.number p.run.bytes (max p.run.bytes f.field)))
  unfolding column
  flags-cut k f l e =
      let at = p.run.bytes in
      let (h, y) = flag-cut s at k f e in
      let vs = bits (column (drop at s)) in
      let g = placed-short (skipped p) n (length out) vs (past_flags at (skipped p + n) (runs_at s at).runs) (runs_at s at).why
      (rw length-bits (omega arith)) in
      let c = cut-is (length s) at (runs_at s at).why f (scan-cut (length (drop at s)) (drop at s)) y in
      record { answer = rw (flags-seen s b p n, g, c); places = rw (flags-seen s b p n, g) }

  module _ (q : FlagPosition) (e : flag_end s p.run.bytes (skipped p + n) ≡ Ok q) where
    pub flags-8 : length out < n → FlagsGiven s p n out out (Err (refusing 8 p.run.bytes))
    unfolding column
    flags-8 l =
        let at = p.run.bytes in
        let (h, y) = flag_at_lem s at (skipped p + n) q e in
        let vs = bits (column (drop at s)) in
        let g = placed-8 (skipped p) n (length out) vs (past_flags at (skipped p + n) (runs_at s at).runs) (runs_at s at).why
        (rw length-bits h) l in
        record { answer = rw (flags-seen s b p n, g); places = rw (flags-seen s b p n, g) }

    pub flags-all : (out' : List ℕ) → n ≤ length out → Wrote 0 n (flags_ahead s p) out out'
        → FlagsGiven s p n out out' (read_flags n q)
    unfolding column
    flags-all out' l w =
        let at = p.run.bytes in
        let (h, y) = flag_at_lem s at (skipped p + n) q e in
        let vs = bits (column (drop at s)) in
        let g = placed-all (skipped p) n (length out) vs (past_flags at (skipped p + n) (runs_at s at).runs) (runs_at s at).why
        (rw length-bits h) l in
        record { answer = rw (flags-seen s b p n, g, y); places = rw (flags-seen s b p n, g) (laid n _ out out' w) }

  -- what the reader of a batch comes to is what is promised
  pub flags-given : (out' : List ℕ) (r : FlagBatch) → Walked (λ p n. flag_end s p.run.bytes (skipped p + n)) (flags_ahead s) p.run.bytes p n out out' r
      → FlagsGiven s p n out out' r
  flags-given out' r (cut_before f e o a) = rw (o, a) (flags-cut (skipped p + 0) f (omega arith) e)
  flags-given out' r (cut_within q f e g o a) =
      let on = flags-on s b p.run.bytes (skipped p) q (rw add-zero at e) n in
      rw (o, a) (flags-cut (skipped p + n) f (le_refl _) (on ∙ g))
  flags-given out' r (no_room q q' e g l o a) =
      let on = flags-on s b p.run.bytes (skipped p) q (rw add-zero at e) n in
      rw (o, a) (flags-8 q' (on ∙ g) l)
  flags-given out' r (whole q q' e g l w a) =
      let h = rw add-zero at e in
      let on = flags-on s b p.run.bytes (skipped p) q h n in
      rw a (flags-all q' (on ∙ g) out' l (rw (flags-same s b p.run.bytes (skipped p) q h) w))
