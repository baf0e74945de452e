-- What the byte reader gives, by the positions that it finds: from a later position on, all is as from the call's. Assumes nothing.
use mathlib.Core.Path.{◌≡◌, sym, ap, ◌∙◌}
use Prim.Native.Nat.{ℕ, ◌+◌, ◌-◌, ◌<◌, ◌≤◌, max}
use native.Mathlib.Omega.{arith}
use mathlib.Core.List.{List}
use Rattle.std.specs.Prelude.{Ok, Err}
use lib.ListN.{length, drop, length-drop}
use Rattle.format.specs.Digits.{AllBelow}
use Rattle.format.specs.Answers.{cutting, refusing}
use Rattle.format.specs.Booleans.{joined_bytes}
use Rattle.boolean_rle.specs.declared.positions.BytePosition.{BytePosition}
use Rattle.boolean_rle.specs.declared.Cut.{Cut}
use Rattle.boolean_rle.specs.Column.{runs_at, column}
use Rattle.boolean_rle.specs.Positions.{past}
use Rattle.boolean_rle.specs.Batches.{ByteBatch, read_bytes, BytesGiven}
use Rattle.boolean_rle.specs.Found.{bytes_ahead, Wrote, byte_end}
use Rattle.boolean_rle.proofs.Onward.{OnwardIn, onward}
use Rattle.boolean_rle.proofs.FlagsOnward.{plain-le}
use Rattle.boolean_rle.proofs.Batches.{bytes-seen}
use Rattle.boolean_rle.proofs.Ends.{byte_cut, byte-at}
use native.Mathlib.Nat.{add-zero, le_refl}
use Rattle.boolean_rle.specs.Walked.{Walked, cut_before, cut_within, no_room, whole}
use Rattle.boolean_rle.proofs.Placed.{scan-cut, cut-is, placed-short, placed-8, placed-all, laid, leb-shift}

-- from a position q that was found, k bytes after the byte `at`
module _ (s : List ℕ) (b : AllBelow 256 s) (at k : ℕ) (q : BytePosition) (e : byte_end s at k ≡ Ok q) where
  on : OnwardIn s at k q
  on = let (h, y) = byte-at s at k q e in rw y at (onward s b at k h)

  pub bytes_same : drop k (column (drop at s)) ≡ bytes_ahead s q
  unfolding column
  bytes_same = on.0.same_bytes

  pub bytes_on : (x : ℕ) → byte_end s at (k + x) ≡ byte_end s q.run.bytes (q.bytes.bytes + x)
  unfolding column
  bytes_on x =
      let js = joined_bytes (runs_at s at).runs in
      let js' = joined_bytes (runs_at s q.run.bytes).runs in
      let left : length js - k ≡ length js' - q.bytes.bytes =
      sym (length-drop k js) ∙ ap length bytes_same ∙ length-drop q.bytes.bytes js' in
      let inside = plain-le q.bytes.bytes (runs_at s q.run.bytes).runs on.0.inside in
      rw (leb-shift k (length js) q.bytes.bytes (length js') x (byte-at s at k q e).0 inside left, on.0.past-on x, on.1)

module _ (s : List ℕ) (b : AllBelow 256 s) (p : BytePosition) (n : ℕ) (out : List ℕ) where
  pub bytes_cut : (k : ℕ) (f : Cut) → k ≤ p.bytes.bytes + n → byte_end s p.run.bytes k ≡ Err f
      → BytesGiven s p n out out (Err (cutting f.number p.run.bytes (max p.run.bytes f.field)))
  unfolding column
  bytes_cut k f l e =
      let at = p.run.bytes in
      let (h, y) = byte_cut s at k f e in
      let next = past at (p.bytes.bytes + n) (runs_at s at).runs in
      let g = placed-short p.bytes.bytes n (length out) (column (drop at s)) next (runs_at s at).why (omega arith) in
      let c = cut-is (length s) at (runs_at s at).why f (scan-cut (length (drop at s)) (drop at s)) y in
      record { answer = rw (bytes-seen s b p n, g, c); places = rw (bytes-seen s b p n, g) }

  module _ (q : BytePosition) (e : byte_end s p.run.bytes (p.bytes.bytes + n) ≡ Ok q) where
    pub bytes_8 : length out < n → BytesGiven s p n out out (Err (refusing 8 p.run.bytes))
    unfolding column
    bytes_8 l =
        let at = p.run.bytes in
        let (h, y) = byte-at s at (p.bytes.bytes + n) q e in
        let next = past at (p.bytes.bytes + n) (runs_at s at).runs in
        let g = placed-8 p.bytes.bytes n (length out) (column (drop at s)) next (runs_at s at).why h l in
        record { answer = rw (bytes-seen s b p n, g); places = rw (bytes-seen s b p n, g) }

    pub bytes-room : n ≤ length (bytes_ahead s p)
    unfolding column
    bytes-room = rw (length-drop p.bytes.bytes) (omega (arith, (byte-at s p.run.bytes (p.bytes.bytes + n) q e).0))

    pub bytes-all : (out' : List ℕ) → n ≤ length out → Wrote 0 n (bytes_ahead s p) out out'
        → BytesGiven s p n out out' (read_bytes n q)
    unfolding column
    bytes-all out' l w =
        let at = p.run.bytes in
        let (h, y) = byte-at s at (p.bytes.bytes + n) q e in
        let next = past at (p.bytes.bytes + n) (runs_at s at).runs in
        let g = placed-all p.bytes.bytes n (length out) (column (drop at s)) next (runs_at s at).why h l in
        record { answer = rw (bytes-seen s b p n, g, y); places = rw (bytes-seen s b p n, g) (laid n _ out out' w) }

  -- what the reader of a batch comes to is what is promised
  pub bytes-given : (out' : List ℕ) (r : ByteBatch) → Walked (λ p n. byte_end s p.run.bytes (p.bytes.bytes + n)) (bytes_ahead s) p.run.bytes p n out out' r
      → BytesGiven s p n out out' r
  bytes-given out' r (cut_before f e o a) = rw (o, a) (bytes_cut (p.bytes.bytes + 0) f (omega arith) e)
  bytes-given out' r (cut_within q f e g o a) =
      let on = bytes_on s b p.run.bytes p.bytes.bytes q (rw add-zero at e) n in
      rw (o, a) (bytes_cut (p.bytes.bytes + n) f (le_refl _) (on ∙ g))
  bytes-given out' r (no_room q q' e g l o a) =
      let on = bytes_on s b p.run.bytes p.bytes.bytes q (rw add-zero at e) n in
      rw (o, a) (bytes_8 q' (on ∙ g) l)
  bytes-given out' r (whole q q' e g l w a) =
      let h = rw add-zero at e in
      let on = bytes_on s b p.run.bytes p.bytes.bytes q h n in
      rw a (bytes-all q' (on ∙ g) out' l (rw (bytes_same s b p.run.bytes p.bytes.bytes q h) w))
