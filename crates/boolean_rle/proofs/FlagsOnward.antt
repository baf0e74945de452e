-- From one position of flags to a later one: the flags after the skipped ones are the same, and the positions after those. Assumes nothing.
use mathlib.Core.Path.{◌≡◌, refl, sym, ap, ◌∙◌}
use Prim.Native.Nat.{ℕ, zero, suc, ◌+◌, ◌-◌, ◌*◌, ◌/◌, ◌%◌, ◌<◌, ◌≤◌}
use native.Mathlib.Omega.{arith}
use mathlib.Core.List.{List, [], ◌∷◌}
use lib.ListN.{length, drop, length-append, length-drop}
use lib.Seq.{drop-drop, drop-append-add, drop-nil}
use Rattle.format.specs.Digits.{AllBelow, digits}
use Rattle.format.specs.Booleans.{ByteRun, run_bytes, joined_bytes, bits}
use Rattle.format.proofs.Digits.{length_digits}
use Rattle.format.proofs.Booleans.{length_run, length-bits}
use Rattle.boolean_rle.specs.declared.positions.FlagPosition.{FlagPosition}
use Rattle.boolean_rle.specs.Column.{runs_at, column}
use Rattle.boolean_rle.specs.Positions.{skipped, past, past_flags, Plain}
use Rattle.boolean_rle.specs.Found.{flags_ahead}
use Rattle.boolean_rle.proofs.Onward.{onward}

-- the bits after i bytes are the bits of the bytes after them
pub bits-drop : (i : ℕ) (bs : List ℕ) → drop (8 * i) (bits bs) ≡ bits (drop i bs)
bits-drop zero bs = refl
bits-drop (suc i) [] = drop-nil (8 * suc i)
bits-drop (suc i) (b ∷ bs) =
    let z : 8 * suc i ≡ length (digits 2 8 b) + 8 * i = rw length_digits (omega arith) in
    rw (z, drop-append-add (digits 2 8 b) (bits bs) (8 * i)) (bits-drop i bs)

pub bits-after : (i j c : ℕ) (bs cs : List ℕ) → drop i bs ≡ drop j cs → drop (8 * i + c) (bits bs) ≡ drop (8 * j + c) (bits cs)
bits-after i j c bs cs e =
    rw (← drop-drop c (8 * i) (bits bs), ← drop-drop c (8 * j) (bits cs), bits-drop i bs, bits-drop j cs, e)

-- a plain skip is in the column
pub plain-le : (m : ℕ) (ds : List ByteRun) → Plain m ds → m ≤ length (joined_bytes ds)
unfolding joined_bytes
plain-le m [] h = omega (arith, h)
plain-le m (d ∷ ds) h = omega (arith, h, length-append (run_bytes d) (joined_bytes ds), length_run d)

-- from one position to a later one: the flags after it are the same, and the positions after those
pub record FlagsOnward (s : List ℕ) (at k : ℕ) (q : FlagPosition) : Type 0 where
  pub same_flags : drop k (bits (column (drop at s))) ≡ flags_ahead s q
  pub there : skipped q ≤ length (bits (column (drop q.run.bytes s)))
  pub same-why : (runs_at s at).why ≡ (runs_at s q.run.bytes).why
  pub in-run : Plain q.bytes.bytes (runs_at s q.run.bytes).runs
  pub in-byte : q.bits < 8
  pub past-on : (x : ℕ)
      → past_flags at (k + x) (runs_at s at).runs ≡ past_flags q.run.bytes (skipped q + x) (runs_at s q.run.bytes).runs

pub flags-onward : (s : List ℕ) → AllBelow 256 s → (at k : ℕ) → k ≤ 8 * length (column (drop at s))
    → FlagsOnward s at k (past_flags at k (runs_at s at).runs)
unfolding column
flags-onward s b at k h =
    let i = k / 8 in
    let c = k % 8 in
    let q = past at i (runs_at s at).runs in
    let bs = column (drop at s) in
    let cs = column (drop q.run.bytes s) in
    let (o, w) = onward s b at i (omega arith) in
    let z : k ≡ 8 * i + c = omega arith in
    let y : length bs - i ≡ length cs - q.bytes.bytes =
    sym (length-drop i bs) ∙ ap length o.same_bytes ∙ length-drop q.bytes.bytes cs in
    let g = plain-le q.bytes.bytes (runs_at s q.run.bytes).runs o.inside in
    record {
      same_flags = ap (λ (x : ℕ). drop x (bits bs)) z ∙ bits-after i q.bytes.bytes c bs cs o.same_bytes;
      there = rw length-bits (omega arith);
      same-why = w;
      in-run = o.inside;
      in-byte = omega arith;
      past-on = λ x.
          let u : (k + x) / 8 ≡ i + (c + x) / 8 = omega arith in
          let u' : (8 * q.bytes.bytes + c + x) / 8 ≡ q.bytes.bytes + (c + x) / 8 = omega arith in
          let t : (k + x) % 8 ≡ (c + x) % 8 = omega arith in
          let t' : (8 * q.bytes.bytes + c + x) % 8 ≡ (c + x) % 8 = omega arith in
          rw (u, u', t, t', o.past-on ((c + x) / 8));
    }
