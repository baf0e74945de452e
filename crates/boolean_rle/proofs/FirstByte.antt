-- The byte in which a position stands: its flags after the skipped ones, and those of the bytes after it. Assumes nothing.
use mathlib.Core.Path.{◌≡◌, sym, ap, ◌∙◌}
use Prim.Native.Nat.{ℕ, suc, ◌+◌, ◌-◌, ◌*◌, ◌<◌, ◌≤◌}
use native.Mathlib.Omega.{arith}
use native.Mathlib.Nat.{zero-add}
use mathlib.Core.List.{List, [], ◌∷◌, ◌++◌}
use Rattle.std.specs.Prelude.{Err}
use lib.ListN.{length, drop, get_or, length-append, length-drop, get_or-append}
use lib.Seq.{drop-drop, drop-append-le}
use Rattle.format.specs.Digits.{AllBelow, digits}
use Rattle.format.specs.Booleans.{ByteRun, AllValidRuns, run_bytes, bits, byte_run}
use Rattle.format.proofs.Digits.{length_digits}
use Rattle.format.proofs.Booleans.{length_run, length-bits}
use Rattle.boolean_rle.specs.declared.ByteRun as code
use Rattle.boolean_rle.specs.declared.positions.FlagPosition.{FlagPosition}
use Rattle.boolean_rle.specs.declared.Cut.{Cut}
use Rattle.boolean_rle.specs.Column.{column, runs_at}
use Rattle.boolean_rle.specs.Positions.{skipped, Plain}
use Rattle.boolean_rle.specs.Found.{found_in, Wrote, flags_ahead, Ready}
use Rattle.boolean_rle.proofs.FirstPass.{Here, count-le}
use Rattle.boolean_rle.proofs.RunBytes.{bits-from, wrote-more}
use Rattle.boolean_rle.proofs.SecondPass.{column-here, column-none}
use Rattle.boolean_rle.proofs.FlagsOnward.{bits-drop}
use Rattle.boolean_rle.proofs.Batches.{all_valid}
use Rattle.boolean_rle.proofs.Ends.{runs_here}

module _ (s : List ℕ) (p : FlagPosition) (n : ℕ) (ready : Ready s p n) where
  -- no bit is skipped: whole bytes
  pub first-whole : p.bits ≡ 0 → flags_ahead s p ≡ bits (drop p.bytes.bytes (column (drop p.run.bytes s)))
  first-whole e =
      let z : skipped p ≡ 8 * p.bytes.bytes = omega arith in
      ap (λ (x : ℕ). drop x (bits (column (drop p.run.bytes s)))) z ∙ bits-drop p.bytes.bytes (column (drop p.run.bytes s))

  -- a run is there, if a flag is
  pub first_found : 0 < skipped p + n → (q : Cut) → found_in (length s) (byte_run (drop p.run.bytes s)) ≡ Err q → ⊥
  first_found h q f = omega (arith, ready.there, ap length (column-none (length s) (drop p.run.bytes s) q f))

  module _ (e : code.ByteRun) (d : ByteRun) (h : Here s p.run.bytes e d) where
    -- the byte is in its run
    pub first-in : p.bytes.bytes < e.count
    first-in = omega (arith, rw (runs_here s p.run.bytes e d h 0) at ready.in_run, h.count-is)

    first_byte : flags_ahead s p
        ≡ drop p.bits (digits 2 8 (get_or (run_bytes d) p.bytes.bytes 0))
        ++ bits (drop (suc p.bytes.bytes) (column (drop p.run.bytes s)))
    first_byte =
        let col = column (drop p.run.bytes s) in
        let after = column (drop (p.run.bytes + e.size) s) in
        let c : col ≡ run_bytes d ++ after = column-here s p.run.bytes e d h in
        let l : p.bytes.bytes < length (run_bytes d) = rw length_run (rw h.count-is first-in) in
        let g : get_or col p.bytes.bytes 0 ≡ get_or (run_bytes d) p.bytes.bytes 0 =
        ap (λ (x : List ℕ). get_or x p.bytes.bytes 0) c ∙ get_or-append (run_bytes d) after 0 p.bytes.bytes l in
        let k : p.bytes.bytes < length col = omega (arith, ap length c, length-append (run_bytes d) after) in
        sym (drop-drop p.bits (8 * p.bytes.bytes) (bits col))
        ∙ ap (λ (x : List ℕ). drop p.bits x) (bits-from col p.bytes.bytes k)
        ∙ drop-append-le p.bits (digits 2 8 (get_or col p.bytes.bytes 0)) (bits (drop (suc p.bytes.bytes) col))
        (rw length_digits (omega (arith, ready.in_byte)))
        ∙ rw g

    -- bits of it are laid down
    pub first-wrote : (count byte : ℕ) (o out : List ℕ) → byte ≡ get_or (run_bytes d) p.bytes.bytes 0
        → Wrote 0 (0 + count) (drop p.bits (digits 2 8 byte)) o out
        → Wrote 0 count (flags_ahead s p) o out
    first-wrote count byte o out e w =
        rw (first_byte, ← e)
        (wrote-more 0 count (drop p.bits (digits 2 8 byte)) (bits (drop (suc p.bytes.bytes) (column (drop p.run.bytes s)))) o out
        (rw zero-add at w))

  -- after the flags of the first byte, those of the bytes after it
  pub first-after : 0 < p.bits → drop (8 - p.bits) (flags_ahead s p) ≡ bits (drop (p.bytes.bytes + 1) (column (drop p.run.bytes s)))
  first-after h =
      let col = column (drop p.run.bytes s) in
      let z : skipped p + (8 - p.bits) ≡ 8 * (p.bytes.bytes + 1) = omega (arith, ready.in_byte) in
      drop-drop (8 - p.bits) (skipped p) (bits col) ∙ ap (λ (x : ℕ). drop x (bits col)) z ∙ bits-drop (p.bytes.bytes + 1) col

  pub first-room : n ≤ length (flags_ahead s p)
  first-room = rw (length-drop, length-bits) (omega (arith, ready.there))

plain-few : (m : ℕ) (ds : List ByteRun) → AllValidRuns ds → Plain m ds → m ≤ 130
plain-few m [] v h = omega (arith, h)
plain-few m (d ∷ ds) v h = omega (arith, h, count-le d v.0)

pub first-few : (s : List ℕ) (p : FlagPosition) (n : ℕ) → AllBelow 256 s → Ready s p n → p.bytes.bytes ≤ 130
first-few s p n b r = plain-few p.bytes.bytes (runs_at s p.run.bytes).runs (all_valid s b p.run.bytes) r.in_run
