-- A plain position stands in its run, so the byte is there, and its bits after the skipped ones are the next flags. Assumes nothing.
use mathlib.Core.Path.{sym, ap, ◌∙◌}
use Prim.Native.Nat.{ℕ}
use mathlib.Core.List.{List}
use native.Mathlib.Omega.{arith}
use lib.ListN.{get_or}
use Rattle.format.specs.Booleans.{ByteRun}
use Rattle.boolean_rle.specs.declared.ByteRun as code
use Rattle.boolean_rle.proofs.FirstPass.{Here, here}
use Rattle.boolean_rle.proofs.RunBytes.{bytes-are}
use Rattle.boolean_rle.proofs.FirstByte.{first_found, first-in, first-wrote}
use Rattle.boolean_rle.proofs.flags.put_first.Goals as goal

pub returns-in_default : goal.returns-in_default
returns-in_default c =
    let s : List ℕ = c.args.input.now in
    let a = c.args in
    absurd (first_found (s) a.from a.n c.requires.0 (omega (arith, c.requires)) c.in_default.field-0
    (sym c.run_at.ensures ∙ c.in_default.is))

pub byte-byte-requires : goal.byte-byte-requires
byte-byte-requires c =
    let s : List ℕ = c.args.input.now in
    let run : code.ByteRun = c.in-Ok.run' in
    let run-here : (d : ByteRun) × Here (s) c.args.from.run.bytes (run) d = here (s) c.args.from.run.bytes (run) (λ i. (c.shared_slice_known-1.given i).fits)
    (sym c.run_at.ensures ∙ c.in-Ok.is) in
    let (d, h) = run-here in
    first-in (s) c.args.from c.args.n c.requires.0 (run) d h

pub returns : goal.returns
returns c =
    let s : List ℕ = c.args.input.now in
    let run : code.ByteRun = c.in-Ok.run' in
    let run-here : (d : ByteRun) × Here (s) c.args.from.run.bytes (run) d = here (s) c.args.from.run.bytes (run) (λ i. (c.shared_slice_known-1.given i).fits)
    (sym c.run_at.ensures ∙ c.in-Ok.is) in
    let a = c.args in
    let (d, h) = run-here in
    let byte-is = c.byte-byte.ensures
    ∙ ap (λ (x : List ℕ). get_or x a.from.bytes.bytes 0) (bytes-are (s) a.from.run.bytes (run) d h) in record {
      value = c.min-count.ensures;
      wrote = first-wrote (s) a.from a.n c.requires.0 (run) d h c.min-count.result c.byte-byte.result
          a.out.now _ byte-is c.put_bits.ensures;
    }
