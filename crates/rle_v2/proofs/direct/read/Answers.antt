-- The direct reader meets its contract: what the measure named is laid down where there is room. Assumes nothing.
use mathlib.Core.Path.{ap}
use Rattle.std.specs.Prelude.{Some, Ok}
use Prim.Native.Nat.{◌+◌, ◌-◌}
use mathlib.Core.Path.{◌≡◌, sym, ◌∙◌}
use native.Mathlib.Omega.{arith}
use lib.ListN.{length}
use Rattle.format.specs.Promises.{answer_of}
use Rattle.format.proofs.Reading.{gives_none}
use mathlib.Core.List.{map}
use lib.ListN.{length-drop}
use Rattle.format.specs.Rows.{as_i64}
use Rattle.format.proofs.Reading.{block_at}
use Rattle.util.proofs.Grow.{rest-is}
use Rattle.rle_v2.specs.Pass.{decoded}
use Rattle.rle_v2.proofs.Pass.{then-pass}
use Rattle.rle_v2.proofs.Blocks.{code-width, block-rows}
use Rattle.rle_v2.proofs.DirectRun.{run, Measured, measured, rows-there, no_room, read_is}
use Rattle.rle_v2.proofs.direct.read.Goals as goal

pub returns-then-out-count : goal.returns-then-out-count
returns-then-out-count c =
    let named : (let a = c.args in Ok (Some c.in-Ok-Some.r) ≡ answer_of a.at.bytes (length a.input.now - a.at.bytes) (run a.input.now a.at.bytes)) = sym (c.in-Ok-Some.is ∙ ap Ok (rw c.in-Ok-Some.is at c.in-Ok-Some.field-0-is)) ∙ c.measure-measured.ensures in
    let measured-is : (let a = c.args in Measured a.input.now a.at.bytes c.in-Ok-Some.r) = measured c.args.input.now c.args.at.bytes _ c.requires (named) in
    let a = c.args in
    rw c.new.ensures (no_room a.input.now a.at.bytes a.signed a.out.now _ (named) (measured-is) c.if-out-count.true)

pub slice_bounds-unpack-count : goal.slice_bounds-unpack-count
slice_bounds-unpack-count c =
    let named : (let a = c.args in Ok (Some c.in-Ok-Some.r) ≡ answer_of a.at.bytes (length a.input.now - a.at.bytes) (run a.input.now a.at.bytes)) = sym (c.in-Ok-Some.is ∙ ap Ok (rw c.in-Ok-Some.is at c.in-Ok-Some.field-0-is)) ∙ c.measure-measured.ensures in
    let measured-is : (let a = c.args in Measured a.input.now a.at.bytes c.in-Ok-Some.r) = measured c.args.input.now c.args.at.bytes _ c.requires (named) in
    let m = measured-is in omega (arith, m.head)

pub slice_bounds-unpack-start : goal.slice_bounds-unpack-start
slice_bounds-unpack-start c =
    let named : (let a = c.args in Ok (Some c.in-Ok-Some.r) ≡ answer_of a.at.bytes (length a.input.now - a.at.bytes) (run a.input.now a.at.bytes)) = sym (c.in-Ok-Some.is ∙ ap Ok (rw c.in-Ok-Some.is at c.in-Ok-Some.field-0-is)) ∙ c.measure-measured.ensures in
    let measured-is : (let a = c.args in Measured a.input.now a.at.bytes c.in-Ok-Some.r) = measured c.args.input.now c.args.at.bytes _ c.requires (named) in
    let m = measured-is in omega (arith, m.head)

pub unpack-requires : goal.unpack-requires
unpack-requires c =
    let named : (let a = c.args in Ok (Some c.in-Ok-Some.r) ≡ answer_of a.at.bytes (length a.input.now - a.at.bytes) (run a.input.now a.at.bytes)) = sym (c.in-Ok-Some.is ∙ ap Ok (rw c.in-Ok-Some.is at c.in-Ok-Some.field-0-is)) ∙ c.measure-measured.ensures in
    let measured-is : (let a = c.args in Measured a.input.now a.at.bytes c.in-Ok-Some.r) = measured c.args.input.now c.args.at.bytes _ c.requires (named) in
    let m = measured-is in
    let a = c.args in record {
      width = rw m.width_is (code-width _);
      n_bound = (
        omega (arith, m.rows_are, c.shared_slice_known-1.given (a.at.bytes + 1)),
        c.if-out-count.false,
        rw (rest-is a.input.now (a.at.bytes + 2), length-drop) (rows-there a.input.now a.at.bytes _ m),
      );
    }

pub returns-else-out-count : goal.returns-else-out-count
returns-else-out-count c =
    let named : (let a = c.args in Ok (Some c.in-Ok-Some.r) ≡ answer_of a.at.bytes (length a.input.now - a.at.bytes) (run a.input.now a.at.bytes)) = sym (c.in-Ok-Some.is ∙ ap Ok (rw c.in-Ok-Some.is at c.in-Ok-Some.field-0-is)) ∙ c.measure-measured.ensures in
    let measured-is : (let a = c.args in Measured a.input.now a.at.bytes c.in-Ok-Some.r) = measured c.args.input.now c.args.at.bytes _ c.requires (named) in
    let a = c.args in
    let s = a.input.now in
    let body = a.at.bytes + 2 in
    let r = c.in-Ok-Some.r in
    let o = then-pass (decoded a.signed) (map as_i64 (block_at s body r.width r.rows.rows).values) a.out.now c.unpack.new.out c.decode.new.out r.rows.rows
    (block-rows s body r.width r.rows.rows) (rw (rest-is s body) at c.unpack.ensures) c.decode.ensures in
    rw ((c.in-Ok-Some.is ∙ ap Ok (rw c.in-Ok-Some.is at c.in-Ok-Some.field-0-is))) (read_is s a.at.bytes a.signed a.out.now r (named) (measured-is) _ c.if-out-count.false o)

pub returns-in-Err : goal.returns-in-Err
returns-in-Err c =
    let a = c.args in
    gives_none a.at.bytes _ a.signed (run a.input.now a.at.bytes) a.out.now _ (rw c.in-Err.is tt) c.measure-measured.ensures

pub returns-in-Ok-None : goal.returns-in-Ok-None
returns-in-Ok-None c =
    let a = c.args in
    gives_none a.at.bytes _ a.signed (run a.input.now a.at.bytes) a.out.now _ (rw (c.in-Ok-None.is ∙ ap Ok (rw c.in-Ok-None.is at c.in-Ok-None.field-0-is)) tt) c.measure-measured.ensures
