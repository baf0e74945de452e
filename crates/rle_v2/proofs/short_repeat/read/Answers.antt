-- The short repeat's reader meets its contract: what the measure named is laid down where there is room. Assumes nothing.
use mathlib.Core.Path.{ap}
use Rattle.std.specs.Prelude.{Some, Ok}
use Prim.Native.Nat.{◌-◌, ◌<◌, ◌^◌}
use mathlib.Core.Path.{◌≡◌, sym, ◌∙◌}
use native.Mathlib.Omega.{arith}
use lib.ListN.{length}
use Rattle.format.specs.Promises.{answer_of}
use Rattle.format.proofs.Reading.{gives_none}
use Rattle.rle_v2.proofs.ShortRun.{run, Measured, measured, no_room, read_is}
use Rattle.rle_v2.proofs.short_repeat.read.Goals as goal

pub returns-then-out-count : goal.returns-then-out-count
returns-then-out-count c =
    let named : (let a = c.args in Ok (Some c.in-Ok-Some.r) ≡ answer_of a.at.bytes (length a.input.now - a.at.bytes) (run a.input.now a.at.bytes)) = sym (c.in-Ok-Some.is ∙ ap Ok (rw c.in-Ok-Some.is at c.in-Ok-Some.field-0-is)) ∙ c.measure-measured.ensures in
    let measured-is : (let a = c.args in Measured a.input.now a.at.bytes c.in-Ok-Some.r) = measured c.args.input.now c.args.at.bytes _ c.requires.0 (named) in
    let a = c.args in
    rw c.new.ensures (no_room a.input.now a.at.bytes a.signed a.out.now _ (named) (measured-is) c.if-out-count.true)

pub read-requires : goal.read-requires
read-requires c =
    let named : (let a = c.args in Ok (Some c.in-Ok-Some.r) ≡ answer_of a.at.bytes (length a.input.now - a.at.bytes) (run a.input.now a.at.bytes)) = sym (c.in-Ok-Some.is ∙ ap Ok (rw c.in-Ok-Some.is at c.in-Ok-Some.field-0-is)) ∙ c.measure-measured.ensures in
    let measured-is : (let a = c.args in Measured a.input.now a.at.bytes c.in-Ok-Some.r) = measured c.args.input.now c.args.at.bytes _ c.requires.0 (named) in
    let m = measured-is in omega (arith, m.size_is, m.there, c.requires.1)

pub returns-else-out-count : goal.returns-else-out-count
returns-else-out-count c =
    let named : (let a = c.args in Ok (Some c.in-Ok-Some.r) ≡ answer_of a.at.bytes (length a.input.now - a.at.bytes) (run a.input.now a.at.bytes)) = sym (c.in-Ok-Some.is ∙ ap Ok (rw c.in-Ok-Some.is at c.in-Ok-Some.field-0-is)) ∙ c.measure-measured.ensures in
    let measured-is : (let a = c.args in Measured a.input.now a.at.bytes c.in-Ok-Some.r) = measured c.args.input.now c.args.at.bytes _ c.requires.0 (named) in
    let a = c.args in
    let v = rw c.read.ensures at c.row-value.ensures in
    let f : c.row-value.result < 2 ^ 64 = c.row-value.type_inv in
    rw ((c.in-Ok-Some.is ∙ ap Ok (rw c.in-Ok-Some.is at c.in-Ok-Some.field-0-is))) (read_is a.input.now a.at.bytes a.signed a.out.now _ (named) (measured-is) _ c.if-out-count.false
    (rw v at f) (rw (rw v at c.repeat.ensures)))

pub returns-in-Err : goal.returns-in-Err
returns-in-Err c =
    let a = c.args in
    gives_none a.at.bytes _ a.signed (run a.input.now a.at.bytes) a.out.now _ (rw c.in-Err.is tt) c.measure-measured.ensures

pub returns-in-Ok-None : goal.returns-in-Ok-None
returns-in-Ok-None c =
    let a = c.args in
    gives_none a.at.bytes _ a.signed (run a.input.now a.at.bytes) a.out.now _ (rw (c.in-Ok-None.is ∙ ap Ok (rw c.in-Ok-None.is at c.in-Ok-None.field-0-is)) tt) c.measure-measured.ensures
