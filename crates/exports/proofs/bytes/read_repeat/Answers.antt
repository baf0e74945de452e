-- `read_repeat` meets its contract: what the measure named is laid down as bytes where there is room. Assumes nothing.
use mathlib.Core.Path.{ap}
use Rattle.std.specs.Prelude.{Some, Ok, ◌≡◌}
use mathlib.Core.Path.{sym, ◌∙◌}
use native.Mathlib.Omega.{arith}
use Rattle.format.specs.Promises.{RunMeasured}
use Rattle.format.proofs.Reading.{run-not-refused}
use Rattle.rle_v2.proofs.ShortRun.{Measured}
use Rattle.exports.proofs.Repeat.{named, no_room, repeats, nothing, Nothing, run-not-end}
use Rattle.exports.proofs.bytes.read_repeat.Goals as goal

pub returns-then-out-count : goal.returns-then-out-count
returns-then-out-count c =
    let run-told : (let a = c.args in RunMeasured a.input.now 0 (Ok (Some c.in-Ok-Some.r))) = sym (c.in-Ok-Some.is ∙ ap Ok (rw c.in-Ok-Some.is at c.in-Ok-Some.field-0-is)) ∙ c.measure-measured.ensures in
    no_room c.args.input.now c.args.signed c.args.out.now c.requires.0 c.requires.1 _ (run-told) c.if-out-count.true

pub read-requires : goal.read-requires
read-requires c =
    let run-told : (let a = c.args in RunMeasured a.input.now 0 (Ok (Some c.in-Ok-Some.r))) = sym (c.in-Ok-Some.is ∙ ap Ok (rw c.in-Ok-Some.is at c.in-Ok-Some.field-0-is)) ∙ c.measure-measured.ensures in
    let told : (let a = c.args in Measured a.input.now 0 c.in-Ok-Some.r) = named c.args.input.now c.args.signed c.args.out.now c.requires.0 c.requires.1 _ (run-told) in
    let m = told in omega (arith, m.size_is, m.there, (c.requires.1))

pub packed-requires : goal.packed-requires
packed-requires c =
    let is : c.measure-measured.result ≡ Ok (Some c.in-Ok-Some.r) = c.in-Ok-Some.is ∙ ap Ok (rw c.in-Ok-Some.is at c.in-Ok-Some.field-0-is) in
    let run-told : (let a = c.args in RunMeasured a.input.now 0 (Ok (Some c.in-Ok-Some.r))) = sym (c.in-Ok-Some.is ∙ ap Ok (rw c.in-Ok-Some.is at c.in-Ok-Some.field-0-is)) ∙ c.measure-measured.ensures in
    let told : (let a = c.args in Measured a.input.now 0 c.in-Ok-Some.r) = named c.args.input.now c.args.signed c.args.out.now c.requires.0 c.requires.1 _ (run-told) in
    let m = told in (rw is (omega (arith, m.rows_are)), rw is (omega (arith, m.bytes-are, m.there)))

pub packed-requires-in-Err : goal.packed-requires-in-Err
packed-requires-in-Err c =
    let refused-told : (let a = c.args in Nothing a.input.now a.signed a.out.now c.measure-measured.result) = let a = c.args in
    nothing a.input.now a.signed a.out.now _ (λ r e. run-not-refused r _ (sym e ∙ c.in-Err.is)) c.measure-measured.ensures in
    let n = refused-told in (rw n.rows (omega arith), rw n.bytes (omega arith))

pub packed-requires-in-Ok-None : goal.packed-requires-in-Ok-None
packed-requires-in-Ok-None c =
    let end-told : (let a = c.args in Nothing a.input.now a.signed a.out.now c.measure-measured.result) = let a = c.args in
    nothing a.input.now a.signed a.out.now _ (λ r e. run-not-end r (sym e ∙ (c.in-Ok-None.is ∙ ap Ok (rw c.in-Ok-None.is at c.in-Ok-None.field-0-is)))) c.measure-measured.ensures in
    let n = end-told in (rw n.rows (omega arith), rw n.bytes (omega arith))

pub returns-else-out-count : goal.returns-else-out-count
returns-else-out-count c =
    let is : c.measure-measured.result ≡ Ok (Some c.in-Ok-Some.r) = c.in-Ok-Some.is ∙ ap Ok (rw c.in-Ok-Some.is at c.in-Ok-Some.field-0-is) in
    let run-told : (let a = c.args in RunMeasured a.input.now 0 (Ok (Some c.in-Ok-Some.r))) = sym (c.in-Ok-Some.is ∙ ap Ok (rw c.in-Ok-Some.is at c.in-Ok-Some.field-0-is)) ∙ c.measure-measured.ensures in
    let v = rw c.read.ensures at c.row-x.ensures in
    rw (c.packed.ensures, is)
    (repeats c.args.input.now c.args.signed c.args.out.now c.requires.0 c.requires.1 _ (run-told) _ c.if-out-count.false (rw v at c.put_repeat.ensures))

pub returns-in-Err : goal.returns-in-Err
returns-in-Err c =
    let refused-told : (let a = c.args in Nothing a.input.now a.signed a.out.now c.measure-measured.result) = let a = c.args in
    nothing a.input.now a.signed a.out.now _ (λ r e. run-not-refused r _ (sym e ∙ c.in-Err.is)) c.measure-measured.ensures in
    rw c.packed-in-Err.ensures refused-told.loaded

pub returns-in-Ok-None : goal.returns-in-Ok-None
returns-in-Ok-None c =
    let end-told : (let a = c.args in Nothing a.input.now a.signed a.out.now c.measure-measured.result) = let a = c.args in
    nothing a.input.now a.signed a.out.now _ (λ r e. run-not-end r (sym e ∙ (c.in-Ok-None.is ∙ ap Ok (rw c.in-Ok-None.is at c.in-Ok-None.field-0-is)))) c.measure-measured.ensures in
    rw c.packed-in-Ok-None.ensures end-told.loaded
