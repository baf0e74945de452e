-- The part's bytes are copied after those held, and the run is read there. Assumes nothing.
use Rattle.std.proofs.Common.{◌+◌, ◌-◌, arith, length-take, rules}
use Rattle.format.specs.Digits.{AllBelow}
use Rattle.format.proofs.Below.{below_all}
use Rattle.parts.specs.Steps.{Begun}
use Rattle.parts.proofs.Joined.{crossing}
use Rattle.parts.proofs.Lent.{pasted}
use Rattle.parts.proofs.join.Goals as goal

pub returns : goal.returns
returns c =
    let part_bytes : AllBelow 256 c.args.part.now = below_all 256 c.args.part.now (search rules) in
    let buffer-bytes : AllBelow 256 c.args.buffer.now = below_all 256 c.args.buffer.now (search rules) in
    let it-began : Begun c.args.reader c.args.part.now c.args.buffer.now c.args.held.bytes c.args.more.bytes = search rules in
    let a = c.args in
    rw c.on_part.ensures
    (crossing a.reader a.part.now a.buffer.now a.held.bytes a.more.bytes it-began buffer-bytes
    part_bytes a.signed
    a.out.now _ _ (omega arith) _ (pasted a.buffer.now a.part.now _ a.held.bytes a.more.bytes (a.held.bytes + a.more.bytes - a.held.bytes) (omega arith) c.lay.ensures) c.read_run-a.ensures)

pub slice_bounds-read_run-end-2 : goal.slice_bounds-read_run-end-2
slice_bounds-read_run-end-2 c = rw length-take (omega arith)
