-- A run whose front is held is told to be unfinished before any byte is copied. Assumes nothing.
use Rattle.std.proofs.Common.{◌+◌, ◌-◌, sym, ◌∙◌, arith, length-take, rules}
use Rattle.format.specs.Digits.{AllBelow}
use Rattle.format.proofs.Below.{below_all}
use Rattle.parts.specs.Steps.{Begun}
use Rattle.parts.proofs.Joined.{waiting, not-by-front}
use Rattle.parts.proofs.Restored.{stays}
use Rattle.parts.proofs.Lent.{pasted}
use Rattle.parts.proofs.begun.Goals as goal

pub returns-then-is_cut : goal.returns-then-is_cut
returns-then-is_cut c =
    let part_bytes : AllBelow 256 c.args.part.now = below_all 256 c.args.part.now (search rules) in
    let buffer-bytes : AllBelow 256 c.args.buffer.now = below_all 256 c.args.buffer.now (search rules) in
    let it-began : Begun c.args.reader c.args.part.now c.args.buffer.now c.args.held.bytes c.args.more.bytes = search rules in
    let a = c.args in
    rw c.hold.ensures
    (waiting a.reader a.part.now a.buffer.now a.held.bytes a.more.bytes it-began buffer-bytes
    part_bytes a.signed
    a.out.now _ (omega arith) c.measure-a.ensures (sym c.is_cut.ensures ∙ c.if-is_cut.true) _ (pasted a.buffer.now a.part.now _ a.held.bytes a.more.bytes (a.held.bytes + a.more.bytes - a.held.bytes) (omega arith) c.lay.ensures))

pub returns-then-buffer-ge3 : goal.returns-then-buffer-ge3
returns-then-buffer-ge3 c =
    let part_bytes : AllBelow 256 c.args.part.now = below_all 256 c.args.part.now (search rules) in
    let buffer-bytes : AllBelow 256 c.args.buffer.now = below_all 256 c.args.buffer.now (search rules) in
    let it-began : Begun c.args.reader c.args.part.now c.args.buffer.now c.args.held.bytes c.args.more.bytes = search rules in
    let a = c.args in
    let began = it-began in
    stays a.reader a.part.now a.buffer.now _ a.held.bytes a.more.bytes began buffer-bytes part_bytes
    a.signed a.out.now _ _
    c.join.ensures
    (not-by-front a.reader a.part.now a.buffer.now a.held.bytes a.more.bytes began buffer-bytes part_bytes _
    (omega arith) c.if-buffer-ge3.true
    c.measure-a.ensures (sym c.is_whole.ensures ∙ c.if-is_whole.true))

pub slice_bounds-measure-end-then-h-ge-MAX_FRONT : goal.slice_bounds-measure-end-then-h-ge-MAX_FRONT
slice_bounds-measure-end-then-h-ge-MAX_FRONT c = rw length-take (omega arith)
