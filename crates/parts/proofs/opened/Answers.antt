-- A call with a part of an open reader: the run is read from the part, or after the bytes held. Assumes nothing.
use Rattle.std.proofs.Common.{◌≡◌, ◌∙◌, ◌+◌, ◌-◌, sym, arith, length-take, length-take-le, rules}
use Rattle.format.specs.Digits.{AllBelow}
use Rattle.format.proofs.Below.{below_all}
use Rattle.parts.specs.Steps.{Begun}
use Rattle.parts.proofs.Lent.{kept-part, from-part, pasted, pasted-first}
use Rattle.parts.proofs.Joined.{crossing, not-refused}
use Rattle.parts.proofs.Restored.{stays}
use Rattle.parts.proofs.opened.Goals as goal

pub returns-then-h-eq0 : goal.returns-then-h-eq0
returns-then-h-eq0 c =
    let part_bytes : AllBelow 256 c.args.part.now = below_all 256 c.args.part.now (search rules) in
    let none-held : c.args.reader.held ≡ 0 = omega arith in
    let a = c.args in
    from-part a.reader none-held a.part.now a.buffer.now a.signed a.out.now _ _ _ part_bytes (omega arith) (omega arith)
    c.read_first-a.ensures c.on_part-step.ensures _ (pasted-first a.buffer.now a.part.now _ _ c.lay.ensures)

pub returns-then-kept-eq0 : goal.returns-then-kept-eq0
returns-then-kept-eq0 c =
    let part_bytes : AllBelow 256 c.args.part.now = below_all 256 c.args.part.now (search rules) in
    let none-held : c.args.reader.held ≡ 0 = omega arith in
    let a = c.args in
    from-part a.reader none-held a.part.now a.buffer.now a.signed a.out.now _ _ _ part_bytes (omega arith) (omega arith)
    c.read_first-a.ensures c.on_part-step.ensures _ (rw c.if-kept-eq0.true)

pub returns : goal.returns
returns c =
    let part_bytes : AllBelow 256 c.args.part.now = below_all 256 c.args.part.now (search rules) in
    let buffer-bytes : AllBelow 256 c.args.buffer.now = below_all 256 c.args.buffer.now (search rules) in
    let a = c.args in
    let began : Begun a.reader a.part.now a.buffer.now c.min-h.result c.min-k.result
    = record {
      long = omega arith;
      held = c.min-h.ensures;
      some = omega arith;
      seen = rw (← c.saturating_sub.ensures) c.min-k.ensures;
    } in
    rw c.on_part.ensures
    (stays a.reader a.part.now a.buffer.now _ _ _ began buffer-bytes part_bytes a.signed a.out.now _ _
    (crossing a.reader a.part.now a.buffer.now _ _ began buffer-bytes part_bytes a.signed a.out.now _ _
    (omega arith) _
    (pasted a.buffer.now a.part.now _ c.min-h.result c.min-k.result (c.min-h.result + c.min-k.result - c.min-h.result) (omega arith) c.lay-2.ensures) c.read_gathered-a.ensures)
    (not-refused a.reader a.part.now a.buffer.now _ _ began buffer-bytes part_bytes (omega arith)))

pub slice_bounds-read_gathered-end-2 : goal.slice_bounds-read_gathered-end-2
slice_bounds-read_gathered-end-2 c = rw length-take (omega arith)

pub slice_bounds-lay-end-then-h-eq0 : goal.slice_bounds-lay-end-then-h-eq0
slice_bounds-lay-end-then-h-eq0 c =
    let part_bytes : AllBelow 256 c.args.part.now = below_all 256 c.args.part.now (search rules) in
    let none-held : c.args.reader.held ≡ 0 = omega arith in
    let a = c.args in
    let kept = kept-part a.reader none-held a.part.now a.buffer.now a.signed a.out.now _ _ _ part_bytes (omega arith) (omega arith)
    c.read_first-a.ensures c.on_part-step.ensures in
    omega (arith, kept.1)

pub slice_bounds-lay-end-then-h-eq0-2 : goal.slice_bounds-lay-end-then-h-eq0-2
slice_bounds-lay-end-then-h-eq0-2 c =
    let part_bytes : AllBelow 256 c.args.part.now = below_all 256 c.args.part.now (search rules) in
    let none-held : c.args.reader.held ≡ 0 = omega arith in
    let a = c.args in
    let kept = kept-part a.reader none-held a.part.now a.buffer.now a.signed a.out.now _ _ _ part_bytes (omega arith) (omega arith)
    c.read_first-a.ensures c.on_part-step.ensures in
    sym (length-take-le _ c.args.buffer.now (omega (arith, kept.1)))

pub lay-requires : goal.lay-requires
lay-requires c =
    let part_bytes : AllBelow 256 c.args.part.now = below_all 256 c.args.part.now (search rules) in
    let none-held : c.args.reader.held ≡ 0 = omega arith in
    let a = c.args in
    let kept = kept-part a.reader none-held a.part.now a.buffer.now a.signed a.out.now _ _ _ part_bytes (omega arith) (omega arith)
    c.read_first-a.ensures c.on_part-step.ensures in
    length-take-le _ c.args.buffer.now (omega (arith, kept.1)) ∙ sym (length-take-le _ c.args.part.now kept.0)

pub slice_bounds-lay-end : goal.slice_bounds-lay-end
slice_bounds-lay-end c =
    let part_bytes : AllBelow 256 c.args.part.now = below_all 256 c.args.part.now (search rules) in
    let none-held : c.args.reader.held ≡ 0 = omega arith in
    let a = c.args in
    let kept = kept-part a.reader none-held a.part.now a.buffer.now a.signed a.out.now _ _ _ part_bytes (omega arith) (omega arith)
    c.read_first-a.ensures c.on_part-step.ensures in
    sym (length-take-le _ c.args.part.now kept.0)
