-- What the part's bytes overwrite is copied away first, and back if the call refuses. Assumes nothing.
use Rattle.std.proofs.Common.{sym, ◌∙◌, ◌++◌, ◌+◌, ◌-◌, drop, arith, rules}
use Rattle.format.specs.Digits.{AllBelow}
use Rattle.format.proofs.Below.{below_all}
use Rattle.parts.specs.Steps.{Begun}
use Rattle.parts.proofs.Joined.{in_lent}
use Rattle.parts.proofs.Lent.{pasted}
use Rattle.parts.proofs.Restored.{copied, stays-unless, put_back}
use Rattle.parts.proofs.join_or_restore.Goals as goal

pub returns-then-is_refused : goal.returns-then-is_refused
returns-then-is_refused c =
    let part_bytes : AllBelow 256 c.args.part.now = below_all 256 c.args.part.now (search rules) in
    let buffer-bytes : AllBelow 256 c.args.buffer.now = below_all 256 c.args.buffer.now (search rules) in
    let it-began : Begun c.args.reader c.args.part.now c.args.buffer.now c.args.held.bytes c.args.more.bytes = search rules in
    let a = c.args in
    put_back a.reader a.part.now a.buffer.now _ a.held.bytes a.more.bytes it-began buffer-bytes
    part_bytes a.signed
    a.out.now _ _ c.join-step.ensures (c.lay.new.to ++ drop a.more.bytes a.saved.now) _
    (copied a.buffer.now a.saved.now _ a.held.bytes a.more.bytes (a.held.bytes + a.more.bytes - a.held.bytes) (in_lent a.reader a.part.now a.buffer.now a.held.bytes a.more.bytes it-began buffer-bytes part_bytes)
    (omega arith) c.lay.ensures)
    (pasted c.join-step.new.buffer (c.lay.new.to ++ drop a.more.bytes a.saved.now) _ a.held.bytes a.more.bytes (a.held.bytes + a.more.bytes - a.held.bytes) (omega arith)
    c.lay-then-is_refused.ensures)
    (sym c.is_refused.ensures ∙ c.if-is_refused.true)

pub returns-else-is_refused : goal.returns-else-is_refused
returns-else-is_refused c =
    let part_bytes : AllBelow 256 c.args.part.now = below_all 256 c.args.part.now (search rules) in
    let buffer-bytes : AllBelow 256 c.args.buffer.now = below_all 256 c.args.buffer.now (search rules) in
    let it-began : Begun c.args.reader c.args.part.now c.args.buffer.now c.args.held.bytes c.args.more.bytes = search rules in
    let a = c.args in
    stays-unless a.reader a.part.now a.buffer.now _ a.held.bytes a.more.bytes it-began buffer-bytes
    part_bytes a.signed
    a.out.now _ _ c.join-step.ensures (sym c.is_refused.ensures ∙ c.if-is_refused.false)
