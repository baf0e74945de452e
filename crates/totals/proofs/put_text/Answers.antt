-- `put_text` meets its contract: the lines stand in a buffer of their own first, so that there is room for the refusal after them. Assumes nothing.
use mathlib.Core.Path.{sym}
use native.Mathlib.Omega.{arith}
use lib.Seq.{length-take-le}
use Rattle.totals.proofs.Room.{show-le, show-take, text-going, text-stopped}
use Rattle.totals.proofs.put_text.Goals as goal

pub slice_bounds-lines-end : goal.slice_bounds-lines-end
slice_bounds-lines-end c = show-le _ _ _ _ c.show-n.ensures

pub slice_bounds-put_word-end : goal.slice_bounds-put_word-end
slice_bounds-put_word-end c = sym (length-take-le _ _ (show-le _ _ _ _ c.show-n.ensures))

pub put_word-end-requires : goal.put_word-end-requires
put_word-end-requires c =
    let h = show-le _ _ _ _ c.show-n.ensures in
    omega (arith, length-take-le c.show-n.result c.show-n.new.out h, h, c.show-n.auto.out, c.line_places-lines.ensures, c.requires)

pub put_word-requires : goal.put_word-requires
put_word-requires c =
    let h = show-le _ _ _ _ c.show-n.ensures in
    omega (arith, c.put_word-end.ensures.next, c.put_word-end.auto.out, length-take-le c.show-n.result c.show-n.new.out h, h, c.show-n.auto.out, c.line_places-lines.ensures, c.requires)

pub returns-then-stopped : goal.returns-then-stopped
returns-then-stopped c =
    text-stopped _ _ _ _ _ (show-take _ _ _ _ c.show-n.ensures (omega (arith, c.line_places-lines.ensures))) c.put_word-end.ensures _ c.if-stopped.true _ _ c.put_word.ensures

pub returns : goal.returns
returns c =
    text-going _ _ _ _ _ (show-take _ _ _ _ c.show-n.ensures (omega (arith, c.line_places-lines.ensures))) c.put_word-end.ensures _ c.if-stopped.false
