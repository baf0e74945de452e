-- `tell` hands over the definition's text. Assumes nothing.
use mathlib.Core.Path.{sym}
use native.Mathlib.Omega.{arith}
use lib.Seq.{length-take-le}
use Rattle.text.proofs.Texts.{written-fits}
use Rattle.totals.proofs.Room.{first-text}
use Rattle.totals.proofs.tell.Goals as goal

pub slice_bounds-out-end : goal.slice_bounds-out-end
slice_bounds-out-end g c = written-fits (omega arith) c.put_text-end.ensures

pub slice_bounds-say-end : goal.slice_bounds-say-end
slice_bounds-say-end g c = sym (length-take-le _ _ (written-fits (omega arith) c.put_text-end.ensures))

pub say-requires : goal.say-requires
say-requires g c =
    (c.requires, first-text _ _ _ _ c.put_text-end.ensures)
