-- Each turn compares one start with the last: the starts are right exactly if those that are left rise from it. Assumes nothing.
use mathlib.Core.Path.{◌≡◌}
use lib.ListN.{drop}
use Rattle.salvage.specs.Salvage.{rising, starts_right}
use Rattle.salvage.proofs.groups.starts_right.Given as goal

abbrev pub invariant-loop-next : goal.invariant-loop-next
invariant-loop-next l = starts_right l.end.bytes l.starts ≡ rising l.end.bytes l.last (drop l.next-index l.more)
