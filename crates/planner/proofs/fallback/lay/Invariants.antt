-- Each turn lays one segment more, so at the end all direct runs are laid. Assumes nothing.
use Rattle.planner.specs.Check.{proposal}
use Rattle.planner.proofs.Falling.{Laying}
use Rattle.planner.proofs.fallback.lay.Given as goal

abbrev pub invariant-loop-k : goal.invariant-loop-k
invariant-loop-k l =
    Laying l.n l.runs (proposal l.initial.first l.initial.counts l.initial.forms l.initial.widths l.initial.bases) (proposal l.first l.counts l.forms l.widths l.bases) l.k
