-- It ends: a run begins before its end. Assumes nothing.
use Rattle.proposer.proofs.path.Path.turn.Given as goal

abbrev pub decreases-loop-end : goal.decreases-loop-end
decreases-loop-end l = l.end
