-- The first word says how the reader stands. Assumes nothing.
use lib.ListN.{get_or}
use Rattle.answer_words.specs.Parts.{standing_of, refusal_of}
use Rattle.answer_words.proofs.PartWords.{stands-closed}
use Rattle.answer_words.proofs.parts.standing_of.Goals as goal

pub returns-then-state-eq0 : goal.returns-then-state-eq0
unfolding standing_of
returns-then-state-eq0 c = rw c.if-state-eq0.true

pub returns-then-state-eq1 : goal.returns-then-state-eq1
unfolding standing_of
returns-then-state-eq1 c = rw (c.refusal_of.ensures, c.if-state-eq1.true)

pub returns : goal.returns
returns c =
    let ws = c.args.state.now in
    stands-closed (get_or ws 0 0) (refusal_of ws) c.if-state-eq0.false c.if-state-eq1.false
