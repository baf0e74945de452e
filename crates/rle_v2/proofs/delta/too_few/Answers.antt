-- Each test says which of the two it is. Assumes nothing.
use borrow.Author.Tests.{eqb-true, eqb-false}
use Rattle.format.proofs.Tests.{never}
use Rattle.rle_v2.proofs.delta.too_few.Goals as goal

pub returns-then-code-eq0 : goal.returns-then-code-eq0
returns-then-code-eq0 c = (λ e. never (cc), λ f q. c.if-code-eq0.true)

pub returns : goal.returns
returns c = (λ e. (c.if-code-eq0.false, eqb-true _ _ e), λ f q. absurd (eqb-false _ _ f q))
