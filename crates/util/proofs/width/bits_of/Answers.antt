-- Each arm's arithmetic gives the widths of its codes: a computed test over them. Assumes nothing.
use Rattle.format.proofs.Common.{◌+◌, ◌-◌, ◌*◌, arith}
use Rattle.format.specs.Fields.{widths, width}
use Rattle.format.proofs.Widths.{same_from}
use Rattle.util.proofs.width.bits_of.Goals as goal

pub returns-then-k-lt24 : goal.returns-then-k-lt24
unfolding width widths
returns-then-k-lt24 c = same_from (λ k. k + 1) width 0 24 tt _ (omega arith) (omega arith)

pub returns-then-k-lt27 : goal.returns-then-k-lt27
unfolding width widths
returns-then-k-lt27 c = same_from (λ k. 26 + 2 * (k - 24)) width 24 3 tt _ (omega arith) (omega arith)

pub returns-else-k-lt27 : goal.returns-else-k-lt27
unfolding width widths
returns-else-k-lt27 c = same_from (λ k. 32 + 8 * (k - 27)) width 27 5 tt _ (omega arith) (omega arith)
