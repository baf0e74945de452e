-- Each arm's codes have its answer as their next kept code: a computed test over them. Assumes nothing.
use Rattle.std.proofs.Common.{arith}
use Rattle.format.specs.Kept.{kept_codes, next_kept}
use Rattle.format.specs.Fields.{least_of}
use Rattle.format.proofs.Widths.{same_from}
use Rattle.util.proofs.width.next_kept.Goals as goal

pub returns-then-code-lt2 : goal.returns-then-code-lt2
unfolding next_kept least_of kept_codes
returns-then-code-lt2 c = same_from (λ n. n) next_kept 0 2 tt c.args.code (omega arith) (omega arith)

pub returns-then-code-lt4 : goal.returns-then-code-lt4
unfolding next_kept least_of kept_codes
returns-then-code-lt4 c = same_from (λ n. 3) next_kept 2 2 tt c.args.code (omega arith) (omega arith)

pub returns-then-code-lt8 : goal.returns-then-code-lt8
unfolding next_kept least_of kept_codes
returns-then-code-lt8 c = same_from (λ n. 7) next_kept 4 4 tt c.args.code (omega arith) (omega arith)

pub returns-then-code-lt16 : goal.returns-then-code-lt16
unfolding next_kept least_of kept_codes
returns-then-code-lt16 c = same_from (λ n. 15) next_kept 8 8 tt c.args.code (omega arith) (omega arith)

pub returns-then-code-lt24 : goal.returns-then-code-lt24
unfolding next_kept least_of kept_codes
returns-then-code-lt24 c = same_from (λ n. 23) next_kept 16 8 tt c.args.code (omega arith) (omega arith)

pub returns-then-code-lt28 : goal.returns-then-code-lt28
unfolding next_kept least_of kept_codes
returns-then-code-lt28 c = same_from (λ n. 27) next_kept 24 4 tt c.args.code (omega arith) (omega arith)

pub returns-else-code-lt28 : goal.returns-else-code-lt28
unfolding next_kept least_of kept_codes
returns-else-code-lt28 c = same_from (λ n. n) next_kept 28 4 tt c.args.code (omega arith) (omega arith)
