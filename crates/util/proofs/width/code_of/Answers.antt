-- Each arm's arithmetic gives the code of the least width for its numbers of bits: a computed test over them. Assumes nothing.
use Rattle.format.proofs.Common.{◌+◌, ◌-◌, ◌/◌, arith}
use Rattle.format.specs.Fields.{widths, width, least_of, least_width}
use Rattle.format.proofs.Widths.{all_from}
use Rattle.util.proofs.Widths.{code_test, least-code}
use Rattle.util.proofs.width.code_of.Goals as goal

pub returns-then-bits-lt2 : goal.returns-then-bits-lt2
unfolding width widths least_width least_of
returns-then-bits-lt2 c = least-code (all_from (λ n. code_test n 0) 0 2 tt c.args.bits (omega arith) (omega arith))

pub returns-then-bits-lt25 : goal.returns-then-bits-lt25
unfolding width widths least_width least_of
returns-then-bits-lt25 c = least-code (all_from (λ n. code_test n (n - 1)) 2 23 tt c.args.bits (omega arith) (omega arith))

pub returns-then-bits-lt33 : goal.returns-then-bits-lt33
unfolding width widths least_width least_of
returns-then-bits-lt33 c = least-code (all_from (λ n. code_test n (23 + (n - 23) / 2)) 25 8 tt c.args.bits (omega arith) (omega arith))

pub returns-else-bits-lt33 : goal.returns-else-bits-lt33
unfolding width widths least_width least_of
returns-else-bits-lt33 c = least-code (all_from (λ n. code_test n (23 + (n + 7) / 8)) 33 32 tt c.args.bits (omega arith) (omega arith))
