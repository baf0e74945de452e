-- Eight texts, one after the other; their bounds together are below 1,024. Assumes nothing.
use Rattle.std.proofs.Common.{◌∙◌, arith}
use Rattle.text.proofs.Texts.{then-written}
use Rattle.tally.specs.Text.{totals_text}
use Rattle.tally.proofs.report.put_totals.Goals as goal

pub put_runs-at-requires : goal.put_runs-at-requires
put_runs-at-requires c =
    omega (
      arith,
      c.requires,
      c.put_count-at.ensures.upper_bound,
      c.put_count-at.auto.out,
      c.put_count-at-2.ensures.upper_bound,
      c.put_count-at-2.auto.out,
      c.put_count-at-3.ensures.upper_bound,
      c.put_count-at-3.auto.out,
      c.put_refusals-at.ensures.upper_bound,
      c.put_refusals-at.auto.out,
    )

pub put_extreme-at-requires : goal.put_extreme-at-requires
put_extreme-at-requires c =
    omega (
      arith,
      c.requires,
      c.put_count-at.ensures.upper_bound,
      c.put_count-at.auto.out,
      c.put_count-at-2.ensures.upper_bound,
      c.put_count-at-2.auto.out,
      c.put_count-at-3.ensures.upper_bound,
      c.put_count-at-3.auto.out,
      c.put_refusals-at.ensures.upper_bound,
      c.put_refusals-at.auto.out,
      c.put_runs-at.ensures.upper_bound,
      c.put_runs-at.auto.out,
    )

pub put_extreme-at-requires-2 : goal.put_extreme-at-requires-2
put_extreme-at-requires-2 c =
    omega (
      arith,
      c.requires,
      c.put_count-at.ensures.upper_bound,
      c.put_count-at.auto.out,
      c.put_count-at-2.ensures.upper_bound,
      c.put_count-at-2.auto.out,
      c.put_count-at-3.ensures.upper_bound,
      c.put_count-at-3.auto.out,
      c.put_refusals-at.ensures.upper_bound,
      c.put_refusals-at.auto.out,
      c.put_runs-at.ensures.upper_bound,
      c.put_runs-at.auto.out,
      c.put_extreme-at.ensures.upper_bound,
      c.put_extreme-at.auto.out,
    )

pub put_sum-requires : goal.put_sum-requires
put_sum-requires c =
    omega (
      arith,
      c.requires,
      c.put_count-at.ensures.upper_bound,
      c.put_count-at.auto.out,
      c.put_count-at-2.ensures.upper_bound,
      c.put_count-at-2.auto.out,
      c.put_count-at-3.ensures.upper_bound,
      c.put_count-at-3.auto.out,
      c.put_refusals-at.ensures.upper_bound,
      c.put_refusals-at.auto.out,
      c.put_runs-at.ensures.upper_bound,
      c.put_runs-at.auto.out,
      c.put_extreme-at.ensures.upper_bound,
      c.put_extreme-at.auto.out,
      c.put_extreme-at-2.ensures.upper_bound,
      c.put_extreme-at-2.auto.out,
    )

pub shape_of-out : goal.shape_of-out
shape_of-out c =
    c.put_sum.auto.out ∙ c.put_extreme-at-2.auto.out ∙ c.put_extreme-at.auto.out ∙ c.put_runs-at.auto.out ∙ c.put_refusals-at.auto.out
    ∙ c.put_count-at-3.auto.out ∙ c.put_count-at-2.auto.out ∙ c.put_count-at.auto.out

pub returns : goal.returns
unfolding totals_text
returns c =
    let to2 = then-written (omega arith) c.put_count-at.ensures.text_written c.put_count-at-2.ensures.text_written in
    let to3 = then-written (omega arith) to2 c.put_count-at-3.ensures.text_written in
    let to4 = then-written (omega arith) to3 c.put_refusals-at.ensures.text_written in
    let to5 = then-written (omega arith) to4 c.put_runs-at.ensures.text_written in
    let to6 = then-written (omega arith) to5 c.put_extreme-at.ensures.text_written in
    let to7 = then-written (omega arith) to6 c.put_extreme-at-2.ensures.text_written in
    then-written (omega arith) to7 c.put_sum.ensures
