-- Five lines of counts, one after the other, each with its own bound. Assumes nothing.
use Rattle.text.proofs.Texts.{then-written}
use Rattle.tally.specs.Text.{runs_text}
use Rattle.std.proofs.Common.{arith}
use Rattle.tally.proofs.report.put_runs.Goals as goal

pub returns : goal.returns
unfolding runs_text
returns c =
    record {
      text_written = then-written (omega arith) (then-written (omega arith)
          (then-written (omega arith) (then-written (omega arith) c.put_count-place.ensures.text_written c.put_count-place-2.ensures.text_written) c.put_count-place-3.ensures.text_written)
          c.put_count-place-4.ensures.text_written) c.put_count.ensures.text_written;
      upper_bound = omega arith;
    }
