-- Ten lines of at most 50 bytes, one after the other. Assumes nothing.
use Rattle.text.proofs.Texts.{then-written}
use Rattle.tally.specs.Text.{refusals_text}
use Rattle.std.proofs.Common.{arith}
use Rattle.tally.proofs.report.put_refusals.Goals as goal

-- omega goes back as far as seven lines by itself
pub put_refusal-place-requires-8 : goal.put_refusal-place-requires-8
put_refusal-place-requires-8 c =
    omega (
      arith,
      c.requires,
      c.put_refusal-place.ensures.upper_bound,
      c.put_refusal-place.auto.out,
      c.put_refusal-place-2.ensures.upper_bound,
      c.put_refusal-place-2.auto.out,
      c.put_refusal-place-3.ensures.upper_bound,
      c.put_refusal-place-3.auto.out,
      c.put_refusal-place-4.ensures.upper_bound,
      c.put_refusal-place-4.auto.out,
      c.put_refusal-place-5.ensures.upper_bound,
      c.put_refusal-place-5.auto.out,
      c.put_refusal-place-6.ensures.upper_bound,
      c.put_refusal-place-6.auto.out,
      c.put_refusal-place-7.ensures.upper_bound,
      c.put_refusal-place-7.auto.out,
    )

pub put_refusal-place-requires-9 : goal.put_refusal-place-requires-9
put_refusal-place-requires-9 c =
    omega (
      arith,
      c.requires,
      c.put_refusal-place.ensures.upper_bound,
      c.put_refusal-place.auto.out,
      c.put_refusal-place-2.ensures.upper_bound,
      c.put_refusal-place-2.auto.out,
      c.put_refusal-place-3.ensures.upper_bound,
      c.put_refusal-place-3.auto.out,
      c.put_refusal-place-4.ensures.upper_bound,
      c.put_refusal-place-4.auto.out,
      c.put_refusal-place-5.ensures.upper_bound,
      c.put_refusal-place-5.auto.out,
      c.put_refusal-place-6.ensures.upper_bound,
      c.put_refusal-place-6.auto.out,
      c.put_refusal-place-7.ensures.upper_bound,
      c.put_refusal-place-7.auto.out,
      c.put_refusal-place-8.ensures.upper_bound,
      c.put_refusal-place-8.auto.out,
    )

pub put_refusal-requires : goal.put_refusal-requires
put_refusal-requires c =
    omega (
      arith,
      c.requires,
      c.put_refusal-place.ensures.upper_bound,
      c.put_refusal-place.auto.out,
      c.put_refusal-place-2.ensures.upper_bound,
      c.put_refusal-place-2.auto.out,
      c.put_refusal-place-3.ensures.upper_bound,
      c.put_refusal-place-3.auto.out,
      c.put_refusal-place-4.ensures.upper_bound,
      c.put_refusal-place-4.auto.out,
      c.put_refusal-place-5.ensures.upper_bound,
      c.put_refusal-place-5.auto.out,
      c.put_refusal-place-6.ensures.upper_bound,
      c.put_refusal-place-6.auto.out,
      c.put_refusal-place-7.ensures.upper_bound,
      c.put_refusal-place-7.auto.out,
      c.put_refusal-place-8.ensures.upper_bound,
      c.put_refusal-place-8.auto.out,
      c.put_refusal-place-9.ensures.upper_bound,
      c.put_refusal-place-9.auto.out,
    )

pub shape_of-out : goal.shape_of-out
shape_of-out c =
    omega (
      arith,
      c.put_refusal-place.auto.out,
      c.put_refusal-place-2.auto.out,
      c.put_refusal-place-3.auto.out,
      c.put_refusal-place-4.auto.out,
      c.put_refusal-place-5.auto.out,
      c.put_refusal-place-6.auto.out,
      c.put_refusal-place-7.auto.out,
      c.put_refusal-place-8.auto.out,
      c.put_refusal-place-9.auto.out,
      c.put_refusal.auto.out,
    )

pub returns : goal.returns
unfolding refusals_text
returns c =
    let to2 = then-written (omega arith) c.put_refusal-place.ensures.text_written c.put_refusal-place-2.ensures.text_written in
    let to3 = then-written (omega arith) to2 c.put_refusal-place-3.ensures.text_written in
    let to4 = then-written (omega arith) to3 c.put_refusal-place-4.ensures.text_written in
    let to5 = then-written (omega arith) to4 c.put_refusal-place-5.ensures.text_written in
    let to6 = then-written (omega arith) to5 c.put_refusal-place-6.ensures.text_written in
    let to7 = then-written (omega arith) to6 c.put_refusal-place-7.ensures.text_written in
    let to8 = then-written (omega arith) to7 c.put_refusal-place-8.ensures.text_written in
    let to9 = then-written (omega arith) to8 c.put_refusal-place-9.ensures.text_written in
    let to10 = then-written (omega arith) to9 c.put_refusal.ensures.text_written in record {
      text_written = to10;
      upper_bound = omega (
        arith,
        c.put_refusal-place.ensures.upper_bound,
        c.put_refusal-place.auto.out,
        c.put_refusal-place-2.ensures.upper_bound,
        c.put_refusal-place-2.auto.out,
        c.put_refusal-place-3.ensures.upper_bound,
        c.put_refusal-place-3.auto.out,
        c.put_refusal-place-4.ensures.upper_bound,
        c.put_refusal-place-4.auto.out,
        c.put_refusal-place-5.ensures.upper_bound,
        c.put_refusal-place-5.auto.out,
        c.put_refusal-place-6.ensures.upper_bound,
        c.put_refusal-place-6.auto.out,
        c.put_refusal-place-7.ensures.upper_bound,
        c.put_refusal-place-7.auto.out,
        c.put_refusal-place-8.ensures.upper_bound,
        c.put_refusal-place-8.auto.out,
        c.put_refusal-place-9.ensures.upper_bound,
        c.put_refusal-place-9.auto.out,
        c.put_refusal.ensures.upper_bound,
        c.put_refusal.auto.out,
      );
    }
