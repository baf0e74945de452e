-- A line is five texts, one after the other, and the room left after each is what the next one needs. Assumes nothing.
use native.Mathlib.Omega.{arith}
use Rattle.text.proofs.Texts.{then-written}
use Rattle.salvage.specs.Salvage.{line}
use Rattle.salvage.proofs.Telling.{line-long}
use Rattle.salvage.proofs.line.put_line.Goals as goal

pub put_verdict-verdict-requires : goal.put_verdict-verdict-requires
put_verdict-verdict-requires c = omega (arith, c.requires, line-long c.args.keep c.args.number c.args.rows.rows)

pub put_decimal-next-requires : goal.put_decimal-next-requires
put_decimal-next-requires c =
    omega (arith, c.requires, line-long c.args.keep c.args.number c.args.rows.rows, c.put_verdict-verdict.ensures.next, c.put_verdict-verdict.auto.out)

pub put-next-requires : goal.put-next-requires
put-next-requires c =
    omega (
      arith,
      c.requires,
      line-long c.args.keep c.args.number c.args.rows.rows,
      c.put_verdict-verdict.ensures.next,
      c.put_verdict-verdict.auto.out,
      c.put_decimal-next.ensures.next,
      c.put_decimal-next.auto.out,
    )

pub put_decimal-next-requires-2 : goal.put_decimal-next-requires-2
put_decimal-next-requires-2 c =
    omega (
      arith,
      c.requires,
      line-long c.args.keep c.args.number c.args.rows.rows,
      c.put_verdict-verdict.ensures.next,
      c.put_verdict-verdict.auto.out,
      c.put_decimal-next.ensures.next,
      c.put_decimal-next.auto.out,
      c.put-next.ensures.next,
      c.put-next.auto.out,
    )

pub put-next-requires-2 : goal.put-next-requires-2
put-next-requires-2 c =
    omega (
      arith,
      c.requires,
      line-long c.args.keep c.args.number c.args.rows.rows,
      c.put_verdict-verdict.ensures.next,
      c.put_verdict-verdict.auto.out,
      c.put_decimal-next.ensures.next,
      c.put_decimal-next.auto.out,
      c.put-next.ensures.next,
      c.put-next.auto.out,
      c.put_decimal-next-2.ensures.next,
      c.put_decimal-next-2.auto.out,
    )

pub returns : goal.returns
unfolding line
returns c =
    then-written (omega (arith, c.requires, line-long c.args.keep c.args.number c.args.rows.rows)) c.put_verdict-verdict.ensures
    (then-written (omega (
      arith,
      c.requires,
      line-long c.args.keep c.args.number c.args.rows.rows,
      c.put_verdict-verdict.ensures.next,
      c.put_verdict-verdict.auto.out,
    )) c.put_decimal-next.ensures
    (then-written (omega (
      arith,
      c.requires,
      line-long c.args.keep c.args.number c.args.rows.rows,
      c.put_verdict-verdict.ensures.next,
      c.put_verdict-verdict.auto.out,
      c.put_decimal-next.ensures.next,
      c.put_decimal-next.auto.out,
    )) c.put-next.ensures
    (then-written (omega (
      arith,
      c.requires,
      line-long c.args.keep c.args.number c.args.rows.rows,
      c.put_verdict-verdict.ensures.next,
      c.put_verdict-verdict.auto.out,
      c.put_decimal-next.ensures.next,
      c.put_decimal-next.auto.out,
      c.put-next.ensures.next,
      c.put-next.auto.out,
    ))
    c.put_decimal-next-2.ensures c.put-next-2.ensures)))
