-- A run is four texts, one after the other, and the room left after each is what the next one needs. Assumes nothing.
use native.Mathlib.Omega.{arith}
use Rattle.text.proofs.Texts.{then-written}
use Rattle.salvage.specs.Steps.{run_of}
use Rattle.salvage.proofs.Laying.{run_long, varint-written}
use Rattle.salvage.proofs.fill.put_run.Goals as goal

pub put-next-requires : goal.put-next-requires
put-next-requires c = omega (arith, c.requires, run_long c.args.first c.args.rows.rows)

pub put-next-requires-2 : goal.put-next-requires-2
put-next-requires-2 c =
    omega (arith, c.requires, run_long c.args.first c.args.rows.rows, c.put-next.ensures.next, c.put-next.auto.out)

pub write-next-requires : goal.write-next-requires
write-next-requires c =
    omega (
      arith,
      c.requires,
      run_long c.args.first c.args.rows.rows,
      c.put-next.ensures.next,
      c.put-next.auto.out,
      c.put-next-2.ensures.next,
      c.put-next-2.auto.out,
    )

pub put-next-requires-3 : goal.put-next-requires-3
put-next-requires-3 c =
    omega (
      arith,
      c.requires,
      run_long c.args.first c.args.rows.rows,
      c.put-next.ensures.next,
      c.put-next.auto.out,
      c.put-next-2.ensures.next,
      c.put-next-2.auto.out,
      c.write-next.ensures.next,
      c.write-next.auto.out,
    )

pub returns : goal.returns
unfolding run_of
returns c =
    then-written (omega (arith, c.requires, run_long c.args.first c.args.rows.rows)) c.put-next.ensures
    (then-written (omega (arith, c.requires, run_long c.args.first c.args.rows.rows, c.put-next.ensures.next, c.put-next.auto.out)) c.put-next-2.ensures
    (then-written (omega (
      arith,
      c.requires,
      run_long c.args.first c.args.rows.rows,
      c.put-next.ensures.next,
      c.put-next.auto.out,
      c.put-next-2.ensures.next,
      c.put-next-2.auto.out,
    )) (varint-written c.write-next.ensures) c.put-next-3.ensures))
