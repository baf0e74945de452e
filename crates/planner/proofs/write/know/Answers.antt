use native.Mathlib.Omega.{arith}
use native.Mathlib.Numerals.{add-one}
use lib.Seq.{take_all}
use borrow.Author.Rules.{rules}
use Rattle.planner.proofs.Direct.{fit-more}
use Rattle.planner.proofs.write.know.Goals as goal

pub loop-z-preserved : goal.loop-z-preserved
loop-z-preserved c =
    let l = c.loop-z in
    (omega arith, rw add-one (fit-more _ l.z-index c.loop-z-test.true (search rules) l.invariant.1))

pub returns : goal.returns
returns c = let l = c.loop-z in rw (take_all l.z-index c.args.rows.now c.loop-z-test.false) at l.invariant.1

pub loop-z-init : goal.loop-z-init
loop-z-init c = (omega arith, tt)
