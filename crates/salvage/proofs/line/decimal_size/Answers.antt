use mathlib.Core.Path.{ap}
use native.Mathlib.Omega.{arith}
use lib.ListN.{length}
use Rattle.text.proofs.Texts.{decimal-one, decimal-longer, decimal-length}
use Rattle.salvage.proofs.line.decimal_size.Goals as goal

pub overflow_add-n : goal.overflow_add-n
overflow_add-n c = omega (arith, decimal-length c.args.x)

pub loop-rest-preserved : goal.loop-rest-preserved
loop-rest-preserved c =
    let l = c.loop-rest in
    (omega (arith, l.invariant), omega (arith, l.invariant, decimal-longer l.rest (omega arith) l.invariant.0))

pub returns : goal.returns
returns c = let l = c.loop-rest in omega (arith, ap length (decimal-one l.rest (omega arith)))

pub loop-rest-init : goal.loop-rest-init
loop-rest-init c = (omega arith, omega arith)
