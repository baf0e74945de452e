use Rattle.std.proofs.Common.{◌∙◌, refl, length-set, arith}
use Rattle.tally.proofs.Held.{each_more, each_all}
use Rattle.tally.proofs.totals.add_each.Goals as goal

pub loop-i-init : goal.loop-i-init
loop-i-init g c = record { size = omega arith; so-far = refl }

pub loop-i-preserved : goal.loop-i-preserved
loop-i-preserved g c =
    let l = c.loop-i in
    record {
      size = simp length-set l.invariant.size;
      so-far = each_more l.sums _ l.i (omega arith) (omega arith) ∙ l.invariant.so-far;
    }

pub returns : goal.returns
returns g c =
    let l = c.loop-i in
    each_all l.sums c.args.more l.i (omega arith) ∙ l.invariant.so-far
