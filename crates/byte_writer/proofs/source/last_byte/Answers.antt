use Rattle.format.proofs.Common.{◌≡◌, ◌<◌, ◌-◌, ap, arith, List, ℕ, length, take, drop, get_or, length-drop, take_all}
use Rattle.byte_writer.proofs.Packing.{weighing-begins, weighing-fits, weighing-more, weighing-ends}
use Rattle.byte_writer.proofs.source.last_byte.Goals as goal

pub loop-flag-init : goal.loop-flag-init
loop-flag-init c = weighing-begins (drop c.args.at c.args.flags.now)

pub overflow_add-byte : goal.overflow_add-byte
overflow_add-byte c =
    let l = c.loop-flag in
    let fs : List ℕ = drop c.args.at c.args.flags.now in
    let whole : take (length c.args.flags.now - c.args.at) fs ≡ fs = take_all _ fs (rw length-drop (omega arith)) in
    let few : l.flag-index < 7 = omega (arith, ap length whole, length-drop c.args.at c.args.flags.now) in
    omega (arith, weighing-fits fs l.flag-index l.byte l.weight _ few (ap (λ (x : List ℕ). get_or x l.flag-index 0) whole) l.invariant)

pub loop-flag-preserved : goal.loop-flag-preserved
loop-flag-preserved c =
    let l = c.loop-flag in
    let fs : List ℕ = drop c.args.at c.args.flags.now in
    let whole : take (length c.args.flags.now - c.args.at) fs ≡ fs = take_all _ fs (rw length-drop (omega arith)) in
    let few : l.flag-index < 7 = omega (arith, ap length whole, length-drop c.args.at c.args.flags.now) in
    rw c.weighed-byte.ensures (weighing-more fs l.flag-index l.byte l.weight _ few (ap (λ (x : List ℕ). get_or x l.flag-index 0) whole) l.invariant)

pub returns : goal.returns
returns c =
    let l = c.loop-flag in
    let fs : List ℕ = drop c.args.at c.args.flags.now in
    let whole : take (length c.args.flags.now - c.args.at) fs ≡ fs = take_all _ fs (rw length-drop (omega arith)) in
    weighing-ends fs l.flag-index l.byte l.weight (omega (arith, ap length whole, length-drop c.args.at c.args.flags.now)) (omega (arith, ap length whole)) l.invariant
