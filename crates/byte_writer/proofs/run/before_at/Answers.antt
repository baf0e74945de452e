use Rattle.format.proofs.Common.{◌≡◌, sym, ◌∙◌, List, ℕ, ◌+◌, ◌-◌, min, arith, add-zero, drop, length-drop}
use Rattle.byte_writer.specs.Choice.{repeats}
use Rattle.byte_writer.specs.Flags.{source}
use Rattle.byte_writer.proofs.Stretches.{unlike-more, unlike-stop, unlike-done, three-equal, before_last}
use Rattle.byte_writer.proofs.Packing.{source-le}
use Rattle.byte_writer.proofs.run.before_at.Goals as goal

pub returns-then-left-lt3 : goal.returns-then-left-lt3
returns-then-left-lt3 c =
    let a = c.args in
    let bs = source a.packed a.s.now in
    omega (arith, before_last (drop a.at bs) (rw length-drop (omega arith)), length-drop a.at bs)

pub loop-i-init : goal.loop-i-init
loop-i-init c = (rw add-zero c.byte_at-first.ensures, rw add-zero c.byte_at-second.ensures, rw add-zero (omega arith))

pub overflow_add-at-in-loop-i-2 : goal.overflow_add-at-in-loop-i-2
overflow_add-at-in-loop-i-2 c =
    let a = c.args in
    omega (arith, source-le a.packed a.s.now)

pub returns-then-are_equal : goal.returns-then-are_equal
returns-then-are_equal c =
    let bytes : List ℕ = source c.args.packed c.args.s.now in
    let test-is : repeats (drop (c.args.at + c.loop-i.i) (bytes)) ≡ c.are_equal.result = let inv = c.loop-i.invariant in
    three-equal (bytes) (c.args.at + c.loop-i.i) (omega arith)
    ∙ sym (rw (← inv.0, ← inv.1, ← c.byte_at-third.ensures) c.are_equal.ensures) in
    let l = c.loop-i in
    omega (arith, unlike-stop (bytes) c.args.at l.i (test-is ∙ c.if-are_equal.true) l.invariant.2)

pub loop-i-preserved : goal.loop-i-preserved
loop-i-preserved c =
    let bytes : List ℕ = source c.args.packed c.args.s.now in
    let test-is : repeats (drop (c.args.at + c.loop-i.i) (bytes)) ≡ c.are_equal.result = let inv = c.loop-i.invariant in
    three-equal (bytes) (c.args.at + c.loop-i.i) (omega arith)
    ∙ sym (rw (← inv.0, ← inv.1, ← c.byte_at-third.ensures) c.are_equal.ensures) in
    let l = c.loop-i in
    let at = c.args.at in
    let z : at + l.i + 1 ≡ at + (l.i + 1) = omega arith in
    let y : at + l.i + 2 ≡ at + (l.i + 1) + 1 = omega arith in (
      rw z at l.invariant.1,
      rw y at c.byte_at-third.ensures,
      unlike-more (bytes) at l.i (omega arith) (test-is ∙ c.if-are_equal.false) l.invariant.2,
    )

pub returns : goal.returns
returns c =
    let a = c.args in
    let n = c.count.ensures in
    let most : c.min-most.result ≡ min 128 (c.count.result - a.at) = omega (arith, c.min-most.ensures) in
    let stop : c.min-stop.result ≡ min 128 (c.count.result - a.at - 2) = omega (arith, c.min-stop.ensures) in
    unlike-done (source a.packed a.s.now) a.at c.loop-i.i c.min-most.result c.min-stop.result
    (rw n at most) (rw n at stop) (rw n at c.if-left-lt3.false) (omega arith) c.loop-i-test.false c.loop-i.invariant.2
