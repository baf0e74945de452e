use Rattle.format.proofs.Common.{◌≡◌, sym, ◌∙◌, List, ℕ, ◌+◌, arith, drop, get_or, length-drop}
use Rattle.byte_writer.specs.Flags.{source}
use Rattle.byte_writer.proofs.Stretches.{stretch-le, stretch-here, equal-more, equal-stop}
use Rattle.byte_writer.proofs.Packing.{source-le}
use Rattle.byte_writer.proofs.run.stretch_at.Goals as goal

pub loop-i-init : goal.loop-i-init
loop-i-init c =
    let a = c.args in
    (rw c.byte_at-first.ensures (stretch-here (source a.packed a.s.now) a.at (omega arith)))

pub overflow_add-at : goal.overflow_add-at
overflow_add-at c =
    let a = c.args in
    omega (arith, source-le a.packed a.s.now)

pub returns-then-byte_at-first : goal.returns-then-byte_at-first
returns-then-byte_at-first c =
    let bytes : List ℕ = source c.args.packed c.args.s.now in
    let first : ℕ = c.byte_at-first.result in
    let l = c.loop-i in
    let e =
    equal-stop (bytes) c.args.at l.i (first) (omega arith) (λ q. c.if-byte_at-first.true (c.byte_at.ensures ∙ q)) l.invariant in
    omega arith

pub loop-i-preserved : goal.loop-i-preserved
loop-i-preserved c =
    let bytes : List ℕ = source c.args.packed c.args.s.now in
    let first : ℕ = c.byte_at-first.result in
    let l = c.loop-i in
    let same : get_or (bytes) (c.args.at + l.i) 0 ≡ first = sym c.byte_at.ensures ∙ c.if-byte_at-first.false in
    equal-more (bytes) c.args.at l.i (first) (omega arith) same l.invariant

pub returns : goal.returns
returns c =
    let a = c.args in
    let bs = source a.packed a.s.now in
    omega (arith, stretch-le (drop a.at bs), length-drop a.at bs)
