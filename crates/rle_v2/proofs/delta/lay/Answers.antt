-- Each form's rows are those of the law for it. Assumes nothing.
use native.Mathlib.Omega.{arith}
use lib.ListN.{length-drop}
use Rattle.util.proofs.Grow.{rest-is}
use Rattle.rle_v2.specs.DeltaStart.{Behind}
use Rattle.rle_v2.proofs.DeltaRows.{steps-laid, packed-laid}
use Rattle.rle_v2.proofs.delta.lay.Goals as goal

pub lay_packed-requires : goal.lay_packed-requires
lay_packed-requires c =
    let behind : (let a = c.args in Behind a.input.now a.f) = c.requires.0 c.if-f-eq0.false in
    let b = behind in
    record { width = b.wide; rows_bound = (omega (arith, b.few), omega (arith, b.two, c.requires.1), rw (rest-is c.args.input.now c.args.f.next.bytes, length-drop) b.there) }

pub returns-then-f-eq0 : goal.returns-then-f-eq0
returns-then-f-eq0 c =
    let a = c.args in
    steps-laid a.input.now a.signed a.f a.out.now _ c.if-f-eq0.true c.requires.1
    (rw (rw (c.row-first.ensures, c.unzigzag-step.ensures) at c.steps.ensures))

pub returns-else-f-eq0 : goal.returns-else-f-eq0
returns-else-f-eq0 c =
    let behind : (let a = c.args in Behind a.input.now a.f) = c.requires.0 c.if-f-eq0.false in
    let a = c.args in
    packed-laid a.input.now a.signed a.f a.out.now c.lay_packed.new.out _ _ c.row-first.ensures c.unzigzag-step.ensures c.if-f-eq0.false
    behind.two (rw (rest-is a.input.now a.f.next.bytes) at c.lay_packed.ensures)

pub overflow_sub-n : goal.overflow_sub-n
overflow_sub-n c =
    let behind : (let a = c.args in Behind a.input.now a.f) = c.requires.0 c.if-f-eq0.false in
    behind.two

pub slice_bounds-lay_packed-count : goal.slice_bounds-lay_packed-count
slice_bounds-lay_packed-count c =
    let behind : (let a = c.args in Behind a.input.now a.f) = c.requires.0 c.if-f-eq0.false in
    behind.within

pub slice_bounds-lay_packed-start : goal.slice_bounds-lay_packed-start
slice_bounds-lay_packed-start c =
    let behind : (let a = c.args in Behind a.input.now a.f) = c.requires.0 c.if-f-eq0.false in
    behind.within
