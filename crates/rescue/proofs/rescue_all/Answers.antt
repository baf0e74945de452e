use Prim.Native.Nat.{◌+◌, ◌<◌, ◌≤◌}
use native.Mathlib.Omega.{arith}
use lib.ListN.{length, get_or}
use mir.Syntax.{w64}
use mir.Facts.{to_z-of_z}
use Rattle.rescue.proofs.GroupsWalk.{few-verdict, byte-verdict, begun, end_fits, mark-fits, onward, done}
use Rattle.rescue.proofs.rescue_all.Goals as goal

-- ---- before the first group
pub position_at-requires : goal.position_at-requires
position_at-requires c = c.requires.skips-long

pub loop-i-init : goal.loop-i-init
loop-i-init c = begun _ _ _ _ _ _ _ _ _ _ c.position_at.ensures c.make_plain-here.ensures

-- ---- a turn
pub overflow_add-to : goal.overflow_add-to
overflow_add-to c =
    let ends : (let l = c.loop-i in let ns = c.args.counts.now in
    l.i < length ns → l.at + get_or ns l.i 0 ≤ length l.rows) = λ h. end_fits _ _ _ _ _ _ _ _ c.requires _ _ _ _ _ _ c.loop-i.invariant h in
    omega (arith, ends (omega arith), c.loop-i.invariant.rows_long, c.well_formed)

pub position_at-requires-in-loop-i : goal.position_at-requires-in-loop-i
position_at-requires-in-loop-i c = c.requires.skips-long

pub offset_bounds-rows-at : goal.offset_bounds-rows-at
offset_bounds-rows-at c =
    let ends : (let l = c.loop-i in let ns = c.args.counts.now in
    l.i < length ns → l.at + get_or ns l.i 0 ≤ length l.rows) = λ h. end_fits _ _ _ _ _ _ _ _ c.requires _ _ _ _ _ _ c.loop-i.invariant h in
    omega (arith, ends (omega arith), c.loop-i.invariant.rows_long)

pub slice_bounds-rescue-start : goal.slice_bounds-rescue-start
slice_bounds-rescue-start c =
    let ends : (let l = c.loop-i in let ns = c.args.counts.now in
    l.i < length ns → l.at + get_or ns l.i 0 ≤ length l.rows) = λ h. end_fits _ _ _ _ _ _ _ _ c.requires _ _ _ _ _ _ c.loop-i.invariant h in
    omega (arith, ends (omega arith), c.loop-i.invariant.rows_long)

pub slice_bounds-rescue-end : goal.slice_bounds-rescue-end
slice_bounds-rescue-end c =
    let ends : (let l = c.loop-i in let ns = c.args.counts.now in
    l.i < length ns → l.at + get_or ns l.i 0 ≤ length l.rows) = λ h. end_fits _ _ _ _ _ _ _ _ c.requires _ _ _ _ _ _ c.loop-i.invariant h in
    omega (arith, ends (omega arith), c.loop-i.invariant.rows_long)

pub bounds-verdicts-i : goal.bounds-verdicts-i
bounds-verdicts-i c =
    mark-fits _ _ _ _ _ _ _ _ c.requires _ _ _ _ _ _ c.loop-i.invariant (omega arith)

pub overflow_add-kept : goal.overflow_add-kept
overflow_add-kept c =
    let small : c.from-kept.result ≤ 1 = rw (c.from-kept.ensures, byte-verdict) (few-verdict c.rescue-keep.result) in
    omega (arith, small, c.loop-i.invariant.few)

pub loop-i-preserved : goal.loop-i-preserved
loop-i-preserved c =
    rw (c.from.ensures, c.from-kept.ensures)
    (onward _ _ _ _ _ _ _ _ c.requires _ _ _ _ _ _ c.loop-i.invariant (omega arith) _ _ _ _ _ (byte-verdict c.rescue-keep.result)
    c.position_at-in-loop-i.ensures c.make_plain-next.ensures c.rescue-keep.ensures)

-- ---- after the last group
pub returns : goal.returns
returns c =
    rw (to_z-of_z {w = w64} c.ranges.fill) at (done _ _ _ _ _ _ _ _ c.requires _ _ _ _ _ _ c.loop-i.invariant (omega arith))

pub shape_of-rows : goal.shape_of-rows
shape_of-rows c = c.loop-i.invariant.rows_long

pub shape_of-verdicts : goal.shape_of-verdicts
shape_of-verdicts c = c.loop-i.invariant.marks-long
