use mathlib.Core.List.{◌++◌}
use Prim.Native.Nat.{◌+◌, ◌-◌}
use native.Mathlib.Omega.{arith}
use lib.ListN.{length, take, drop}
use Rattle.planner.proofs.Widely.{Widely, wide-first, wide-next, wide-end}
use Rattle.planner.proofs.write.wide.Goals as goal

pub loop-row-init : goal.loop-row-init
loop-row-init c = wide-first _ _ _ c.requires

pub slice_bounds-wide_run-count : goal.slice_bounds-wide_run-count
slice_bounds-wide_run-count c = c.loop-row.invariant.grown.inside

pub wide_run-size-requires : goal.wide_run-size-requires
wide_run-size-requires c = omega (arith, c.part_rows-n.ensures, c.loop-row.invariant.row_in)

pub overflow_add-runs : goal.overflow_add-runs
overflow_add-runs c =
    let turn : (let l = c.loop-row in let a = c.args in
    Widely a.signed a.rows.now a.out.now
    (take l.bytes l.out ++ (c.wide_run-size.new.out ++ drop (length l.out - l.bytes) (drop l.bytes l.out)))
    (l.runs + 1) (l.row + c.part_rows-n.result.rows) (l.bytes + c.wide_run-size.result.bytes)) = let l = c.loop-row in
    wide-next _ _ _ l.out l.runs l.row l.bytes l.invariant c.know.ensures c.loop-row-test.true _
    c.part_rows-n.ensures _ _ c.wide_run-size.ensures in
    omega (arith, turn.few, turn.row_in, c.well_formed.0.0)

pub overflow_add-row : goal.overflow_add-row
overflow_add-row c =
    let turn : (let l = c.loop-row in let a = c.args in
    Widely a.signed a.rows.now a.out.now
    (take l.bytes l.out ++ (c.wide_run-size.new.out ++ drop (length l.out - l.bytes) (drop l.bytes l.out)))
    (l.runs + 1) (l.row + c.part_rows-n.result.rows) (l.bytes + c.wide_run-size.result.bytes)) = let l = c.loop-row in
    wide-next _ _ _ l.out l.runs l.row l.bytes l.invariant c.know.ensures c.loop-row-test.true _
    c.part_rows-n.ensures _ _ c.wide_run-size.ensures in
    omega (arith, turn.row_in, c.well_formed.0.0)

pub overflow_add-bytes : goal.overflow_add-bytes
overflow_add-bytes c =
    let turn : (let l = c.loop-row in let a = c.args in
    Widely a.signed a.rows.now a.out.now
    (take l.bytes l.out ++ (c.wide_run-size.new.out ++ drop (length l.out - l.bytes) (drop l.bytes l.out)))
    (l.runs + 1) (l.row + c.part_rows-n.result.rows) (l.bytes + c.wide_run-size.result.bytes)) = let l = c.loop-row in
    wide-next _ _ _ l.out l.runs l.row l.bytes l.invariant c.know.ensures c.loop-row-test.true _
    c.part_rows-n.ensures _ _ c.wide_run-size.ensures in
    omega (arith, turn.grown.inside, turn.grown.long, c.well_formed)

pub loop-row-smaller : goal.loop-row-smaller
loop-row-smaller c =
    omega (arith, c.part_rows-n.ensures, c.loop-row-test.true)

pub returns : goal.returns
returns c = let l = c.loop-row in wide-end _ _ _ l.out l.runs l.row l.bytes l.invariant c.loop-row-test.false

pub overflow_sub-left : goal.overflow_sub-left
overflow_sub-left c = c.loop-row.invariant.row_in

pub loop-row-preserved : goal.loop-row-preserved
loop-row-preserved c =
    let turn : (let l = c.loop-row in let a = c.args in
    Widely a.signed a.rows.now a.out.now
    (take l.bytes l.out ++ (c.wide_run-size.new.out ++ drop (length l.out - l.bytes) (drop l.bytes l.out)))
    (l.runs + 1) (l.row + c.part_rows-n.result.rows) (l.bytes + c.wide_run-size.result.bytes)) = let l = c.loop-row in
    wide-next _ _ _ l.out l.runs l.row l.bytes l.invariant c.know.ensures c.loop-row-test.true _
    c.part_rows-n.ensures _ _ c.wide_run-size.ensures in
    turn

pub shape_of-out : goal.shape_of-out
shape_of-out c = c.loop-row.invariant.grown.long
