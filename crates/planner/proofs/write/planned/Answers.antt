use Prim.Native.Nat.{◌+◌, ◌-◌}
use native.Mathlib.Omega.{arith}
use mathlib.Core.List.{◌++◌}
use lib.ListN.{length, take, drop}
use Rattle.planner.specs.Walk.{columns}
use Rattle.planner.proofs.Segments.{are-equal, covers-le}
use Rattle.planner.proofs.Accepting.{tests}
use Rattle.planner.proofs.Planning.{Plan, plan-first, plan-end, the-next, plan-next}
use Rattle.planner.proofs.write.planned.Goals as goal

pub loop-k-init : goal.loop-k-init
loop-k-init c = plan-first _ _ _ _ c.requires

pub at-s-requires : goal.at-s-requires
at-s-requires c =
    let a = c.args in
    let e = are-equal (columns a.p)
    (tests a.signed a.rows.now (columns a.p)
    (length a.out.now) c.requires).0 in
    omega (arith, e.counts, e.forms, e.widths, e.bases)

pub slice_bounds-step-count : goal.slice_bounds-step-count
slice_bounds-step-count c = c.loop-k.invariant.grown.inside

pub step-n-requires : goal.step-n-requires
step-n-requires c = let l = c.loop-k in covers-le _ l.row _ l.invariant.covering

pub overflow_add-row : goal.overflow_add-row
overflow_add-row c =
    let l = c.loop-k in
    omega (
      arith,
      (the-next _ _ _ _ l.out l.k l.row l.bytes l.invariant c.loop-k-test.true c.at-s.result
          c.at-s.ensures).within,
      c.well_formed.0.0,
    )

pub overflow_add-bytes : goal.overflow_add-bytes
overflow_add-bytes c =
    let turn : (let l = c.loop-k in let a = c.args in
    Plan a.signed a.rows.now (columns a.p)
    a.out.now (take l.bytes l.out
    ++ (c.step-n.new.out ++ drop (length l.out - l.bytes) (drop l.bytes l.out))) (l.k + 1)
    (l.row + c.at-s.result.count) (l.bytes + c.step-n.result.bytes)) = let l = c.loop-k in
    plan-next _ _ _ _ l.out l.k l.row l.bytes l.invariant c.loop-k-test.true c.at-s.result
    c.at-s.ensures _ _ c.step-n.ensures in
    omega (arith, turn.grown.inside, turn.grown.long, c.well_formed)

pub returns : goal.returns
returns c = let l = c.loop-k in plan-end _ _ _ _ l.out l.k l.row l.bytes l.invariant c.loop-k-test.false

pub loop-k-preserved : goal.loop-k-preserved
loop-k-preserved c =
    let turn : (let l = c.loop-k in let a = c.args in
    Plan a.signed a.rows.now (columns a.p)
    a.out.now (take l.bytes l.out
    ++ (c.step-n.new.out ++ drop (length l.out - l.bytes) (drop l.bytes l.out))) (l.k + 1)
    (l.row + c.at-s.result.count) (l.bytes + c.step-n.result.bytes)) = let l = c.loop-k in
    plan-next _ _ _ _ l.out l.k l.row l.bytes l.invariant c.loop-k-test.true c.at-s.result
    c.at-s.ensures _ _ c.step-n.ensures in
    turn

pub shape_of-out : goal.shape_of-out
shape_of-out c = c.loop-k.invariant.grown.long
