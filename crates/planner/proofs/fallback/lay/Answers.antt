use mathlib.Core.Path.{refl}
use Prim.Native.Nat.{◌*◌}
use mir.Syntax.{w64}
use mir.Val.{Fits}
use native.Mathlib.Omega.{arith}
use Rattle.proposer.specs.Proposed.{Proposed}
use Rattle.planner.proofs.Falling.{laying-first, next-places, laying-on}
use Rattle.planner.proofs.fallback.lay.Goals as goal

-- a run begins within the rows
pub overflow_mul-row : goal.overflow_mul-row
overflow_mul-row c =
    omega (arith, c.loop-k-test.true, c.requires.0, c.well_formed)

pub overflow_sub-left : goal.overflow_sub-left
overflow_sub-left c =
    omega (arith, c.loop-k-test.true, c.requires.0)

pub bounds-first-k : goal.bounds-first-k
bounds-first-k c =
    let places : (let l = c.loop-k in
    Proposed l.first l.counts l.forms l.widths l.bases c.args.runs) = let l = c.loop-k in
    next-places _ _ _ _ _ l.invariant c.loop-k-test.true c.requires.1 in
    omega (arith, c.loop-k-test.true, places.in-first)

pub bounds-counts-k : goal.bounds-counts-k
bounds-counts-k c =
    let places : (let l = c.loop-k in
    Proposed l.first l.counts l.forms l.widths l.bases c.args.runs) = let l = c.loop-k in
    next-places _ _ _ _ _ l.invariant c.loop-k-test.true c.requires.1 in
    omega (arith, c.loop-k-test.true, places.in-counts)

pub bounds-forms-k : goal.bounds-forms-k
bounds-forms-k c =
    let places : (let l = c.loop-k in
    Proposed l.first l.counts l.forms l.widths l.bases c.args.runs) = let l = c.loop-k in
    next-places _ _ _ _ _ l.invariant c.loop-k-test.true c.requires.1 in
    omega (arith, c.loop-k-test.true, places.in-forms)

pub bounds-widths-k : goal.bounds-widths-k
bounds-widths-k c =
    let places : (let l = c.loop-k in
    Proposed l.first l.counts l.forms l.widths l.bases c.args.runs) = let l = c.loop-k in
    next-places _ _ _ _ _ l.invariant c.loop-k-test.true c.requires.1 in
    omega (arith, c.loop-k-test.true, places.in-widths)

pub bounds-bases-k : goal.bounds-bases-k
bounds-bases-k c =
    let places : (let l = c.loop-k in
    Proposed l.first l.counts l.forms l.widths l.bases c.args.runs) = let l = c.loop-k in
    next-places _ _ _ _ _ l.invariant c.loop-k-test.true c.requires.1 in
    omega (arith, c.loop-k-test.true, places.in-bases)

pub loop-k-preserved : goal.loop-k-preserved
loop-k-preserved c =
    let l = c.loop-k in
    laying-on _ _ _ _ l.k l.invariant c.loop-k-test.true c.requires.1 _ _ refl c.part_rows-count.ensures

pub shape_of-first : goal.shape_of-first
shape_of-first c = c.loop-k.invariant.starts

pub returns : goal.returns
returns c = let l = c.loop-k in λ j h. l.invariant.laid j (omega (arith, h, c.loop-k-test.false))

pub loop-k-init : goal.loop-k-init
loop-k-init c = laying-first _ _ _

pub offset_bounds-first-k : goal.offset_bounds-first-k
offset_bounds-first-k c =
    let offset : Fits w64 (c.loop-k.k * 8) = omega (arith, c.loop-k-test.true, c.requires.0, c.well_formed) in
    offset

pub offset_bounds-counts-k : goal.offset_bounds-counts-k
offset_bounds-counts-k c =
    let offset : Fits w64 (c.loop-k.k * 8) = omega (arith, c.loop-k-test.true, c.requires.0, c.well_formed) in
    offset

pub offset_bounds-forms-k : goal.offset_bounds-forms-k
offset_bounds-forms-k c =
    let offset : Fits w64 (c.loop-k.k * 8) = omega (arith, c.loop-k-test.true, c.requires.0, c.well_formed) in
    offset

pub offset_bounds-widths-k : goal.offset_bounds-widths-k
offset_bounds-widths-k c =
    let offset : Fits w64 (c.loop-k.k * 8) = omega (arith, c.loop-k-test.true, c.requires.0, c.well_formed) in
    offset

pub offset_bounds-bases-k : goal.offset_bounds-bases-k
offset_bounds-bases-k c =
    let offset : Fits w64 (c.loop-k.k * 8) = omega (arith, c.loop-k-test.true, c.requires.0, c.well_formed) in
    offset

pub shape_of-counts : goal.shape_of-counts
shape_of-counts c = c.loop-k.invariant.counts

pub shape_of-forms : goal.shape_of-forms
shape_of-forms c = c.loop-k.invariant.forms

pub shape_of-widths : goal.shape_of-widths
shape_of-widths c = c.loop-k.invariant.widths

pub shape_of-bases : goal.shape_of-bases
shape_of-bases c = c.loop-k.invariant.bases
