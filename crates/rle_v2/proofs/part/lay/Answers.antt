-- The fields up to the next eight are laid, and those after them begin with a byte. Assumes nothing.
use Prim.Native.Nat.{◌+◌, ◌*◌, ◌/◌, ◌≤◌}
use native.Mathlib.Omega.{arith}
use mathlib.Core.Path.{◌≡◌}
use lib.ListN.{length, length-drop}
use Rattle.format.specs.Digits.{AllBelow}
use Rattle.format.proofs.Below.{below_all}
use Rattle.util.proofs.Grow.{rest-is}
use Rattle.rle_v2.proofs.PartFields.{next-before, next-after, then_next}
use Rattle.rle_v2.proofs.part.lay.Goals as goal

pub lay_in_eight-requires : goal.lay_in_eight-requires
lay_in_eight-requires c =
    let y = c.requires in record {
      part_there = record {
        width = y.width;
        few = y.few;
        within = omega (arith, y.within, c.min-head.ensures);
        places = omega (arith, y.places, c.min-head.ensures);
        there = y.there;
      };
      n_bound = omega (arith, c.min-head.ensures);
    }

pub overflow_mul-skip : goal.overflow_mul-skip
overflow_mul-skip c =
    let bytes : AllBelow 256 c.args.s.now = below_all 256 c.args.s.now (λ i. (c.type_inv.s i).fits) in
    let before-next : (let a = c.args in (a.skip + c.min-head.result) / 8 * a.w ≤ length a.s.now) = next-before c.requires (bytes) c.min-head.result (omega (arith, c.if-head-n.true)) (omega (arith, c.if-head-n.true, c.min-head.ensures)) in
    omega (arith, before-next, c.well_formed)

pub slice_bounds-unpack-count : goal.slice_bounds-unpack-count
slice_bounds-unpack-count c =
    let bytes : AllBelow 256 c.args.s.now = below_all 256 c.args.s.now (λ i. (c.type_inv.s i).fits) in
    let before-next : (let a = c.args in (a.skip + c.min-head.result) / 8 * a.w ≤ length a.s.now) = next-before c.requires (bytes) c.min-head.result (omega (arith, c.if-head-n.true)) (omega (arith, c.if-head-n.true, c.min-head.ensures)) in
    before-next

pub slice_bounds-unpack-start : goal.slice_bounds-unpack-start
slice_bounds-unpack-start c =
    let bytes : AllBelow 256 c.args.s.now = below_all 256 c.args.s.now (λ i. (c.type_inv.s i).fits) in
    let before-next : (let a = c.args in (a.skip + c.min-head.result) / 8 * a.w ≤ length a.s.now) = next-before c.requires (bytes) c.min-head.result (omega (arith, c.if-head-n.true)) (omega (arith, c.if-head-n.true, c.min-head.ensures)) in
    before-next

pub unpack-requires : goal.unpack-requires
unpack-requires c =
    let bytes : AllBelow 256 c.args.s.now = below_all 256 c.args.s.now (λ i. (c.type_inv.s i).fits) in
    let a = c.args in
    let y = c.requires in
    let head = c.min-head.result in
    let one = c.lay_in_eight.new.out in record {
      width = y.width;
      n_bound = (
        omega (arith, y.few, y.within),
        rw (rest-is one head, length-drop) (omega (arith, y.places, c.lay_in_eight.auto.out)),
        rw (rest-is a.s.now ((a.skip + head) / 8 * a.w), length-drop)
            (next-after y (bytes) head (omega (arith, c.if-head-n.true)) (omega (arith, c.if-head-n.true, c.min-head.ensures))),
      );
    }

pub returns-then-head-n : goal.returns-then-head-n
returns-then-head-n c =
    let bytes : AllBelow 256 c.args.s.now = below_all 256 c.args.s.now (λ i. (c.type_inv.s i).fits) in
    let a = c.args in
    let head = c.min-head.result in
    let one = c.lay_in_eight.new.out in
    then_next c.requires (bytes) head (omega (arith, c.if-head-n.true)) (omega (arith, c.if-head-n.true, c.min-head.ensures)) one _ c.lay_in_eight.ensures
    (rw (rest-is a.s.now ((a.skip + head) / 8 * a.w), rest-is one head) at c.unpack.ensures)

-- all stand before the next eight
pub returns-else-head-n : goal.returns-else-head-n
returns-else-head-n c =
    let e : c.min-head.result ≡ c.args.n = omega (arith, c.if-head-n.false, c.min-head.ensures) in
    rw e at c.lay_in_eight.ensures
