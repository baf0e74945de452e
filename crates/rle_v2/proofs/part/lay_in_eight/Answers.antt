-- The eight is unpacked from its first byte on, so the fields copied out of it are those of the block. Assumes nothing.
use mathlib.Core.Path.{◌≡◌, ap}
use Prim.Native.Nat.{◌+◌, ◌-◌, ◌*◌, ◌/◌, ◌%◌}
use mathlib.Core.List.{List, ◌++◌}
use lib.IntN.{ℤ}
use native.Mathlib.Omega.{arith}
use lib.ListN.{drop, length-drop}
use Rattle.format.specs.Digits.{AllBelow}
use Rattle.format.proofs.Below.{below_all}
use Rattle.util.proofs.Grow.{rest-is}
use Rattle.rle_v2.proofs.PartFields.{eight-before, eight-after, in-eight}
use Rattle.rle_v2.proofs.part.lay_in_eight.Goals as goal

pub overflow_mul-skip : goal.overflow_mul-skip
overflow_mul-skip c =
    let bytes : AllBelow 256 c.args.s.now = below_all 256 c.args.s.now (λ i. (c.type_inv.s i).fits) in
    omega (arith, eight-before c.requires.part_there (bytes), c.well_formed)

pub slice_bounds-unpack-count : goal.slice_bounds-unpack-count
slice_bounds-unpack-count c =
    let bytes : AllBelow 256 c.args.s.now = below_all 256 c.args.s.now (λ i. (c.type_inv.s i).fits) in
    eight-before c.requires.part_there (bytes)

pub slice_bounds-unpack-start : goal.slice_bounds-unpack-start
slice_bounds-unpack-start c =
    let bytes : AllBelow 256 c.args.s.now = below_all 256 c.args.s.now (λ i. (c.type_inv.s i).fits) in
    eight-before c.requires.part_there (bytes)

pub unpack-requires : goal.unpack-requires
unpack-requires c =
    let bytes : AllBelow 256 c.args.s.now = below_all 256 c.args.s.now (λ i. (c.type_inv.s i).fits) in
    let a = c.args in
    let y = c.requires.part_there in record {
      width = y.width;
      n_bound = (
        omega (arith, c.requires.n_bound),
        omega (arith, c.requires.n_bound),
        rw (rest-is a.s.now (a.skip / 8 * a.w), length-drop) (eight-after y (bytes)),
      );
    }

pub returns : goal.returns
returns c =
    let bytes : AllBelow 256 c.args.s.now = below_all 256 c.args.s.now (λ i. (c.type_inv.s i).fits) in
    let a = c.args in
    let k : a.skip % 8 + a.n - a.skip % 8 ≡ a.n = omega arith in
    in-eight c.requires.part_there (bytes) _ _ _ (rw (rest-is a.s.now (a.skip / 8 * a.w)) at c.unpack.ensures)
    (ap (λ (l : List ℤ). l ++ drop a.n a.out.now) (rw k at c.copy_from_slice.ensures.after))
