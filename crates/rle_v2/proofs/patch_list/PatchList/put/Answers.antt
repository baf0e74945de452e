use mathlib.Core.Path.{◌≡◌}
use mathlib.Core.Bool.{false}
use Prim.Native.Nat.{◌+◌, ◌<◌}
use native.Mathlib.Nat.{add-mod-mod}
use lib.ListN.{length, get_or}
use borrow.Author.Tests.{not-true, not-false}
use Rattle.util.specs.Packed.{fields}
use Rattle.util.proofs.Window.{length_fields}
use Rattle.rle_v2.proofs.PatchWalk.{put_first, put_last, put-skip, put-inside, put-named}
use lib.IntN.{pos}
use Rattle.rle_v2.proofs.Pass.{written, bits_of}
use native.Mathlib.Omega.{arith}
use Rattle.rle_v2.proofs.patch_list.PatchList.put.Goals as goal
use Rattle.rle_v2.proofs.patch_list.PatchList.put.Goals.{then-not-e, else-not-e}

pub loop-k-init : goal.loop-k-init
loop-k-init c = put_first _ _ _ _ _ c.requires.1

pub overflow_add-row : goal.overflow_add-row
overflow_add-row c = omega (arith, c.entry-e.ensures.apart.gap-lt, c.loop-k.invariant.low)

pub offset_bounds-out-row : goal.offset_bounds-out-row
offset_bounds-out-row c =
    let named : c.entry-e.result.skip ≡ false → c.loop-k.row + c.entry-e.result.gap < c.args.self.count.rows = λ y. let l = c.loop-k in
    let a = c.args in
    put-inside a.self.width a.self.pw a.self.count.rows (fields a.self.bits a.self.n a.self.list.now) a.out.now l.out l.k l.row _ _ _ _ l.invariant c.entry-e.ensures.next c.entry-e.ensures.apart y in
    omega (arith, named (not-true _ c.if-not-e.true), c.args.self.widths.2)

pub slice_copy_out-cast_unsigned : goal.slice_copy_out-cast_unsigned
slice_copy_out-cast_unsigned c =
    let named : c.entry-e.result.skip ≡ false → c.loop-k.row + c.entry-e.result.gap < c.args.self.count.rows = λ y. let l = c.loop-k in
    let a = c.args in
    put-inside a.self.width a.self.pw a.self.count.rows (fields a.self.bits a.self.n a.self.list.now) a.out.now l.out l.k l.row _ _ _ _ l.invariant c.entry-e.ensures.next c.entry-e.ensures.apart y in
    let inside : c.entry-e.result.skip ≡ false → c.loop-k.row + c.entry-e.result.gap < length c.loop-k.out = λ y. omega (arith, named y, c.loop-k.invariant.long, c.requires.0) in
    inside (not-true _ c.if-not-e.true)

pub offset_bounds-out-row-then-not-e : goal.offset_bounds-out-row-then-not-e
offset_bounds-out-row-then-not-e c =
    let named : c.entry-e.result.skip ≡ false → c.loop-k.row + c.entry-e.result.gap < c.args.self.count.rows = λ y. let l = c.loop-k in
    let a = c.args in
    put-inside a.self.width a.self.pw a.self.count.rows (fields a.self.bits a.self.n a.self.list.now) a.out.now l.out l.k l.row _ _ _ _ l.invariant c.entry-e.ensures.next c.entry-e.ensures.apart y in
    omega (arith, named (not-true _ c.if-not-e.true), c.args.self.widths.2)

pub bounds-out-row : goal.bounds-out-row
bounds-out-row c =
    let named : c.entry-e.result.skip ≡ false → c.loop-k.row + c.entry-e.result.gap < c.args.self.count.rows = λ y. let l = c.loop-k in
    let a = c.args in
    put-inside a.self.width a.self.pw a.self.count.rows (fields a.self.bits a.self.n a.self.list.now) a.out.now l.out l.k l.row _ _ _ _ l.invariant c.entry-e.ensures.next c.entry-e.ensures.apart y in
    let inside : c.entry-e.result.skip ≡ false → c.loop-k.row + c.entry-e.result.gap < length c.loop-k.out = λ y. omega (arith, named y, c.loop-k.invariant.long, c.requires.0) in
    inside (not-true _ c.if-not-e.true)

pub loop-k-preserved : goal.loop-k-preserved
loop-k-preserved c =
    let l = c.loop-k in
    let a = c.args in
    let es = fields a.self.bits a.self.n a.self.list.now in
    elim c.if-not-e.branch [
      | then-not-e w ↦
          let bits = bits_of (get_or l.out (l.row + c.entry-e.result.gap) (pos 0)) _ (omega arith) w.cast_unsigned.ensures in
          rw w.out-is
          (put-named a.self.width a.self.pw a.self.count.rows es a.out.now l.out l.k l.row _ _ _ _ l.invariant c.entry-e.ensures.next c.entry-e.ensures.apart (not-true _ w.if-not-e.true) c.args.self.widths.2 _
          (rw (written _ _ (omega arith) (omega arith) w.cast_signed.ensures, bits, w.raised-patch.ensures, add-mod-mod)))
      | else-not-e w ↦
          rw w.out-is
          (put-skip a.self.width a.self.pw a.self.count.rows es a.out.now l.out l.k l.row _ _ _ _ l.invariant c.entry-e.ensures.next c.entry-e.ensures.apart (not-false _ w.if-not-e.false))
    ]

pub returns : goal.returns
returns c =
    let l = c.loop-k in
    let a = c.args in
    put_last a.self.width a.self.pw a.self.count.rows (fields a.self.bits a.self.n a.self.list.now) a.out.now l.out l.k l.row l.invariant (rw length_fields c.loop-k-test.false)

pub shape_of-out : goal.shape_of-out
shape_of-out c = c.loop-k.invariant.long
