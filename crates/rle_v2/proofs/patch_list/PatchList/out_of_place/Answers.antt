use mathlib.Core.Path.{refl, sym, ◌∙◌}
use Rattle.util.specs.Packed.{fields}
use Rattle.util.proofs.Window.{length_fields}
use Rattle.rle_v2.proofs.PatchWalk.{large-next, large-here, large-none}
use Rattle.rle_v2.proofs.patch_list.PatchList.out_of_place.Goals as goal

pub returns-then-limit-e : goal.returns-then-limit-e
returns-then-limit-e c =
    let l = c.loop-k in
    let a = c.args in
    rw (sym l.invariant ∙ large-here a.self.width a.self.pw (fields a.self.bits a.self.n a.self.list.now) l.k _ _ c.entry-e.ensures.next c.entry-e.ensures.apart.patch-is (rw c.patch_limit-limit.ensures at c.if-limit-e.true))

pub loop-k-preserved : goal.loop-k-preserved
loop-k-preserved c =
    let l = c.loop-k in
    let a = c.args in
    sym (large-next a.self.width a.self.pw (fields a.self.bits a.self.n a.self.list.now) l.k _ _ c.entry-e.ensures.next c.entry-e.ensures.apart.patch-is (rw c.patch_limit-limit.ensures at c.if-limit-e.false)) ∙ l.invariant

pub returns : goal.returns
returns c =
    let l = c.loop-k in
    let a = c.args in
    rw (sym l.invariant ∙ large-none a.self.width a.self.pw (fields a.self.bits a.self.n a.self.list.now) l.k (rw length_fields c.loop-k-test.false))

pub loop-k-init : goal.loop-k-init
loop-k-init c = refl
