-- An entry of the list is taken apart as the definition says. Assumes nothing.
use Prim.Native.Nat.{◌<◌, ◌^◌}
use native.Mathlib.Omega.{arith}
use borrow.Author.Tests.{eq-eqb, ne_eqb}
use Rattle.format.proofs.Below.{below_all}
use Rattle.util.proofs.Window.{field-there}
use Rattle.rle_v2.proofs.PatchRows.{entry-is}
use Rattle.rle_v2.proofs.PatchWalk.{entry_next}
use Rattle.rle_v2.proofs.patch_list.PatchList.entry.Goals as goal

pub field-e-requires : goal.field-e-requires
field-e-requires c =
    let a = c.args.self in
    record { width = a.listed.wide; k_bound = (omega (arith, c.requires, a.listed.entries), field-there a.bits a.n c.args.k a.list.now c.requires a.listed.there) }

pub returns-then-gap-eq255-clause-apart : goal.returns-then-gap-eq255-clause-apart
returns-then-gap-eq255-clause-apart c =
    let f : c.field-e.result < 2 ^ 64 = c.field-e.type_inv in
    entry-is c.args.self.pw _ _ _ _ c.field-e.ensures c.cut-patch.ensures c.args.self.listed.some f (rw (eq-eqb _ _ c.if-gap-eq255.true))

pub returns-else-gap-eq255-clause-apart : goal.returns-else-gap-eq255-clause-apart
returns-else-gap-eq255-clause-apart c =
    let f : c.field-e.result < 2 ^ 64 = c.field-e.type_inv in
    entry-is c.args.self.pw _ _ _ _ c.field-e.ensures c.cut-patch.ensures c.args.self.listed.some f (rw (ne_eqb _ _ c.if-gap-eq255.false))

pub returns-then-gap-eq255-clause-next : goal.returns-then-gap-eq255-clause-next
returns-then-gap-eq255-clause-next c =
    let a = c.args.self in
    entry_next a.bits a.n c.args.k a.list.now (below_all 256 a.list.now a.bytes) c.requires a.listed.there

pub returns-else-gap-eq255-clause-next : goal.returns-else-gap-eq255-clause-next
returns-else-gap-eq255-clause-next c =
    let a = c.args.self in
    entry_next a.bits a.n c.args.k a.list.now (below_all 256 a.list.now a.bytes) c.requires a.listed.there
