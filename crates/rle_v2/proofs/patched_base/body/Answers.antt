-- Each answer is that of the law for the tests that led there. Assumes nothing.
use Prim.Native.Nat.{◌+◌, ◌≤◌}
use mathlib.Core.Path.{refl}
use Rattle.format.specs.Fields.{width}
use Rattle.rle_v2.proofs.PatchedRun.{broken-off}
use Rattle.rle_v2.proofs.patched_base.body.Goals as goal

pub returns-then-input-end : goal.returns-then-input-end
returns-then-input-end c =
    let not-2 : width c.args.h.patch + c.args.h.gap ≤ 64 = rw c.requires.2.patch-is at c.requires.3 in
    let a = c.args in
    let q = c.parts_of-q.ensures in
    rw (c.broke_off.ensures, q.values-is, q.list-is)
    (broken-off a.input.now a.at.bytes a.h.code a.h.rows.rows a.h.base a.h.patch a.h.gap a.h.entries not-2 c.requires.0 (rw q.end_is at c.if-input-end.true))

pub returns : goal.returns
returns c =
    let h = c.args.h in
    record {
      code = h.code;
      patch = h.patch;
      gap = h.gap;
      headed = record { fields_fit = c.requires.1; widths = c.requires.2; not-2 = c.requires.3; parts = c.parts_of-q.ensures; there = c.if-input-end.false; body = refl };
    }
