use Rattle.format.proofs.Common.{◌≡◌, refl, ◌∙◌, ◌+◌, arith, add-one, drop, length-set, length-drop}
use Rattle.format.proofs.Common.{paste-zero, paste-suc, get_or-drop, length-take-le}
use Rattle.byte_writer.specs.Flags.{source}
use Rattle.byte_writer.proofs.Packing.{source-le}
use Rattle.byte_writer.proofs.run.put_bytes.Goals as goal

pub loop-i-init : goal.loop-i-init
loop-i-init c =
    let a = c.args in
    (refl, paste-zero a.out.now a.k (drop a.at (source a.packed a.s.now)))

pub overflow_add-at : goal.overflow_add-at
overflow_add-at c =
    let a = c.args in
    omega (arith, source-le a.packed a.s.now)

pub loop-i-preserved : goal.loop-i-preserved
loop-i-preserved c =
    let l = c.loop-i in
    let a = c.args in
    let bs = source a.packed a.s.now in (
      length-set l.out (a.k + l.i) _ ∙ l.invariant.0,
      rw (l.invariant.1, add-one, c.byte_at.ensures, ← get_or-drop a.at bs l.i 0)
          (paste-suc a.out.now a.k (drop a.at bs) l.i 0 (omega arith) (rw length-drop (omega arith))),
    )

pub returns : goal.returns
returns c =
    let l = c.loop-i in
    let a = c.args in
    let bs = drop a.at (source a.packed a.s.now) in
    let e : l.i ≡ a.count = omega arith in
    rw (length-take-le a.count bs (rw length-drop (omega arith))) (rw e at l.invariant.1)
