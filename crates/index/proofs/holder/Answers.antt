use native.Mathlib.Omega.{arith}
use mathlib.Core.Path.{ap, sym, ◌∙◌}
use Rattle.index.specs.Promises.{found_of}
use Rattle.index.proofs.Lists.{holder-here, holder-next, holder-none}
use Rattle.index.proofs.holder.Goals as goal

pub returns-then-holds : goal.returns-then-holds
returns-then-holds c =
    let a = c.args in
    let l = c.loop-i in
    let e = holder-here a.row.rows a.first.now a.at.now a.counts.now l.i (omega arith) c.requires.0 c.requires.1 (rw c.new-entry.ensures at (sym c.if-holds.true ∙ c.holds.ensures)) in
    rw c.new-entry.ensures (sym (ap found_of (l.invariant ∙ e)))

pub loop-i-preserved : goal.loop-i-preserved
loop-i-preserved c =
    let a = c.args in
    let l = c.loop-i in
    l.invariant
    ∙ holder-next a.row.rows a.first.now a.at.now a.counts.now l.i (omega arith) c.requires.0 c.requires.1 (rw c.new-entry.ensures at (sym c.if-holds.false ∙ c.holds.ensures))

pub returns : goal.returns
returns c =
    let a = c.args in
    let l = c.loop-i in
    rw c.refused.ensures
    (sym (ap found_of (l.invariant ∙ holder-none a.row.rows a.first.now a.at.now a.counts.now l.i (omega arith))))
