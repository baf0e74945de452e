-- The run reader keeps its promise: "end" where nothing is left, and else the answer of the kind that the first byte names. Assumes nothing.
use Rattle.std.specs.Prelude.{None, Ok}
use native.Mathlib.Omega.{arith}
use Rattle.format.proofs.Reading.{gives_none}
use Rattle.rle_v2.proofs.ByKind.{nothing-there, is-short, is-direct, is-patched, is-delta}
use Rattle.rle_v2.proofs.read_run.Goals as goal

pub returns-then-input-p : goal.returns-then-input-p
returns-then-input-p c = let a = c.args in gives_none a.at.bytes _ a.signed _ a.out.now (Ok None) tt (rw (nothing-there a.input.now a.at.bytes c.if-input-p.true))

pub returns-in-0 : goal.returns-in-0
returns-in-0 c = let a = c.args in rw (is-short a.input.now a.at.bytes c.if-input-p.false c.in-0.is) c.read.ensures

pub returns-in-1 : goal.returns-in-1
returns-in-1 c = let a = c.args in rw (is-direct a.input.now a.at.bytes c.if-input-p.false c.in-1.is) c.read-in-1.ensures

pub returns-in-2 : goal.returns-in-2
returns-in-2 c = let a = c.args in rw (is-patched a.input.now a.at.bytes c.if-input-p.false c.in-2.is) c.read-in-2.ensures

pub returns-in_default : goal.returns-in_default
returns-in_default c = let a = c.args in rw (is-delta a.input.now a.at.bytes c.if-input-p.false (omega (arith, c.type_inv.input a.at.bytes))) c.read-in_default.ensures
