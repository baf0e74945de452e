-- `run::alone_at`: no stretch is longer than the bytes, so counting up to their number is counting all of it. Assumes nothing.
use Rattle.format.proofs.Common.{◌≡◌, sym, arith, drop, length-drop}
use Rattle.byte_writer.specs.Choice.{stretch}
use Rattle.byte_writer.specs.Flags.{source}
use Rattle.byte_writer.proofs.Stretches.{stretch-le}
use Rattle.byte_writer.proofs.Cuts.{alone-one, alone-none, alone-end}
use Rattle.byte_writer.proofs.run.alone_at.Goals as goal

pub returns-then-n-at : goal.returns-then-n-at
returns-then-n-at c =
    let a = c.args in
    sym (alone-end (source a.packed a.s.now) a.at (omega arith))

pub returns-then-stretch_at-eq1 : goal.returns-then-stretch_at-eq1
returns-then-stretch_at-eq1 c =
    let counted : (let a = c.args in
    c.stretch_at.result ≡ stretch (drop a.at (source a.packed a.s.now))) = let a = c.args in
    let bs = source a.packed a.s.now in
    omega (arith, stretch-le (drop a.at bs), length-drop a.at bs) in
    sym (alone-one _ (rw (counted) at c.if-stretch_at-eq1.true))

pub returns : goal.returns
returns c =
    let counted : (let a = c.args in
    c.stretch_at.result ≡ stretch (drop a.at (source a.packed a.s.now))) = let a = c.args in
    let bs = source a.packed a.s.now in
    omega (arith, stretch-le (drop a.at bs), length-drop a.at bs) in
    sym (alone-none _ (rw (counted) at c.if-stretch_at-eq1.false))
