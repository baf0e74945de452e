-- `take_came` meets its contract: what it does is by what the system answered. Assumes nothing.
use Rattle.std.proofs.Common.{sym, refl, ◌∙◌, arith, to_z-of_z, w32, w64, SFits}
use Rattle.blocks.proofs.Turns.{held_all, some-came, at-end, read-failed}
use Rattle.totals.proofs.take_came.Goals as goal

pub returns-then-block-gt0 : goal.returns-then-block-gt0
returns-then-block-gt0 g c =
    let f : SFits w64 c.args.block.got = record { sfits = omega arith } in
    let (k, h) = some-came c.args.block.got (rw (to_z-of_z f) at c.if-block-gt0.true) in
    rw h c.take_block.ensures

pub take_last-requires : goal.take_last-requires
take_last-requires g c =
    let b = c.args.block in
    let f : SFits w64 b.got = record { sfits = omega arith } in
    ((held_all c.args.input.now b.held b.got c.requires.0 (rw (to_z-of_z f) at c.if-block-gt0.false) c.requires.1).1, c.requires.2)

pub returns-then-block-eq0 : goal.returns-then-block-eq0
returns-then-block-eq0 g c =
    let f : SFits w64 c.args.block.got = record { sfits = omega arith } in
    rw (at-end c.args.block.got f c.if-block-eq0.true) c.take_last.ensures

pub returns-then-not-is_not_ready : goal.returns-then-not-is_not_ready
returns-then-not-is_not_ready g c =
    let b = c.args.block in
    let f : SFits w64 b.got = record { sfits = omega arith } in
    let e : SFits w32 b.error = record { sfits = omega arith } in
    let (k, h) = read-failed b.got (rw (to_z-of_z f) at c.if-block-gt0.false) c.if-block-eq0.false in
    let r = sym (rw (to_z-of_z e) at c.is_not_ready.ensures) ∙ c.if-not-is_not_ready.true in
    rw h (record { nothing = refl; goes_on = rw r })

pub returns-then-block-eq-EAGAIN : goal.returns-then-block-eq-EAGAIN
returns-then-block-eq-EAGAIN g c =
    let b = c.args.block in
    let f : SFits w64 b.got = record { sfits = omega arith } in
    let e : SFits w32 b.error = record { sfits = omega arith } in
    let (k, h) = read-failed b.got (rw (to_z-of_z f) at c.if-block-gt0.false) c.if-block-eq0.false in
    let r = sym (rw (to_z-of_z e) at c.is_not_ready.ensures) ∙ c.if-not-is_not_ready.false in
    rw h (record { nothing = refl; goes_on = rw r })

pub returns-else-block-eq-EAGAIN : goal.returns-else-block-eq-EAGAIN
returns-else-block-eq-EAGAIN g c =
    let b = c.args.block in
    let f : SFits w64 b.got = record { sfits = omega arith } in
    let e : SFits w32 b.error = record { sfits = omega arith } in
    let (k, h) = read-failed b.got (rw (to_z-of_z f) at c.if-block-gt0.false) c.if-block-eq0.false in
    let r = sym (rw (to_z-of_z e) at c.is_not_ready.ensures) ∙ c.if-not-is_not_ready.false in
    rw h (record { nothing = refl; goes_on = rw r })
