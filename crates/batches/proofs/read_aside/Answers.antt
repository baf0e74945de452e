-- What the run reader laid aside holds the run's rows, so the part that is copied is the run's own. Assumes nothing.
use mathlib.Core.Path.{◌∙◌, ap}
use Rattle.std.specs.Prelude.{Ok}
use Prim.Native.Nat.{◌<◌}
use native.Mathlib.Omega.{arith}
use lib.ListN.{length}
use Rattle.format.specs.Fields.{two64}
use Rattle.batches.proofs.PartOfRun.{not-refused, not-ended, held-run, part-read}
use Rattle.batches.proofs.read_aside.Goals as goal

-- ---- the run fits into few places
pub lay_part-requires : goal.lay_part-requires
lay_part-requires c =
    let small : length c.args.input.now < two64 = omega (arith, c.well_formed) in
    held-run c.requires c.read_run-a.ensures (c.in-Ok-Some.is ∙ ap Ok (rw c.in-Ok-Some.is at c.in-Ok-Some.field-0-is)) (small)

pub returns-in-Ok-Some : goal.returns-in-Ok-Some
returns-in-Ok-Some c =
    part-read c.requires c.read_run-a.ensures (c.in-Ok-Some.is ∙ ap Ok (rw c.in-Ok-Some.is at c.in-Ok-Some.field-0-is)) c.lay_part.ensures

-- ---- or not
pub lay_part-requires-in-Ok-Some-b : goal.lay_part-requires-in-Ok-Some-b
lay_part-requires-in-Ok-Some-b c =
    let small : length c.args.input.now < two64 = omega (arith, c.well_formed) in
    held-run c.requires c.read_run-b.ensures (c.in-Ok-Some-b.is ∙ ap Ok (rw c.in-Ok-Some-b.is at c.in-Ok-Some-b.field-0-is)) (small)

pub returns-in-Ok-Some-b : goal.returns-in-Ok-Some-b
returns-in-Ok-Some-b c =
    part-read c.requires c.read_run-b.ensures (c.in-Ok-Some-b.is ∙ ap Ok (rw c.in-Ok-Some-b.is at c.in-Ok-Some-b.field-0-is)) c.lay_part-in-Ok-Some-b.ensures

pub returns-in-Err : goal.returns-in-Err
returns-in-Err c =
    let enough = c.scratch-held.ensures in
    absurd (not-refused c.requires c.read_run-b.ensures enough _ c.in-Err.is)

pub returns-in-Ok-None : goal.returns-in-Ok-None
returns-in-Ok-None c =
    let enough = c.scratch-held.ensures in
    absurd (not-ended c.requires c.read_run-b.ensures enough (c.in-Ok-None.is ∙ ap Ok (rw c.in-Ok-None.is at c.in-Ok-None.field-0-is)))
