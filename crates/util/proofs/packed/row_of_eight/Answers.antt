-- A field of the eight, as the row that it stands for. Assumes nothing.
use Rattle.format.proofs.Common.{ap, ◌∙◌, to_z-of_z, sfits_of}
use Rattle.format.specs.Rows.{as_i64}
use Rattle.format.proofs.Common.{w64}
use Rattle.util.proofs.packed.row_of_eight.Goals as goal

pub returns : goal.returns
returns c = to_z-of_z {w = w64} (sfits_of c.to_i64.type_inv) ∙ c.to_i64.ensures ∙ ap as_i64 c.one_of_eight.ensures
