-- The values are laid down as patterns and the base is added in their places. Assumes nothing.
use mathlib.Core.List.{map}
use lib.ListN.{length-map}
use mathlib.Core.Path.{◌∙◌}
use Rattle.format.specs.Rows.{as_i64}
use Rattle.util.specs.Packed.{fields}
use Rattle.util.proofs.Window.{length_fields}
use Rattle.rle_v2.specs.Pass.{based}
use Rattle.rle_v2.proofs.Pass.{then-pass}
use Rattle.rle_v2.proofs.patched_base.lay.Goals as goal

pub returns : goal.returns
returns c =
    let a = c.args in
    let vs = fields a.bits a.n.rows a.block.now in
    then-pass (based a.base) (map as_i64 vs) a.out.now c.unpack.new.out c.add_base.new.out a.n.rows
    (length-map vs as_i64 ∙ length_fields a.bits a.n.rows a.block.now) c.unpack.ensures c.add_base.ensures
