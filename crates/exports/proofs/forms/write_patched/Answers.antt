-- `write_patched` meets its contract: a width that no byte holds is answered as 255 is. Assumes nothing.
use mathlib.Core.List.{map}
use lib.ListN.{length}
use mir.Facts.{to_z-of_z}
use Rattle.format.specs.Rows.{as_u64}
use Rattle.exports.proofs.FormNumbers.{patched-least}
use Rattle.format.proofs.Common.{w64}
use Rattle.exports.proofs.forms.write_patched.Goals as goal

pub returns : goal.returns
returns c =
    let a = c.args in
    let l = patched-least (as_u64 a.base) a.width (map as_u64 a.rows.now) (length a.out.now) in
    let g = rw (c.byte_width.ensures, to_z-of_z {w = w64} c.ranges.base) at c.write_patched.ensures in
    record { answer = rw (← l) g.answer; places = rw (← l) g.places }
