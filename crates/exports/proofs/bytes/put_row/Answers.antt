-- The eight bytes are copied to their place. Assumes nothing.
use mathlib.Core.List.{append_assoc}
use mathlib.Core.Path.{sym, ◌∙◌}
use native.Mathlib.Omega.{arith}
use lib.Seq.{take_all}
use Rattle.format.specs.Digits.{lowest_first}
use Rattle.std.proofs.lemmas.Slice.{put_mid-paste}
use Rattle.exports.proofs.RowBytes.{low-first, bytes-long}
use Rattle.exports.proofs.bytes.put_row.Goals as goal

pub returns : goal.returns
returns c =
    let a = c.args in
    let eight = lowest_first 8 a.x in
    put_mid-paste a.at.bytes _ a.out.now _ eight 8 (c.copy_from_slice.ensures.after ∙ c.to_le_bytes.ensures ∙ low-first a.x) (omega arith) (sym (bytes-long 8 a.x))
    ∙ rw (take_all 8 eight (rw bytes-long (omega arith)), append_assoc)
