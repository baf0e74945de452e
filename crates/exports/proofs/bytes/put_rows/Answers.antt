use mathlib.Core.List.{append_assoc}
use mathlib.Core.Path.{◌≡◌, refl, ◌∙◌}
use Prim.Native.Nat.{◌-◌, ◌+◌, ◌*◌}
use native.Mathlib.Nat.{sub-zero}
use native.Mathlib.Omega.{arith}
use lib.IntN.{pos}
use lib.ListN.{get_or}
use Rattle.format.specs.Rows.{as_u64}
use Rattle.format.specs.Digits.{lowest_first}
use Rattle.exports.specs.RowBytes.{row_bytes}
use Rattle.rle_v2.proofs.Pass.{bits_of}
use Rattle.util.proofs.Grow.{front-is, kept_by, long-by, filled}
use Rattle.exports.proofs.RowBytes.{row_more, bytes-long}
use borrow.Author.Rules.{sfits_of}
use Rattle.exports.proofs.bytes.put_rows.Goals as goal

pub loop-i-preserved : goal.loop-i-preserved
loop-i-preserved c =
    let l = c.loop-i in
    let a = c.args in
    let x = c.cast_unsigned.result in
    let e = c.put_row.ensures in
    let n : 8 * (l.i + 1) ≡ 8 * l.i + 8 = omega arith in
    let u : x ≡ as_u64 (get_or a.rows.now l.i (pos 0))
    = bits_of (get_or a.rows.now l.i (pos 0)) x (sfits_of c.row-1.given) c.cast_unsigned.ensures in (
      omega arith,
      long-by l.out c.put_row.new.out (lowest_first 8 x) (8 * l.i) 8 (omega arith) (bytes-long 8 x) e (omega arith) ∙ l.invariant.1,
      rw (n, front-is l.out c.put_row.new.out (lowest_first 8 x) (8 * l.i) 8 (omega arith) (bytes-long 8 x) e, append_assoc, u)
          (rw (row_more a.rows.now a.count.rows l.i (omega arith) (omega arith)) at l.invariant.2),
      rw n (kept_by l.out c.put_row.new.out (lowest_first 8 x) (8 * l.i) 8 (omega arith) (bytes-long 8 x) e a.out.now l.invariant.3),
    )

pub returns : goal.returns
unfolding row_bytes
returns c =
    let l = c.loop-i in
    let a = c.args in
    let d : l.i ≡ a.count.rows = omega arith in
    let z : a.count.rows - l.i ≡ 0 = omega arith in
    filled l.out a.out.now _ (8 * a.count.rows) (rw d at (simp (z, row_bytes) at l.invariant.2)) (rw d at l.invariant.3)

pub loop-i-init : goal.loop-i-init
loop-i-init c = (omega arith, refl, simp sub-zero, refl)

pub shape_of-out : goal.shape_of-out
shape_of-out c = c.loop-i.invariant.1
