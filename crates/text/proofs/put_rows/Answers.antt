use Rattle.format.proofs.Common.{to_z, of_z, w64, arith, SFits, get_or, pos, take, to_z-of_z, rules, length-take-le}
use Rattle.text.specs.Decimal.{rows_text}
use Rattle.text.proofs.Texts.{none_written, texts-join, row-length, rows_next}
use Rattle.text.proofs.put_rows.Goals as goal

pub loop-row-init : goal.loop-row-init
unfolding rows_text
loop-row-init c = let a = c.args in (omega arith, none_written a.out.now a.at)

pub put_row-place-requires : goal.put_row-place-requires
put_row-place-requires c =
    let a = c.args in
    omega (arith, length-take-le a.n a.rows.now (omega arith), row-length (to_z w64 (of_z w64 (get_or (take a.n a.rows.now) c.loop-row.row-index (pos 0)))))

pub loop-row-preserved : goal.loop-row-preserved
loop-row-preserved c =
    let a = c.args in
    let i = c.loop-row.row-index in
    let items = take a.n a.rows.now in
    let f : SFits w64 (get_or items i (pos 0)) = search rules in
    let w = rw (to_z-of_z {w = w64} f) at c.put_row-place.ensures in (
      omega (arith, row-length (get_or items i (pos 0)), w.next),
      rw (rows_next items i (omega arith)) (texts-join (texts-join c.loop-row.invariant.1 c.put-next.ensures) w),
    )
