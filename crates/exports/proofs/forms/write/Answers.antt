-- `write` meets its contract: a form that is none is refused, and a width that no byte holds is answered as 255 is. Assumes nothing.
use mathlib.Core.List.{map}
use lib.ListN.{length}
use borrow.Author.Tests.{lt-ltb, le-ltb}
use Rattle.format.specs.Rows.{as_u64}
use Rattle.exports.specs.Runs.{form_of}
use Rattle.exports.proofs.FormNumbers.{width-least}
use Rattle.exports.proofs.forms.write.Goals as goal

pub returns-then-form-gt3 : goal.returns-then-form-gt3
returns-then-form-gt3 c =
    let e = lt-ltb 3 c.args.form c.if-form-gt3.true in
    record { answer = rw (e, c.new.ensures); places = rw e }

pub returns : goal.returns
returns c =
    let a = c.args in
    let e = le-ltb 3 a.form c.if-form-gt3.false in
    let l = width-least a.signed (form_of a.form) a.width (map as_u64 a.rows.now) (length a.out.now) in
    let g = rw (c.byte_width.ensures, c.form_of.ensures) at c.write_run.ensures in
    record { answer = rw (e, ← l) g.answer; places = rw (e, ← l) g.places }
