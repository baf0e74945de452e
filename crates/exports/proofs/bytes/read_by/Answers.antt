-- `read_by` meets its contract: what the run reader gives in the first rows is laid out as bytes, and its counts are packed. Assumes nothing.
use mathlib.Core.Path.{sym, ap, ◌∙◌, ◌≡◌}
use mathlib.Core.List.{◌++◌}
use native.Mathlib.Omega.{arith}
use lib.ListN.{length, take, drop, length-append}
use lib.Seq.{length-take-le}
use Rattle.format.specs.Answers.{answer_packed}
use Rattle.format.proofs.Below.{below_all}
use Rattle.exports.proofs.Reading.{Reads, reads}
use Rattle.exports.proofs.bytes.read_by.Goals as goal

pub slice_bounds-read_run-end-2 : goal.slice_bounds-read_run-end-2
slice_bounds-read_run-end-2 c = let a = c.args in sym (length-take-le c.min-places.result a.rows.now (omega arith))

pub put_rows-requires : goal.put_rows-requires
put_rows-requires c =
    let told : (let k = c.min-places.result in let a = c.args in
    Reads a.input.now a.signed a.out.now (c.read_run-answer.new.out ++ drop k a.rows.now) k c.read_run-answer.result) = let k = c.min-places.result in
    let a = c.args in
    reads a.input.now a.signed a.out.now a.rows.now (take k a.rows.now) c.read_run-answer.new.out c.new.result.bytes k c.read_run-answer.result
    (below_all 256 a.input.now (λ i. (c.shared_slice_known-1.given i).fits))
    c.requires
    c.min-places.ensures
    (length-take-le k a.rows.now (omega arith))
    c.new.ensures
    c.read_run-answer.ensures
    (drop k a.rows.now) in
    let k = c.min-places.result in
    let a = c.args in
    let l : length c.read_run-answer.new.out ≡ length (take k a.rows.now) = c.read_run-answer.auto.out in
    let m : length (take k a.rows.now) ≡ k = length-take-le k a.rows.now (omega arith) in
    (rw length-append (omega (arith, told.fits, c.rows.ensures)), omega (arith, told.fits, c.rows.ensures))

pub packed-requires : goal.packed-requires
packed-requires c =
    let told : (let k = c.min-places.result in let a = c.args in
    Reads a.input.now a.signed a.out.now (c.read_run-answer.new.out ++ drop k a.rows.now) k c.read_run-answer.result) = let k = c.min-places.result in
    let a = c.args in
    reads a.input.now a.signed a.out.now a.rows.now (take k a.rows.now) c.read_run-answer.new.out c.new.result.bytes k c.read_run-answer.result
    (below_all 256 a.input.now (λ i. (c.shared_slice_known-1.given i).fits))
    c.requires
    c.min-places.ensures
    (length-take-le k a.rows.now (omega arith))
    c.new.ensures
    c.read_run-answer.ensures
    (drop k a.rows.now) in
    let t = told in
    (omega (arith, t.few), omega (arith, t.short))

pub returns : goal.returns
returns c =
    let told : (let k = c.min-places.result in let a = c.args in
    Reads a.input.now a.signed a.out.now (c.read_run-answer.new.out ++ drop k a.rows.now) k c.read_run-answer.result) = let k = c.min-places.result in
    let a = c.args in
    reads a.input.now a.signed a.out.now a.rows.now (take k a.rows.now) c.read_run-answer.new.out c.new.result.bytes k c.read_run-answer.result
    (below_all 256 a.input.now (λ i. (c.shared_slice_known-1.given i).fits))
    c.requires
    c.min-places.ensures
    (length-take-le k a.rows.now (omega arith))
    c.new.ensures
    c.read_run-answer.ensures
    (drop k a.rows.now) in
    let t = told in
    record {
      number = c.packed.ensures ∙ ap answer_packed t.answer;
      bytes = c.put_rows.ensures ∙ rw c.rows.ensures t.bytes;
    }
