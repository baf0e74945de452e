-- `count_true` meets its contract. Assumes nothing.
use Prim.Native.Nat.{ℕ, ◌+◌, ◌*◌, ◌/◌, ◌%◌, ◌≤◌}
use mathlib.Core.Path.{◌≡◌, sym, ap, ◌∙◌}
use lib.ListN.{get_or}
use Rattle.std.specs.Prelude.{Ok, Err}
use Rattle.boolean_rle.specs.Ones.{ones_in}
use Rattle.boolean_rle.proofs.Ones.{ones-more, ones_at_most, ones-part, too_few, enough}
use native.Mathlib.Omega.{arith}
use Rattle.boolean_rle.proofs.count.count_true.Goals as goal

pub returns-then-bytes-whole : goal.returns-then-bytes-whole
returns-then-bytes-whole c =
    let a = c.args in
    ap Err c.cut.ensures ∙ sym (too_few a.n.rows a.bytes.now (omega arith))

pub returns-then-left-eq0 : goal.returns-then-left-eq0
returns-then-left-eq0 c =
    let a = c.args in
    let e : 8 * (a.n.rows / 8) ≡ a.n.rows = omega arith in
    ap Ok (c.ones_in-ones.ensures ∙ ap (λ (m : ℕ). ones_in m a.bytes.now) e) ∙ sym (enough a.n.rows a.bytes.now (omega arith))

pub returns-then-bytes-whole-2 : goal.returns-then-bytes-whole-2
returns-then-bytes-whole-2 c =
    let a = c.args in
    ap Err c.cut-then-bytes-whole-2.ensures ∙ sym (too_few a.n.rows a.bytes.now (omega arith))

pub overflow_add-result : goal.overflow_add-result
overflow_add-result c =
    let a = c.args in
    let bytes = a.bytes.now in
    let few : c.ones_in-ones.result.rows ≤ 8 * (a.n.rows / 8) = rw c.ones_in-ones.ensures (ones_at_most (a.n.rows / 8) bytes (λ j. (c.shared_slice_known-1.given j).fits)) in
    let more : c.ones_of.result ≤ a.n.rows % 8 = rw c.ones_of.ensures (ones-part (a.n.rows % 8) (get_or bytes (a.n.rows / 8) 0) (omega arith) (c.shared_slice_known-1.given (a.n.rows / 8)).fits) in
    omega arith

pub returns : goal.returns
returns c =
    let a = c.args in
    let bytes = a.bytes.now in
    let e : a.n.rows ≡ 8 * (a.n.rows / 8) + a.n.rows % 8 = omega arith in
    let more : ones_in a.n.rows bytes ≡ c.ones_in-ones.result.rows + c.ones_of.result =
    ap (λ (m : ℕ). ones_in m bytes) e
    ∙ ones-more (a.n.rows / 8) (a.n.rows % 8) bytes (omega arith) (omega arith) (omega arith) (λ j. (c.shared_slice_known-1.given j).fits)
    ∙ rw (c.ones_in-ones.ensures, c.ones_of.ensures) in
    ap Ok (sym more) ∙ sym (enough a.n.rows bytes (omega arith))
