-- Each answer is that of the law for the tests that led there. Assumes nothing.
use Rattle.std.specs.Prelude.{Some, Ok}
use Rattle.std.specs.Prelude.{Err}
use mathlib.Core.Path.{ap}
use mathlib.Core.Path.{◌≡◌, ◌∙◌}
use Prim.Native.Nat.{◌+◌, ◌*◌}
use native.Mathlib.Omega.{arith}
use lib.ListN.{get_or}
use Rattle.format.specs.Fields.{width, bytes_for}
use Rattle.format.specs.Parse.{code_of, rows_less}
use Rattle.format.proofs.Rows.{width-le}
use Rattle.rle_v2.proofs.DirectRun.{no_header, no_body, run_is}
use Rattle.rle_v2.proofs.direct.measure.Goals as goal

pub returns-then-input-p-lt2 : goal.returns-then-input-p-lt2
returns-then-input-p-lt2 c = ap Err c.new.ensures ∙ no_header c.args.input.now c.args.at.bytes c.requires c.if-input-p-lt2.true

pub block_size-size-requires : goal.block_size-size-requires
block_size-size-requires c = (rw c.bits_of-bits.ensures (width-le _), omega (arith, c.two_bytes-h.ensures.2))

pub returns-then-input-body : goal.returns-then-input-body
returns-then-input-body c =
    let size_is : (let a = c.args in
    c.block_size-size.result ≡ bytes_for ((rows_less (get_or a.input.now a.at.bytes 0) (get_or a.input.now (a.at.bytes + 1) 0) + 1) * width (code_of (get_or a.input.now a.at.bytes 0)))) = let h = c.two_bytes-h.ensures in c.block_size-size.ensures ∙ rw (c.bits_of-bits.ensures, h.0, h.1) in
    let a = c.args in
    (ap Err c.cut.ensures) ∙ no_body a.input.now a.at.bytes c.if-input-p-lt2.false (rw (size_is) at c.if-input-body.true)

pub returns : goal.returns
returns c =
    let size_is : (let a = c.args in
    c.block_size-size.result ≡ bytes_for ((rows_less (get_or a.input.now a.at.bytes 0) (get_or a.input.now (a.at.bytes + 1) 0) + 1) * width (code_of (get_or a.input.now a.at.bytes 0)))) = let h = c.two_bytes-h.ensures in c.block_size-size.ensures ∙ rw (c.bits_of-bits.ensures, h.0, h.1) in
    let a = c.args in
    let h = c.two_bytes-h.ensures in
    ap (λ r. Ok (Some r)) c.new-2.ensures ∙ rw (size_is, c.bits_of-bits.ensures, h.0, h.1) (run_is a.input.now a.at.bytes c.if-input-p-lt2.false (rw (size_is) at c.if-input-body.false))
