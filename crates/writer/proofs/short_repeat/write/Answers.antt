-- No size is refused by the test that failed; otherwise the header byte and the value are all of the run. Assumes nothing.
use Rattle.std.specs.Prelude.{Some, Ok}
use Rattle.format.proofs.Common.{◌≡◌, ap, ◌∙◌, map, ℕ, arith, refl}
use Rattle.format.specs.Rows.{as_u64}
use Rattle.format.specs.Writing
use Rattle.format.specs.Writing.{first_of}
use Rattle.writer.proofs.ShortForm.{Short, short-known, refused-form, refused-fit, too-little, repeat-size, repeated}
use Rattle.writer.specs.Sizes.{unfit}
use Rattle.writer.proofs.short_repeat.write.Goals as goal
use Rattle.writer.proofs.short_repeat.write.Goals.{then-are_same, else-are_same}

pub returns-in_default : goal.returns-in_default
returns-in_default c =
    let known : Short c.args.rows.now c.args.signed c.args.width = short-known c.args.rows.now c.args.signed c.args.width (omega arith) (omega arith) (omega arith) (omega arith) in
    let none = rw c.in_default.is at c.size.ensures in
    elim c.if-are_same.branch [
      | then-are_same w ↦ refused-fit (known) _ c.are_same.ensures w.if-are_same.true (unfit none) refl c.args.out.now c.refused.result (rw w.refused-is at c.refused.ensures)
      | else-are_same w ↦ refused-form (known) _ c.are_same.ensures w.if-are_same.false c.args.out.now c.refused.result (rw w.refused-is at c.refused.ensures)
    ]

pub returns : goal.returns
returns c =
    let known : Short c.args.rows.now c.args.signed c.args.width = short-known c.args.rows.now c.args.signed c.args.width (omega arith) (omega arith) (omega arith) (omega arith) in
    let a = c.args in
    let v : c.stored-value.result ≡ first_of a.signed (map as_u64 a.rows.now) =
    c.stored-value.ensures ∙ ap (λ (x : ℕ). Writing.stored a.signed x) c.pattern_of.ensures in
    let m = rw c.in-Some.is at c.size.ensures in
    repeated (known) m.0 m.1 a.out.now c.write_head.new.out c.write.new.out (Ok (Some c.new.result)) c.if-out-bytes.false
    (ap (λ r. Ok (Some r)) c.new.ensures) c.write_head.ensures (rw v at c.write.ensures)

pub returns-then-out-bytes : goal.returns-then-out-bytes
returns-then-out-bytes c =
    let known : Short c.args.rows.now c.args.signed c.args.width = short-known c.args.rows.now c.args.signed c.args.width (omega arith) (omega arith) (omega arith) (omega arith) in
    let m = rw c.in-Some.is at c.size.ensures in
    too-little (known) m.0 m.1 c.args.out.now c.refused-then-out-bytes.result c.if-out-bytes.true c.refused-then-out-bytes.ensures

pub write_head-requires : goal.write_head-requires
write_head-requires c =
    let known : Short c.args.rows.now c.args.signed c.args.width = short-known c.args.rows.now c.args.signed c.args.width (omega arith) (omega arith) (omega arith) (omega arith) in
    let m = rw c.in-Some.is at c.size.ensures in
    omega (arith, repeat-size (known) m.0 m.1)

pub write-requires : goal.write-requires
write-requires c =
    let known : Short c.args.rows.now c.args.signed c.args.width = short-known c.args.rows.now c.args.signed c.args.width (omega arith) (omega arith) (omega arith) (omega arith) in
    let m = rw c.in-Some.is at c.size.ensures in
    omega (arith, repeat-size (known) m.0 m.1)
