-- The size says if there is a run and if it has room; the header and two varints are then all of it. Assumes nothing.
use Rattle.std.specs.Prelude.{Some, Ok}
use Rattle.format.proofs.Common.{ap, ◌∙◌, List, map, ℕ, arith, length, refl}
use Rattle.format.specs.Fields.{zigzagged, shortest}
use Rattle.format.specs.Rows.{as_u64}
use Rattle.format.specs.Writing.{first_of, base_delta}
use Rattle.writer.specs.Sizes.{unfit}
use Rattle.writer.proofs.FixedForm.{Fixed, fixed-known, uneven-refused, too_short, opening-size, opened, start-length, started}
use Rattle.writer.proofs.delta.write_fixed.Goals as goal

pub returns-then-out-bytes : goal.returns-then-out-bytes
returns-then-out-bytes c =
    let known : Fixed c.args.rows.now c.args.signed c.args.code = fixed-known c.args.rows.now c.args.signed c.args.code (omega arith) (omega arith) (omega arith) in
    let m = rw c.in-Some.is at c.size_fixed.ensures in
    too_short (known) m.0 m.1 c.args.out.now c.refused-then-out-bytes.result c.if-out-bytes.true c.refused-then-out-bytes.ensures

pub write_start-requires : goal.write_start-requires
write_start-requires c =
    let rs : List ℕ = map as_u64 c.args.rows.now in
    let known : Fixed c.args.rows.now c.args.signed c.args.code = fixed-known c.args.rows.now c.args.signed c.args.code (omega arith) (omega arith) (omega arith) in
    let m = rw c.in-Some.is at c.size_fixed.ensures in
    let size_is = opening-size (known) m.0 m.1 ∙ start-length 0 (length c.args.rows.now) (first_of c.args.signed (rs)) (zigzagged (base_delta (rs))) in
    omega (
      arith,
      size_is,
      ap (λ (x : ℕ). length (shortest x)) c.first_of-first.ensures,
      ap (λ (x : ℕ). length (shortest x)) c.base_of-base.ensures,
    )

pub returns : goal.returns
returns c =
    let known : Fixed c.args.rows.now c.args.signed c.args.code = fixed-known c.args.rows.now c.args.signed c.args.code (omega arith) (omega arith) (omega arith) in
    let a = c.args in
    let m = rw c.in-Some.is at c.size_fixed.ensures in
    opened (known) m.0 m.1 a.out.now c.write_start.new.out (Ok (Some c.new.result))
    c.if-out-bytes.false (ap (λ r. Ok (Some r)) c.new.ensures)
    (started 0 (length a.rows.now) c.first_of-first.ensures c.base_of-base.ensures c.write_start.ensures).places

pub returns-in_default : goal.returns-in_default
returns-in_default c =
    let known : Fixed c.args.rows.now c.args.signed c.args.code = fixed-known c.args.rows.now c.args.signed c.args.code (omega arith) (omega arith) (omega arith) in
    uneven-refused (known) (unfit (rw c.in_default.is at c.size_fixed.ensures)) refl c.args.out.now
    c.refused.result c.refused.ensures
