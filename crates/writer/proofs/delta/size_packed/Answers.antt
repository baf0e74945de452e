-- Magnitudes that all fit the width have the start and the packed block; if one does not fit there is no size. Assumes nothing.
use Rattle.format.proofs.Common.{◌≡◌, sym, ap, ap₂, ◌∙◌, List, map, ℕ, ◌+◌, ◌-◌, ◌^◌, ◌≤◌, arith, ltb, length}
use Rattle.format.specs.declared.Form.TheVariants.{PackedDelta}
use Rattle.format.specs.declared.Kind.TheVariants as kind
use Rattle.format.specs.Fields.{zigzagged}
use Rattle.format.specs.Rows.{as_u64}
use Rattle.format.specs.Writing.{first_of, base_delta, values_of, every}
use Rattle.format.proofs.Fields.{block-small}
use Rattle.format.proofs.Widths.{IsWidth}
use Rattle.util.proofs.Grow.{rest-is}
use Rattle.writer.specs.Start.{start}
use Rattle.writer.proofs.Sizes.{none}
use Rattle.writer.proofs.Pieces.{width-known}
use Rattle.writer.proofs.PackedForms.{Packed, delta-packed, delta-steps, too_wide, measured}
use Rattle.writer.proofs.FixedForm.{start-length}
use Rattle.writer.proofs.delta.size_packed.Goals as goal

pub returns : goal.returns
returns c =
    let rs : List ℕ = map as_u64 c.args.run.rows.now in
    let n : ℕ = length c.args.run.rows.now in
    let known : Packed c.args.run.rows.now c.args.run.signed PackedDelta kind.Delta c.args.run.code
    (start c.args.run.code (n) (first_of c.args.run.signed (rs)) (zigzagged (base_delta (rs)))) ((n) - 2) c.bits_of-bits.result = delta-packed c.args.run.rows.now c.args.run.signed (omega arith) c.args.run.code (omega arith) (omega arith)
    c.args.run.kept c.bits_of-bits.ensures in
    let tested : c.all_steps_fit.result ≡ every (λ x. ltb x (2 ^ c.bits_of-bits.result)) (values_of c.args.run.signed PackedDelta (rs)) = (rw (rest-is c.args.run.rows.now 1) at c.all_steps_fit.ensures)
    ∙ ap (λ (l : List ℕ). every (λ x. ltb x (2 ^ c.bits_of-bits.result)) l)
    (delta-steps c.args.run.rows.now c.args.run.signed (omega arith) _ c.base_delta-falling.ensures) in
    let wide : IsWidth c.bits_of-bits.result = width-known c.args.run.code c.bits_of-bits.ensures in
    let few : c.start_size-start.result.bytes + c.block_size.result ≤ 4356 = omega (arith, c.start_size-start.ensures.few, c.block_size.ensures, block-small (n - 2) c.bits_of-bits.result (omega arith) wide.le) in
    let a = c.args in
    let z = c.start_size-start.ensures in (
      measured (known) _ (tested) c.if-not-all_steps_fit.false
          (ap₂ (λ (x y : ℕ). x + y) (z.bytes ∙ sym (start-length a.run.code (n) (first_of a.run.signed (rs)) (zigzagged (base_delta (rs)))))
          c.block_size.ensures) (omega (arith, z.bytes)) (few),
      omega (arith, z.bytes),
    )

pub all_steps_fit-requires : goal.all_steps_fit-requires
all_steps_fit-requires c = (width-known c.args.run.code c.bits_of-bits.ensures).le

pub returns-then-not-all_steps_fit : goal.returns-then-not-all_steps_fit
returns-then-not-all_steps_fit c =
    let rs : List ℕ = map as_u64 c.args.run.rows.now in
    let n : ℕ = length c.args.run.rows.now in
    let known : Packed c.args.run.rows.now c.args.run.signed PackedDelta kind.Delta c.args.run.code
    (start c.args.run.code (n) (first_of c.args.run.signed (rs)) (zigzagged (base_delta (rs)))) ((n) - 2) c.bits_of-bits.result = delta-packed c.args.run.rows.now c.args.run.signed (omega arith) c.args.run.code (omega arith) (omega arith)
    c.args.run.kept c.bits_of-bits.ensures in
    let tested : c.all_steps_fit.result ≡ every (λ x. ltb x (2 ^ c.bits_of-bits.result)) (values_of c.args.run.signed PackedDelta (rs)) = (rw (rest-is c.args.run.rows.now 1) at c.all_steps_fit.ensures)
    ∙ ap (λ (l : List ℕ). every (λ x. ltb x (2 ^ c.bits_of-bits.result)) l)
    (delta-steps c.args.run.rows.now c.args.run.signed (omega arith) _ c.base_delta-falling.ensures) in
    none _ _ _ _ (too_wide (known) _ (tested) c.if-not-all_steps_fit.true)

pub block_size-requires : goal.block_size-requires
block_size-requires c =
    let wide : IsWidth c.bits_of-bits.result = width-known c.args.run.code c.bits_of-bits.ensures in
    (wide.le, omega arith)

pub overflow_add-bytes : goal.overflow_add-bytes
overflow_add-bytes c =
    let n : ℕ = length c.args.run.rows.now in
    let wide : IsWidth c.bits_of-bits.result = width-known c.args.run.code c.bits_of-bits.ensures in
    let few : c.start_size-start.result.bytes + c.block_size.result ≤ 4356 = omega (arith, c.start_size-start.ensures.few, c.block_size.ensures, block-small (n - 2) c.bits_of-bits.result (omega arith) wide.le) in
    omega (arith, few)
