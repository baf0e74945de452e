-- The magnitudes stand in the caller's places first; the start and the packed block of them are then all of the run. Assumes nothing.
use Rattle.format.proofs.Common.{◌≡◌, sym, ap, ◌∙◌, List, map, ℕ, ◌+◌, ◌-◌, ◌*◌, arith, length, take}
use Rattle.format.specs.declared.Form.TheVariants.{PackedDelta}
use Rattle.format.specs.declared.Kind.TheVariants as kind
use Rattle.format.specs.Answers.{ran}
use Rattle.format.specs.Fields.{zigzagged, shortest, bytes_for}
use Rattle.format.specs.Rows.{as_u64}
use Rattle.format.specs.Writing.{first_of, base_delta, values_of}
use Rattle.util.proofs.Grow.{rest-is}
use Rattle.writer.specs.Start.{start, Started}
use Rattle.writer.proofs.Pieces.{width-known}
use Rattle.writer.proofs.PackedForms.{Packed, delta-packed, delta-values, all-of-it, values-below, packed}
use Rattle.writer.proofs.FixedForm.{start-length, started}
use Rattle.writer.proofs.delta.write_packed_over.Goals as goal

pub write_start-at-requires : goal.write_start-at-requires
write_start-at-requires c =
    let rs : List ℕ = map as_u64 c.args.run.rows.now in
    let n : ℕ = length c.args.run.rows.now in
    let opening : List ℕ = start c.args.run.code (n) (first_of c.args.run.signed (rs)) (zigzagged (base_delta (rs))) in
    let known : Packed c.args.run.rows.now c.args.run.signed PackedDelta kind.Delta c.args.run.code (opening) ((n) - 2) c.bits_of-bits.result = delta-packed c.args.run.rows.now c.args.run.signed (omega arith) c.args.run.code (omega arith) (omega arith)
    c.args.run.kept c.bits_of-bits.ensures in
    let size_is : c.args.bytes.bytes ≡ length (opening) + bytes_for (((n) - 2) * c.bits_of-bits.result) = all-of-it (known) c.requires.sized (omega arith) in
    let a = c.args in
    let g = c.requires.in_bounds in
    omega (
      arith,
      g.0,
      c.args.run.few,
      c.args.run.low,
      g.4,
      size_is,
      start-length a.run.code (n) (first_of a.run.signed (rs)) (zigzagged (base_delta (rs))),
      ap (λ (x : ℕ). length (shortest x)) c.first_of-first.ensures,
      ap (λ (x : ℕ). length (shortest x)) c.base_of-base.ensures,
    )

pub pack-requires : goal.pack-requires
pack-requires c =
    let n : ℕ = length c.args.run.rows.now in
    let rs : List ℕ = map as_u64 c.args.run.rows.now in
    let opening : List ℕ = start c.args.run.code (n) (first_of c.args.run.signed (rs)) (zigzagged (base_delta (rs))) in
    let known : Packed c.args.run.rows.now c.args.run.signed PackedDelta kind.Delta c.args.run.code (opening) ((n) - 2) c.bits_of-bits.result = delta-packed c.args.run.rows.now c.args.run.signed (omega arith) c.args.run.code (omega arith) (omega arith)
    c.args.run.kept c.bits_of-bits.ensures in
    let size_is : c.args.bytes.bytes ≡ length (opening) + bytes_for (((n) - 2) * c.bits_of-bits.result) = all-of-it (known) c.requires.sized (omega arith) in
    let stand : take ((n) - 2) c.steps.new.vals ≡ values_of c.args.run.signed PackedDelta (rs) = delta-values c.args.run.rows.now c.args.run.signed (omega arith) _ c.steps.new.vals _ c.base_delta-falling.ensures
    (rw (rest-is c.args.run.rows.now 1) at c.steps.ensures) in
    let begun : Started (opening) c.args.out.now c.write_start-at.new.out c.write_start-at.result.bytes = started c.args.run.code (n) c.first_of-first.ensures c.base_of-base.ensures c.write_start-at.ensures in
    let g = c.requires.in_bounds in
    let i = width-known c.args.run.code c.bits_of-bits.ensures in record { width = (i.pos, i.le, i.window); n_bound = omega (arith, c.args.run.few, g.2, g.4, size_is, begun.next, c.steps.auto.vals); all_below = values-below (known) c.requires.sized g.3 _ (stand) }

pub returns : goal.returns
returns c r e =
    let n : ℕ = length c.args.run.rows.now in
    let rs : List ℕ = map as_u64 c.args.run.rows.now in
    let opening : List ℕ = start c.args.run.code (n) (first_of c.args.run.signed (rs)) (zigzagged (base_delta (rs))) in
    let known : Packed c.args.run.rows.now c.args.run.signed PackedDelta kind.Delta c.args.run.code (opening) ((n) - 2) c.bits_of-bits.result = delta-packed c.args.run.rows.now c.args.run.signed (omega arith) c.args.run.code (omega arith) (omega arith)
    c.args.run.kept c.bits_of-bits.ensures in
    let stand : take ((n) - 2) c.steps.new.vals ≡ values_of c.args.run.signed PackedDelta (rs) = delta-values c.args.run.rows.now c.args.run.signed (omega arith) _ c.steps.new.vals _ c.base_delta-falling.ensures
    (rw (rest-is c.args.run.rows.now 1) at c.steps.ensures) in
    let begun : Started (opening) c.args.out.now c.write_start-at.new.out c.write_start-at.result.bytes = started c.args.run.code (n) c.first_of-first.ensures c.base_of-base.ensures c.write_start-at.ensures in
    packed (known) c.requires.sized c.requires.in_bounds.3 _ c.args.out.now c.write_start-at.new.out
    c.pack.new.out c.write_start-at.result.bytes r (stand) c.requires.in_bounds.4
    (e ∙ ap (λ (b : ℕ). ran kind.Delta b (n) c.args.bytes.bytes) (sym c.bits_of-bits.ensures)) begun.next
    begun.places c.pack.ensures
