-- The values stand in the caller's places first; the header and the packed block of them are then all of the run. Assumes nothing.
use Rattle.format.proofs.Common.{◌≡◌, refl, sym, ap, ◌∙◌, map, ℕ, ◌+◌, ◌*◌, arith, length, take}
use Rattle.format.specs.declared.Form.TheVariants.{Direct}
use Rattle.format.specs.declared.Kind.TheVariants as kind
use Rattle.format.specs.Answers.{ran}
use Rattle.format.specs.Fields.{bytes_for}
use Rattle.format.specs.Rows.{as_u64}
use Rattle.format.specs.Runs.{head}
use Rattle.format.specs.Writing.{values_of}
use Rattle.writer.proofs.Pieces.{width-known}
use Rattle.writer.proofs.PackedForms.{Packed, direct-packed, direct-values, all-of-it, values-below, packed}
use Rattle.writer.proofs.direct.write_over.Goals as goal

pub pack-requires : goal.pack-requires
pack-requires c =
    let known : Packed c.args.run.rows.now c.args.run.signed Direct kind.Direct c.args.run.code
    (head 1 c.args.run.code (length c.args.run.rows.now)) (length c.args.run.rows.now) c.bits_of-bits.result = direct-packed c.args.run.rows.now c.args.run.signed c.args.run.code (omega arith) (omega arith) c.args.run.kept
    c.bits_of-bits.ensures in
    let size_is : c.args.bytes.bytes ≡ 2 + bytes_for (length c.args.run.rows.now * c.bits_of-bits.result) = all-of-it (known) c.requires.sized (omega arith) in
    let stand : take (length c.args.run.rows.now) c.store.new.vals ≡ values_of c.args.run.signed Direct (map as_u64 c.args.run.rows.now) = direct-values c.args.run.rows.now c.args.run.signed c.store.new.vals _ c.store.ensures in
    let i = width-known c.args.run.code c.bits_of-bits.ensures in record { width = (i.pos, i.le, i.window); n_bound = omega (arith, size_is, c.store.auto.vals); all_below = values-below (known) c.requires.sized (omega arith) _ (stand) }

pub returns : goal.returns
returns c r e =
    let known : Packed c.args.run.rows.now c.args.run.signed Direct kind.Direct c.args.run.code
    (head 1 c.args.run.code (length c.args.run.rows.now)) (length c.args.run.rows.now) c.bits_of-bits.result = direct-packed c.args.run.rows.now c.args.run.signed c.args.run.code (omega arith) (omega arith) c.args.run.kept
    c.bits_of-bits.ensures in
    let stand : take (length c.args.run.rows.now) c.store.new.vals ≡ values_of c.args.run.signed Direct (map as_u64 c.args.run.rows.now) = direct-values c.args.run.rows.now c.args.run.signed c.store.new.vals _ c.store.ensures in
    packed (known) c.requires.sized (omega arith) _ c.args.out.now c.write.new.out
    c.pack.new.out 2 r (stand) (omega arith)
    (e ∙ ap (λ (b : ℕ). ran kind.Direct b (length c.args.run.rows.now) c.args.bytes.bytes)
    (sym c.bits_of-bits.ensures)) refl c.write.ensures c.pack.ensures

pub write-requires : goal.write-requires
write-requires c =
    let known : Packed c.args.run.rows.now c.args.run.signed Direct kind.Direct c.args.run.code
    (head 1 c.args.run.code (length c.args.run.rows.now)) (length c.args.run.rows.now) c.bits_of-bits.result = direct-packed c.args.run.rows.now c.args.run.signed c.args.run.code (omega arith) (omega arith) c.args.run.kept
    c.bits_of-bits.ensures in
    let size_is : c.args.bytes.bytes ≡ 2 + bytes_for (length c.args.run.rows.now * c.bits_of-bits.result) = all-of-it (known) c.requires.sized (omega arith) in
    omega (arith, size_is)
