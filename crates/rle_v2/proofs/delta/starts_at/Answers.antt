-- The two varints are read one after the other, and the first refusal is the answer. Assumes nothing.
use mathlib.Core.Path.{sym, ◌∙◌}
use Rattle.rle_v2.proofs.DeltaStart.{first-cut, first-long, second-cut, second-long, both-stood}
use Rattle.rle_v2.proofs.delta.starts_at.Goals as goal

pub returns-in-Err-Cut : goal.returns-in-Err-Cut
returns-in-Err-Cut c =
    let a = c.args in
    rw c.gone.ensures (first-cut a.input.now a.at.bytes a.rows.rows (λ i. (c.shared_slice_known-1.given i).fits) c.requires (sym c.varint_at.ensures ∙ c.in-Err-Cut.is ∙ rw c.in-Err-Cut.field-0-is))

pub returns-in-Err-TooLong : goal.returns-in-Err-TooLong
returns-in-Err-TooLong c =
    let a = c.args in
    rw c.gone-in-Err-TooLong.ensures (first-long a.input.now a.at.bytes a.rows.rows (λ i. (c.shared_slice_known-1.given i).fits) (sym c.varint_at.ensures ∙ c.in-Err-TooLong.is ∙ rw c.in-Err-TooLong.field-0-is))

pub returns-in-Err-Cut-varint_at : goal.returns-in-Err-Cut-varint_at
returns-in-Err-Cut-varint_at c =
    let a = c.args in
    rw c.gone-in-Err-Cut-varint_at.ensures
    (second-cut a.input.now a.at.bytes a.rows.rows (λ i. (c.shared_slice_known-1.given i).fits) _ _ (sym c.varint_at.ensures ∙ c.in-Ok.is) (sym c.varint_at-in-Ok.ensures ∙ c.in-Err-Cut-varint_at.is ∙ rw c.in-Err-Cut-varint_at.field-0-is))

pub returns-in-Err-TooLong-varint_at : goal.returns-in-Err-TooLong-varint_at
returns-in-Err-TooLong-varint_at c =
    let a = c.args in
    rw c.gone-in-Err-TooLong-varint_at.ensures
    (second-long a.input.now a.at.bytes a.rows.rows (λ i. (c.shared_slice_known-1.given i).fits) _ _ (sym c.varint_at.ensures ∙ c.in-Ok.is) (sym c.varint_at-in-Ok.ensures ∙ c.in-Err-TooLong-varint_at.is ∙ rw c.in-Err-TooLong-varint_at.field-0-is))

pub returns-in-Ok-varint_at : goal.returns-in-Ok-varint_at
returns-in-Ok-varint_at c =
    let a = c.args in
    both-stood a.input.now a.at.bytes a.rows.rows (λ i. (c.shared_slice_known-1.given i).fits) _ _ (sym c.varint_at.ensures ∙ c.in-Ok.is) _ _ (sym c.varint_at-in-Ok.ensures ∙ c.in-Ok-varint_at.is)
