-- The tests of the header, then the varints, and the width code says which body they are of. Assumes nothing.
use native.Mathlib.Omega.{arith}
use Prim.Native.Nat.{◌+◌, ◌-◌}
use mathlib.Core.Path.{◌≡◌, sym, ◌∙◌}
use lib.ListN.{get_or}
use Rattle.format.specs.Parse.{rows_less}
use Rattle.rle_v2.proofs.DeltaRun.{no_header, is-fixed, one-row, is-packed, no-varints, fixed-passed}
use borrow.Author.Rules.{rules}
use Rattle.rle_v2.proofs.delta.measured.Goals as goal

pub returns-then-input-p-lt2 : goal.returns-then-input-p-lt2
returns-then-input-p-lt2 c = rw c.gone.ensures (no_header c.args.input.now c.args.at.bytes c.requires c.if-input-p-lt2.true)

pub returns-then-too_few : goal.returns-then-too_few
returns-then-too_few c =
    let h = c.two_bytes-h.ensures in
    let a = c.args in
    let few = c.too_few.ensures.0 c.if-too_few.true in
    rw c.gone-then-too_few.ensures
    (one-row a.input.now a.at.bytes c.if-input-p-lt2.false (λ q. few.0 (h.0 ∙ q)) (omega (arith, h.1, few.1)))

pub returns-then-f-ne0 : goal.returns-then-f-ne0
returns-then-f-ne0 c =
    let h = c.two_bytes-h.ensures in
    let a = c.args in
    record {
      passed = λ z. absurd (c.if-f-ne0.true z);
      refusal = λ z.
          no-varints a.input.now a.at.bytes c.if-input-p-lt2.false (λ q. sym h.0 ∙ c.too_few.ensures.1 c.if-too_few.false (omega (arith, h.1, q))) _
          (c.starts_at-f.ensures.refusal z);
    }

pub returns-then-code-eq0 : goal.returns-then-code-eq0
returns-then-code-eq0 c =
    let h = c.two_bytes-h.ensures in
    let a = c.args in
    record {
      passed = λ z.
          rw (is-fixed a.input.now a.at.bytes c.if-input-p-lt2.false (sym h.0 ∙ c.if-code-eq0.true), ← (c.starts_at-f.ensures.rows_is z ∙ h.1))
          (fixed-passed a.input.now a.at.bytes _ (c.starts_at-f.ensures.started z));
      refusal = λ z. absurd (z c.if-f-ne0.false);
    }

pub packed_rows-requires : goal.packed_rows-requires
packed_rows-requires c =
    let h = c.two_bytes-h.ensures in
    let none = c.if-f-ne0.false in
    let rows = c.starts_at-f.ensures.rows_is none in
    let two : c.two_bytes-h.result.rows.rows ≡ 1 → ⊥ = λ q. c.if-code-eq0.false (c.too_few.ensures.1 c.if-too_few.false q) in
    (c.starts_at-f.ensures.started none, search rules, omega (arith, rows, h.1, two), omega (arith, rows, h.2))

pub returns : goal.returns
returns c =
    let h = c.two_bytes-h.ensures in
    let a = c.args in
    let rows = c.starts_at-f.ensures.rows_is c.if-f-ne0.false in
    let n : c.starts_at-f.result.rows.rows - 2 ≡ rows_less (get_or a.input.now a.at.bytes 0) (get_or a.input.now (a.at.bytes + 1) 0) - 1 = omega (arith, h.1, rows) in
    rw (is-packed a.input.now a.at.bytes c.if-input-p-lt2.false (λ q. c.if-code-eq0.false (h.0 ∙ q)) (λ q. c.if-code-eq0.false (c.too_few.ensures.1 c.if-too_few.false (omega (arith, h.1, q)))))
    (rw (h.0, n) at c.packed_rows.ensures)
