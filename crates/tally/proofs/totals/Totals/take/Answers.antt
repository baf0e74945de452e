-- Each test that passes a limit stops with the totals as before; otherwise the line's totals are put together with them. Assumes nothing.
use Rattle.std.proofs.Common.{◌≡◌, ℕ, ◌+◌, ◌≤◌, true, false, ltb, length, sym, ◌∙◌, arith, ltb-false}
use Rattle.tally.specs.Totals.{rows_in, limit}
use Rattle.tally.specs.Held.{line_with, take_line}
use Rattle.tally.proofs.totals.Totals.take.Goals as goal

pub returns-then-too_many : goal.returns-then-too_many
unfolding take_line
returns-then-too_many c =
    rw (c.at.ensures, sym c.too_many.ensures ∙ c.if-too_many.true)

pub returns-then-too_many-2 : goal.returns-then-too_many-2
unfolding take_line
returns-then-too_many-2 c =
    let a = c.args in
    let many : ltb limit (a.self.rows + length (rows_in (line_with a.reply a.rows.now))) ≡ true =
    rw c.row_count.ensures at (sym c.too_many-2.ensures ∙ c.if-too_many-2.true) in
    rw (c.at-then-too_many-2.ensures, sym c.too_many.ensures ∙ c.if-too_many.false, many)

pub of_line-requires : goal.of_line-requires
of_line-requires c =
    let a = c.args in
    let n : ℕ = length (rows_in (line_with a.reply a.rows.now)) in
    let few : ltb limit (a.self.rows + n) ≡ false = rw c.row_count.ensures at (sym c.too_many-2.ensures ∙ c.if-too_many-2.false) in
    let h : a.self.rows + n ≤ limit = ltb-false limit (a.self.rows + n) few in
    let g : n ≤ limit = omega arith in
    g

pub returns : goal.returns
unfolding take_line
returns c =
    let a = c.args in
    let few : ltb limit (a.self.rows + length (rows_in (line_with a.reply a.rows.now))) ≡ false =
    rw c.row_count.ensures at (sym c.too_many-2.ensures ∙ c.if-too_many-2.false) in
    rw (
      c.together.ensures,
      c.of_line.ensures,
      sym c.too_many.ensures
          ∙ c.if-too_many.false,
      few,
    )
