-- The tests are the definition's, in its order: the row, the lengths, the flag, the entry. Assumes nothing.
use mathlib.Core.Path.{sym, ◌∙◌}
use Rattle.labels.proofs.Columns.{no_row, not-added, without, with-name}
use Rattle.labels.proofs.label_of.Goals as goal

pub returns-then-flags-i : goal.returns-then-flags-i
returns-then-flags-i c = record { answer = c.refused.ensures ∙ sym (no_row _ _ _ _ _ _ c.if-flags-i.true) }

pub returns-then-not-add_up : goal.returns-then-not-add_up
returns-then-not-add_up c =
    record { answer = c.refused-then-not-add_up.ensures ∙ sym (not-added _ _ _ _ _ _ c.if-flags-i.false (sym c.add_up.ensures ∙ c.if-not-add_up.true)) }

pub returns-then-flags-i-eq0 : goal.returns-then-flags-i-eq0
returns-then-flags-i-eq0 c =
    record { answer = c.fallback.ensures ∙ sym (without _ _ _ _ _ _ c.if-flags-i.false (sym c.add_up.ensures ∙ c.if-not-add_up.false) c.if-flags-i-eq0.true) }

pub named-requires : goal.named-requires
named-requires c =
    sym c.add_up.ensures ∙ c.if-not-add_up.false

pub returns : goal.returns
returns c =
    record {
      answer = c.named.ensures ∙ rw c.entry_of.ensures
          (sym (with-name _ _ _ _ _ _ c.if-flags-i.false (sym c.add_up.ensures ∙ c.if-not-add_up.false) c.if-flags-i-eq0.false));
    }
