-- An entry that is there, of a number of the dictionary, names the part that begins at the sum of the lengths before it. Assumes nothing.
use mathlib.Core.Path.{sym, ◌∙◌}
use Rattle.labels.proofs.Columns.{missing, outside, inside}
use Rattle.labels.proofs.named.Goals as goal

pub returns-in_default : goal.returns-in_default
returns-in_default c = c.refused.ensures ∙ sym (missing _ _ _ (sym c.whole_at.ensures ∙ c.in_default.is))

pub returns-in_default-whole_at : goal.returns-in_default-whole_at
returns-in_default-whole_at c =
    c.refused-in_default-whole_at.ensures
    ∙ sym (outside _ _ _ c.args.block.now _ c.requires (sym c.whole_at.ensures ∙ c.in-Some.is) (sym c.whole_at-2.ensures ∙ c.in_default-whole_at.is))

pub returns : goal.returns
returns c =
    c.name.ensures
    ∙ rw c.start_of.ensures (sym (inside _ _ _ _ _ (sym c.whole_at.ensures ∙ c.in-Some.is) (sym c.whole_at-2.ensures ∙ c.in-Some-whole_at.is)))
