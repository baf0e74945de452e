-- `form_of` meets its contract. Assumes nothing.
use mathlib.Core.Path.{sym}
use native.Mathlib.Omega.{arith}
use borrow.Author.Rules.{rules}
use Rattle.exports.specs.Runs.{form_of}
use Rattle.exports.proofs.FormNumbers.{form-last}
use Rattle.exports.proofs.forms.form_of.Goals as goal

pub returns-in-0 : goal.returns-in-0
unfolding form_of
returns-in-0 c = search rules

pub returns-in-1 : goal.returns-in-1
unfolding form_of
returns-in-1 c = search rules

pub returns-in-2 : goal.returns-in-2
unfolding form_of
returns-in-2 c = search rules

pub returns-in_default : goal.returns-in_default
returns-in_default c = sym (form-last c.args.form (omega arith))
