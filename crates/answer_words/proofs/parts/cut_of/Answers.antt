-- The flag says whether there is a field. Assumes nothing.
use borrow.Author.Rules.{rules}
use Rattle.answer_words.specs.Parts.{cut_of}
use Rattle.answer_words.proofs.PartWords.{cut_at}
use Rattle.answer_words.proofs.parts.cut_of.Goals as goal

pub returns-then-flag-eq0 : goal.returns-then-flag-eq0
unfolding cut_of
returns-then-flag-eq0 c = search rules

pub returns : goal.returns
returns c = cut_at c.args.flag c.args.byte.bytes c.if-flag-eq0.false
