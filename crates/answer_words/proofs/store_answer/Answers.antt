-- The words are stored one after another, and are the answer's. Assumes nothing.
use lib.Seq.{sets-eq}
use native.Mathlib.Omega.{arith}
use lib.ListN.{length-set}
use Rattle.answer_words.specs.Words.{answer_words}
use Rattle.answer_words.proofs.store_answer.Goals as goal

pub returns : goal.returns
unfolding answer_words
returns c =
    record { number_is = cc; words_are = cc (sets-eq (answer_words c.args.answer) c.args.words.now 0 c.requires) }

pub bounds-words-1 : goal.bounds-words-1
bounds-words-1 c = simp length-set (omega arith)

pub bounds-words-2 : goal.bounds-words-2
bounds-words-2 c = simp length-set (omega arith)

pub bounds-words-3 : goal.bounds-words-3
bounds-words-3 c = simp length-set (omega arith)

pub bounds-words-4 : goal.bounds-words-4
bounds-words-4 c = simp length-set (omega arith)

pub bounds-words-5 : goal.bounds-words-5
bounds-words-5 c = simp length-set (omega arith)

pub bounds-words-6 : goal.bounds-words-6
bounds-words-6 c = simp length-set (omega arith)

pub bounds-words-7 : goal.bounds-words-7
bounds-words-7 c = simp length-set (omega arith)

pub bounds-words-8 : goal.bounds-words-8
bounds-words-8 c = simp length-set (omega arith)

pub shape_of-words : goal.shape_of-words
shape_of-words c = simp length-set
