-- The words are stored one after another, and are those of what the call did. Assumes nothing.
use lib.Seq.{sets-eq}
use native.Mathlib.Omega.{arith}
use lib.ListN.{length-set}
use Rattle.answer_words.specs.Parts.{part_words}
use Rattle.answer_words.proofs.parts.store_part.Goals as goal

pub returns : goal.returns
unfolding part_words
returns c =
    record {
      number_is = rw (c.number-2.ensures, c.plain-a.ensures);
      words_are =
          rw (c.case.ensures, c.number.ensures, c.place.ensures, c.kind.ensures, c.rows.ensures, c.consumed.ensures, c.cut_case.ensures, c.cut_field.ensures, c.cut_byte.ensures, c.cut_field-2.ensures, c.width.ensures, c.start.ensures, c.plain-a.ensures)
          (sets-eq (part_words c.args.step) c.args.words.now 0 c.requires);
    }

pub bounds-words-1 : goal.bounds-words-1
bounds-words-1 c = simp length-set (omega arith)

pub bounds-words-2 : goal.bounds-words-2
bounds-words-2 c = simp length-set (omega arith)

pub bounds-words-3 : goal.bounds-words-3
bounds-words-3 c = simp length-set (omega arith)

pub bounds-words-4 : goal.bounds-words-4
bounds-words-4 c = simp length-set (omega arith)

pub bounds-words-5 : goal.bounds-words-5
bounds-words-5 c = simp length-set (omega arith)

pub bounds-words-6 : goal.bounds-words-6
bounds-words-6 c = simp length-set (omega arith)

pub bounds-words-7 : goal.bounds-words-7
bounds-words-7 c = simp length-set (omega arith)

pub bounds-words-8 : goal.bounds-words-8
bounds-words-8 c = simp length-set (omega arith)

pub bounds-words-9 : goal.bounds-words-9
bounds-words-9 c = simp length-set (omega arith)

pub bounds-words-10 : goal.bounds-words-10
bounds-words-10 c = simp length-set (omega arith)

pub shape_of-words : goal.shape_of-words
shape_of-words c = simp length-set
