-- The words are stored one after another, and are the reader's. Assumes nothing.
use mathlib.Core.Path.{refl}
use lib.Seq.{sets-eq}
use native.Mathlib.Omega.{arith}
use lib.ListN.{length-set}
use Rattle.answer_words.specs.Parts.{state_words}
use Rattle.answer_words.proofs.parts.store_reader.Goals as goal

pub returns : goal.returns
unfolding state_words
returns c =
    record {
      number_is = refl;
      words_are =
          rw (c.standing_case.ensures, c.number.ensures, c.place.ensures, c.cut_case.ensures, c.cut_field.ensures, c.cut_byte.ensures, c.cut_field-2.ensures, c.repeats-again.ensures)
          (sets-eq (state_words c.args.reader) c.args.state.now 0 c.requires);
    }

pub bounds-state-1 : goal.bounds-state-1
bounds-state-1 c = simp length-set (omega arith)

pub bounds-state-2 : goal.bounds-state-2
bounds-state-2 c = simp length-set (omega arith)

pub bounds-state-3 : goal.bounds-state-3
bounds-state-3 c = simp length-set (omega arith)

pub bounds-state-4 : goal.bounds-state-4
bounds-state-4 c = simp length-set (omega arith)

pub bounds-state-5 : goal.bounds-state-5
bounds-state-5 c = simp length-set (omega arith)

pub bounds-state-6 : goal.bounds-state-6
bounds-state-6 c = simp length-set (omega arith)
