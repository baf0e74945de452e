-- A run's words, or those of a held part, laid down at once; else as in every step. Assumes nothing.
use Rattle.answer_words.specs.Parts.{part_words}
use Rattle.answer_words.proofs.PartWords.{state-long}
use Rattle.answer_words.proofs.parts.store_taken.Goals as goal

pub returns-in-Run : goal.returns-in-Run
unfolding part_words
returns-in-Run c =
    let e = c.in-Run.is in
    record {
      told = record { number_is = rw e; words_are = rw e (rw c.number.ensures at c.lay.ensures) };
      left = rw (state-long _) at c.store_reader.ensures.words_are;
    }

pub returns-in-More : goal.returns-in-More
unfolding part_words
returns-in-More c =
    let e = c.in-More.is in
    record {
      told = record { number_is = rw e; words_are = rw e c.lay-in-More.ensures };
      left = rw (state-long _) at c.store_reader-in-More.ensures.words_are;
    }
