-- The words are stored one after another, and are the stream's. Assumes nothing.
use mathlib.Core.Path.{◌∙◌}
use lib.Seq.{sets-eq}
use native.Mathlib.Omega.{arith}
use lib.ListN.{length-set}
use Rattle.answer_words.specs.Words.{stream_words}
use Rattle.answer_words.proofs.store_stream.Goals as goal

pub returns : goal.returns
unfolding stream_words
returns c =
    record {
      number_is = c.number-2.ensures ∙ c.refusal_of-refusal.ensures.number;
      words_are =
          rw (
            c.stream_case.ensures,
            c.number.ensures,
            c.place.ensures,
            c.cut_case.ensures,
            c.cut_field.ensures,
            c.cut_byte.ensures,
            c.cut_field-2.ensures,
            c.case.ensures,
            c.kind.ensures,
            c.width.ensures,
            c.rows.ensures,
            c.consumed.ensures,
            c.refusal_of-refusal.ensures.number,
            c.refusal_of-refusal.ensures.place,
            c.refusal_of-refusal.ensures.cut,
            c.runs_of-counts.ensures.rows,
            c.runs_of-counts.ensures.bytes,
            c.runs_of-counts.ensures.last,
          ) (sets-eq (stream_words c.args.stream) c.args.words.now 0 c.requires);
    }

pub bounds-words-1 : goal.bounds-words-1
bounds-words-1 c = simp length-set (omega arith)

pub bounds-words-2 : goal.bounds-words-2
bounds-words-2 c = simp length-set (omega arith)

pub bounds-words-3 : goal.bounds-words-3
bounds-words-3 c = simp length-set (omega arith)

pub bounds-words-4 : goal.bounds-words-4
bounds-words-4 c = simp length-set (omega arith)

pub bounds-words-5 : goal.bounds-words-5
bounds-words-5 c = simp length-set (omega arith)

pub bounds-words-6 : goal.bounds-words-6
bounds-words-6 c = simp length-set (omega arith)

pub bounds-words-7 : goal.bounds-words-7
bounds-words-7 c = simp length-set (omega arith)

pub bounds-words-8 : goal.bounds-words-8
bounds-words-8 c = simp length-set (omega arith)

pub bounds-words-9 : goal.bounds-words-9
bounds-words-9 c = simp length-set (omega arith)

pub bounds-words-10 : goal.bounds-words-10
bounds-words-10 c = simp length-set (omega arith)

pub bounds-words-11 : goal.bounds-words-11
bounds-words-11 c = simp length-set (omega arith)

pub bounds-words-12 : goal.bounds-words-12
bounds-words-12 c = simp length-set (omega arith)

pub bounds-words-13 : goal.bounds-words-13
bounds-words-13 c = simp length-set (omega arith)

pub shape_of-words : goal.shape_of-words
shape_of-words c = simp length-set
