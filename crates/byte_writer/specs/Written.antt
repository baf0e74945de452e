-- What the writers promise: the answer, and every place of the output at exit. The only refusal is 8, too few places: it names byte 0, and
-- changes no place. Assumes nothing.
use Rattle.std.specs.Prelude.{◌≡◌, ℕ, List, ◌++◌, length, drop, ltb, Result, Ok, Err}
use Rattle.format.specs.declared.Kind.TheVariants.{Booleans}
use Rattle.format.specs.Answers.{Answer, ran, refusing, refused_at}
use Rattle.format.specs.Fields.{pick}
use Rattle.byte_writer.specs.Choice.{written}
use Rattle.byte_writer.specs.Flags.{flag_bytes}
use Rattle.byte_writer.specs.declared.Written.{Written}
use Rattle.format.specs.declared.Refusal.{Refusal}

abbrev pub BytesAnswer : Type 0
BytesAnswer = Result Written Refusal

abbrev pub wrote_bytes : ℕ → ℕ → BytesAnswer
wrote_bytes rows size = Ok (record { rows = record { rows = rows }; size = record { bytes = size } })

abbrev pub refused_with : ℕ → BytesAnswer
refused_with number = Err (refusing number 0)

-- w stands in the first places, and the others are as they were
abbrev pub in_front : List ℕ → List ℕ → List ℕ
in_front w out = w ++ drop (length w) out

-- w is to be written: with too few places the answer is the refusal, and every place is as it was
pub record Outcome {A : Type 0} (refusal wrote : A) (w out out' : List ℕ) (r : A) : Type 0 where
  pub answer : r ≡ pick (ltb (length out) (length w)) refusal wrote
  pub places : out' ≡ pick (ltb (length out) (length w)) out (in_front w out)

abbrev pub BytesWritten : List ℕ → List ℕ → List ℕ → BytesAnswer → Type 0
BytesWritten bytes = Outcome (refused_with 8) (wrote_bytes (length bytes) (length (written bytes))) (written bytes)

abbrev pub BooleansWritten : List ℕ → List ℕ → List ℕ → Answer → Type 0
BooleansWritten flags =
    Outcome (refused_at 8 0) (ran Booleans 1 (length flags) (length (written (flag_bytes flags)))) (written (flag_bytes flags))
