-- Each public promise determines the answer and every place of the caller's, for refused inputs too: any two outcomes that it allows are
-- equal.
-- Assumes nothing.
use Rattle.std.specs.Prelude.{◌≡◌, ℕ, ◌<◌, Bool, List, ℤ}
use Rattle.format.specs.Answers.{Answer, Stream}
use Rattle.format.specs.Fields.{two64}
use Rattle.format.specs.Kept.{NarrowestKept}
use Rattle.format.specs.Promises.{RunRead, RunMeasured, StreamRead, StreamMeasured}
use Rattle.format.specs.Booleans.{BooleansRead}
use Rattle.format.specs.ByteValues.{ValueRead, ValueGiven}
use Rattle.format.specs.Writing.{Written}
use Rattle.format.specs.PatchedWriting.{PatchedWritten}
use Rattle.format.specs.Parts.{fresh, Takes, Closes}
use Rattle.format.specs.declared.Form.{Form}
use Rattle.format.specs.declared.PartReader.{PartReader}
use Rattle.format.specs.declared.PartStep.{PartStep}

-- A promise, as a relation of the places at exit and the answer: some outcome is allowed, and any two that are allowed are equal.
pub record Determines (P A : Type 0) (Allows : P → A → Type 0) : Type 0 where
  pub some-outcome : (p : P) × (r : A) × Allows p r
  pub same-places : (p p' : P) (r r' : A) → Allows p r → Allows p' r' → p ≡ p'
  pub same_answer : (p p' : P) (r r' : A) → Allows p r → Allows p' r' → r ≡ r'

-- for every input, position, flag and places
abbrev pub RunDetermined : Type 0
RunDetermined = (input : List ℕ) (at : ℕ) (signed : Bool) (out : List ℤ)
    → Determines (List ℤ) Answer (λ p r. RunRead input at signed out p r)

abbrev pub StreamDetermined : Type 0
StreamDetermined = (input : List ℕ) (at : ℕ) (signed : Bool) (out : List ℤ)
    → Determines (List ℤ) Stream (λ p r. StreamRead input at signed out p r)

-- the measures lend no place: for every input and position
abbrev pub RunMeasuredDetermined : Type 0
RunMeasuredDetermined = (input : List ℕ) (at : ℕ) → Determines (Unit {0}) Answer (λ p r. RunMeasured input at r)

abbrev pub StreamMeasuredDetermined : Type 0
StreamMeasuredDetermined = (input : List ℕ) (at : ℕ) → Determines (Unit {0}) Stream (λ p r. StreamMeasured input at r)

-- for every input, position, number of booleans and places
abbrev pub BooleansDetermined : Type 0
BooleansDetermined = (input : List ℕ) (at n : ℕ) (out : List ℕ) → Determines (List ℕ) Answer (λ p r. BooleansRead input at n out p r)

-- the part that is handed back, and the answer: for every input, position and length
abbrev pub ValueDetermined : Type 0
ValueDetermined = (input : List ℕ) (at n : ℕ) → Determines (List ℕ) Answer (λ p r. ValueGiven input at n p × ValueRead input at n r)

-- for all rows, flags, forms and widths, and all places
abbrev pub WriterDetermined : Type 0
WriterDetermined = (rows : List ℤ) (signed : Bool) (form : Form) (width : ℕ) (out : List ℕ)
    → Determines (List ℕ) Answer (λ p r. Written rows signed form width out p r)

-- for all rows, bases and widths, and all places
abbrev pub PatchedDetermined : Type 0
PatchedDetermined = (rows : List ℤ) (base : ℤ) (width : ℕ) (out : List ℕ)
    → Determines (List ℕ) Answer (λ p r. PatchedWritten rows base width out p r)

-- with no places: the narrowest code of every number of 64 bits
abbrev pub NarrowestDetermined : Type 0
NarrowestDetermined = (x : ℕ) → x < two64 → Determines (Unit {0}) ℕ (λ p r. NarrowestKept x r)

-- a promise that is an equation, `r ≡ ..`, of a call with no places:
-- the constructors of the answers, and every other function like them
abbrev pub EquationDetermined : Type 1
EquationDetermined = (A : Type 0) (a : A) → Determines (Unit {0}) A (λ p r. r ≡ a)

-- a reader in parts that has taken nothing
abbrev pub StartDetermined : Type 0
StartDetermined = Determines (Unit {0}) PartReader (λ p r. r ≡ fresh)

-- what a call with a part does, its buffer and its places: for every reader, part, flag, buffer and places;
-- the closing call leaves the buffer
abbrev pub PartDetermined : Type 0
PartDetermined =
    (s : PartReader) (part buffer : List ℕ) (signed : Bool) (out : List ℤ)
    → Determines (List ℕ × List ℤ) PartStep (λ p r. Takes s part buffer p.0 signed out p.1 r)

abbrev pub ClosingDetermined : Type 0
ClosingDetermined = (s : PartReader) (buffer : List ℕ) (signed : Bool) (out : List ℤ)
    → Determines (List ℤ) PartStep (λ p r. Closes s buffer signed out p r)
