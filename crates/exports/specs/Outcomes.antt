-- Each promise of this room's first functions determines the number that comes back and every row, byte and word at exit: any two outcomes that it allows are
-- equal. (Those of the other functions stand with their proofs, in proofs/Telling.antt and proofs/PartWords.antt.)
-- Assumes nothing.
use Rattle.std.specs.Prelude.{◌≡◌, ℕ, List, ℤ}
use Rattle.promises.specs.Outcomes.{Determines}
use Rattle.exports.specs.Version.{face_version}
use Rattle.exports.specs.RowBytes.{Loaded}
use Rattle.exports.specs.Runs.{RunTold, StreamTold, BooleansTold, ValueTold, WriteTold}

-- the number and the bytes: for every input, flag and output
abbrev pub LoadedDetermined : Type 0
LoadedDetermined = (input : List ℕ) (flag : ℕ) (out : List ℕ) → Determines (List ℕ) ℕ (λ p r. Loaded input flag out p r)

-- the functions with words: the rows or bytes, the words, and the number; for every position, flag or count, with words enough or too few
abbrev pub RunToldDetermined : Type 0
RunToldDetermined =
    (input : List ℕ) (at flag : ℕ) (rows : List ℤ) (words : List ℕ)
    → Determines (List ℤ × List ℕ) ℕ (λ p r. RunTold input at flag rows p.0 words p.1 r)

abbrev pub StreamToldDetermined : Type 0
StreamToldDetermined =
    (input : List ℕ) (at flag : ℕ) (rows : List ℤ) (words : List ℕ)
    → Determines (List ℤ × List ℕ) ℕ (λ p r. StreamTold input at flag rows p.0 words p.1 r)

abbrev pub BooleansToldDetermined : Type 0
BooleansToldDetermined =
    (input : List ℕ) (at n : ℕ) (out words : List ℕ)
    → Determines (List ℕ × List ℕ) ℕ (λ p r. BooleansTold input at n out p.0 words p.1 r)

abbrev pub ValueToldDetermined : Type 0
ValueToldDetermined = (input : List ℕ) (at n : ℕ) (words : List ℕ) → Determines (List ℕ) ℕ (λ p r. ValueTold input at n words p r)

-- for every form and width, those too that no form has
abbrev pub WriteToldDetermined : Type 0
WriteToldDetermined =
    (rows : List ℤ) (flag form width : ℕ) (out words : List ℕ)
    → Determines (List ℕ × List ℕ) ℕ (λ p r. WriteTold rows flag form width out p.0 words p.1 r)

-- the version
abbrev pub VersionDetermined : Type 0
VersionDetermined = Determines (Unit {0}) ℕ (λ p r. r ≡ face_version)
