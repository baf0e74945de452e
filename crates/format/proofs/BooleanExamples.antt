-- The starred line of FORMAT.md's samples and the specification's own booleans, as theorems. Assumes nothing.
use Rattle.format.proofs.Common.{◌≡◌, refl, ℕ, List, [], ◌∷◌, ◌++◌, length, replicate}
use Rattle.format.specs.declared.Kind.TheVariants.{Booleans}
use Rattle.format.specs.Digits.{digits}
use Rattle.format.specs.Parse.{bytes}
use Rattle.format.specs.Answers.{Answer, ran, cut_at}
use Rattle.format.specs.Booleans.{run_layout, run_bytes, byte_count, joined_runs, joined_bytes, booleans_of, repeat_run, byte_run}
use Rattle.format.specs.Booleans.{byte_runs, booleans, booleans_into, booleans_answer, booleans_places}

-- ---- the starred line: 32 booleans of `00 FF FF 00` are 24 true, 8 false, in 4 bytes; with 33 refusal 6, the next control byte missing

abbrev starred : List ℕ
starred = 0x00 ∷ 0xFF ∷ 0xFF ∷ 0x00 ∷ []

-- what a call gives of some bytes, which stand at position 1: the answer, and the n places, which held 7
pub told : ℕ → List ℕ → Answer × List ℕ
unfolding booleans_into booleans byte_runs byte_run repeat_run bytes byte_count joined_runs run_layout booleans_of joined_bytes run_bytes digits
told n bs = (booleans_answer 1 (length bs) n (booleans_into n n bs), booleans_places n (replicate n 7) (booleans_into n n bs))

pub starred-32 : told 32 starred ≡ (ran Booleans 1 32 4, replicate 24 1 ++ replicate 8 0)
unfolding told
starred-32 = refl

pub starred-33 : told 33 starred ≡ (cut_at 6 1 5, replicate 33 7)
unfolding told
starred-33 = refl

-- the specification's own: one true and seven false; and the literal bytes 44 45, highest bit first
pub one-true : told 8 (0xFF ∷ 0x80 ∷ []) ≡ (ran Booleans 1 8 2, 1 ∷ replicate 7 0)
unfolding told
one-true = refl

pub two-literals : told 16 (0xFE ∷ 0x44 ∷ 0x45 ∷ []) ≡ (ran Booleans 1 16 3, 0 ∷ 1 ∷ 0 ∷ 0 ∷ 0 ∷ 1 ∷ 0 ∷ 0 ∷ 0 ∷ 1 ∷ 0 ∷ 0 ∷ 0 ∷ 1 ∷ 0 ∷ 1 ∷ [])
unfolding told
two-literals = refl

-- a last run that is cut, though its needed byte is there; and none asked for, of nothing
pub cut-literals : told 8 (0xFE ∷ 0x44 ∷ []) ≡ (cut_at 13 1 2, replicate 8 7)
unfolding told
cut-literals = refl

pub none-asked : told 0 [] ≡ (ran Booleans 1 0 0, [])
unfolding told
none-asked = refl
