-- Bytes and flags, and what is written of them, each line by computation. Assumes nothing.
use Rattle.format.proofs.Common.{◌≡◌, refl, ℕ, zero, suc, List, [], ◌∷◌, ◌++◌, take, replicate}
use Rattle.format.specs.Digits.{number}
use Rattle.format.specs.Booleans.{run_layout, byte_count, joined_runs}
use Rattle.byte_writer.specs.Choice.{same_as, stretch, before, repeated, alone, in_literals, next_run, runs_in, runs_of, written}
use Rattle.byte_writer.specs.Flags.{first_byte, bytes_in, flag_bytes}

pub said : List ℕ → List ℕ
unfolding written runs_of runs_in next_run in_literals alone repeated before stretch same_as joined_runs run_layout byte_count
said bs = written bs

pub flagged : List ℕ → List ℕ
unfolding said flag_bytes bytes_in first_byte number
flagged fs = said (flag_bytes fs)

-- the specification's own: 100 zeros; the bytes 44 45; one true and seven false
pub hundred-zeros : said (replicate 100 0) ≡ 0x61 ∷ 0x00 ∷ []
unfolding said
hundred-zeros = refl

pub two-literals : said (0x44 ∷ 0x45 ∷ []) ≡ 0xFE ∷ 0x44 ∷ 0x45 ∷ []
unfolding said
two-literals = refl

pub one-true : flagged (1 ∷ replicate 7 0) ≡ 0xFF ∷ 0x80 ∷ []
unfolding flagged
one-true = refl

-- any flag but 0 is true, and the padding is 0; nothing is nothing
pub any-true : flagged (255 ∷ 0 ∷ 2 ∷ []) ≡ 0xFF ∷ 0xA0 ∷ []
unfolding flagged
any-true = refl

pub nothing : flagged [] ≡ []
unfolding flagged
nothing = refl

-- two equal bytes are literals; three are a repeat, also between literals
pub two-equal : said (7 ∷ 7 ∷ 8 ∷ []) ≡ 0xFD ∷ 7 ∷ 7 ∷ 8 ∷ []
unfolding said
two-equal = refl

pub three-equal : said (6 ∷ 7 ∷ 7 ∷ 7 ∷ 8 ∷ []) ≡ 0xFF ∷ 6 ∷ 0x00 ∷ 7 ∷ 0xFF ∷ 8 ∷ []
unfolding said
three-equal = refl

-- 130 equal bytes are one repeat; of 132 the first has 129
pub longest-repeat : said (replicate 130 7) ≡ 0x7F ∷ 7 ∷ []
unfolding said
longest-repeat = refl

pub two-repeats : said (replicate 132 7) ≡ 0x7E ∷ 7 ∷ 0x00 ∷ 7 ∷ []
unfolding said
two-repeats = refl

-- the byte that is left alone of 131 goes into the literals before it, and if there are none into those after it
pub one-before : said (6 ∷ replicate 131 7) ≡ 0xFE ∷ 6 ∷ 7 ∷ 0x7F ∷ 7 ∷ []
unfolding said
one-before = refl

pub one-after : said (replicate 131 7 ++ (8 ∷ [])) ≡ 0x7F ∷ 7 ∷ 0xFE ∷ 7 ∷ 8 ∷ []
unfolding said
one-after = refl

-- 129 bytes of which no two neighbours are equal: 128 literals, and one
pub alternating : ℕ → List ℕ
alternating zero = 7 ∷ []
alternating (suc n) = 7 ∷ 8 ∷ alternating n

pub longest-literals : said (alternating 64) ≡ (0x80 ∷ take 128 (alternating 64)) ++ (0xFF ∷ 7 ∷ [])
unfolding said alternating
longest-literals = refl

-- 128 literals have no room for the byte that is left alone of the 131 after them
pub no_room : said (take 128 (alternating 64) ++ replicate 131 9) ≡ (0x80 ∷ take 128 (alternating 64)) ++ (0x7F ∷ 9 ∷ 0xFF ∷ 9 ∷ [])
unfolding said alternating
no_room = refl
