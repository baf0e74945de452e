-- What `orc_write_patched` promises: the number that comes back, and every lent byte and word at exit, for all rows, bases and widths.
-- Assumes nothing.
use Rattle.std.specs.Prelude.{◌≡◌, ℕ, List, map, length, ℤ}
use Rattle.format.specs.Rows.{as_u64}
use Rattle.format.specs.Promises.{answer_of}
use Rattle.format.specs.Answers.{answer_number}
use Rattle.format.specs.Writing.{bytes_in}
use Rattle.format.specs.PatchedWriting.{writing_patched}
use Rattle.answer_words.specs.Words.{answer_words, ToldOf}

-- A PATCHED RUN WRITTEN: the width is any number of bits, and one that is no table width is refused as such
abbrev pub PatchedTold : List ℤ → ℤ → ℕ → List ℕ → List ℕ → List ℕ → List ℕ → ℕ → Type 0
PatchedTold rows base w out out' words words' r =
    let m = writing_patched (as_u64 base) w (map as_u64 rows) (length out) in
    ToldOf answer_words answer_number (answer_of 0 0 m) words words' r (bytes_in out m) out out'

-- any two outcomes that the promise allows are equal
abbrev pub PatchedToldDetermined : Type 0
PatchedToldDetermined =
    (rows : List ℤ) (base : ℤ) (w : ℕ) (out out' out'' words words' words'' : List ℕ) (r r' : ℕ)
    → PatchedTold rows base w out out' words words' r → PatchedTold rows base w out out'' words words'' r'
    → (out' ≡ out'') × (words' ≡ words'') × (r ≡ r')
