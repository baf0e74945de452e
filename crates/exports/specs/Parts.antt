-- The reader in parts over words (`words/specs/Parts.antt`): what `orc_part_start`, `orc_part_take` and `orc_part_close` promise: the number that comes
-- back, and every lent word, byte and row at exit, for all states, also those that no start led to. Assumes nothing.
use Rattle.std.specs.Prelude.{◌≡◌, ℕ, Bool, not, List, T, ℤ}
use Rattle.format.specs.declared.PartStep.{PartStep}
use Rattle.format.specs.Parts.{fresh, Takes, Closes}
use Rattle.exports.specs.RowBytes.{is_signed}
use Rattle.answer_words.specs.Words.{too_few_words, Told}
use Rattle.answer_words.specs.Parts.{state_words, reader_of, enough, PartPut}

-- A READER THAT HAS TAKEN NOTHING
abbrev pub StartTold : List ℕ → List ℕ → ℕ → Type 0
StartTold state state' r = Told state_words (λ s. 0) fresh state state' r

-- too few words: the number that says so, and nothing is touched
pub record Untouched (state state' held held' : List ℕ) (rows rows' : List ℤ) (words words' : List ℕ) (r : ℕ) : Type 0 where
  pub number_is : r ≡ too_few_words
  pub state-stays : state' ≡ state
  pub held_stays : held' ≡ held
  pub rows_stay : rows' ≡ rows
  pub words-stay : words' ≡ words

pub record Taken (state state' held held' part : List ℕ) (signed : Bool) (rows rows' : List ℤ) (words words' : List ℕ) (r : ℕ) : Type 0 where
  pub step : PartStep
  pub takes : Takes (reader_of state) part held held' signed rows rows' step
  pub put : PartPut step state state' words words' r

pub record ClosedBy (state state' held held' : List ℕ) (signed : Bool) (rows rows' : List ℤ) (words words' : List ℕ) (r : ℕ) : Type 0 where
  pub step : PartStep
  pub closes : Closes (reader_of state) held signed rows rows' step
  pub held_stays : held' ≡ held
  pub put : PartPut step state state' words words' r

-- A CALL WITH A PART
pub record PartTold (state state' held held' part : List ℕ) (flag : ℕ) (rows rows' : List ℤ) (words words' : List ℕ) (r : ℕ) : Type 0 where
  pub done : T (enough state words) → Taken state state' held held' part (is_signed flag) rows rows' words words' r
  pub few : T (not (enough state words)) → Untouched state state' held held' rows rows' words words' r

-- THE CLOSING CALL
pub record CloseTold (state state' held held' : List ℕ) (flag : ℕ) (rows rows' : List ℤ) (words words' : List ℕ) (r : ℕ) : Type 0 where
  pub done : T (enough state words) → ClosedBy state state' held held' (is_signed flag) rows rows' words words' r
  pub few : T (not (enough state words)) → Untouched state state' held held' rows rows' words words' r

-- ---- any two outcomes that a promise allows are equal

abbrev pub StartToldDetermined : Type 0
StartToldDetermined =
    (state state' state'' : List ℕ) (r r' : ℕ) → StartTold state state' r → StartTold state state'' r' → (state' ≡ state'') × (r ≡ r')

pub record SameLent (state state' held held' : List ℕ) (rows rows' : List ℤ) (words words' : List ℕ) (r r' : ℕ) : Type 0 where
  pub states : state ≡ state'
  pub helds : held ≡ held'
  pub places : rows ≡ rows'
  pub told : words ≡ words'
  pub numbers : r ≡ r'

abbrev pub PartToldDetermined : Type 0
PartToldDetermined =
    (state held part : List ℕ) (flag : ℕ) (rows : List ℤ) (words state' state'' held' held'' : List ℕ) (rows' rows'' : List ℤ) (words' words'' : List ℕ) (r r' : ℕ)
    → PartTold state state' held held' part flag rows rows' words words' r → PartTold state state'' held held'' part flag rows rows'' words words'' r'
    → SameLent state' state'' held' held'' rows' rows'' words' words'' r r'

abbrev pub CloseToldDetermined : Type 0
CloseToldDetermined =
    (state held : List ℕ) (flag : ℕ) (rows : List ℤ) (words state' state'' held' held'' : List ℕ) (rows' rows'' : List ℤ) (words' words'' : List ℕ) (r r' : ℕ)
    → CloseTold state state' held held' flag rows rows' words words' r → CloseTold state state'' held held'' flag rows rows'' words words'' r'
    → SameLent state' state'' held' held'' rows' rows'' words' words'' r r'
