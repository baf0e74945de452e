-- The reader in parts over words: what a call with lent words promises. Assumes nothing.
use mathlib.Core.Path.{◌≡◌, refl, sym, ◌∙◌}
use Prim.Native.Nat.{ℕ}
use mathlib.Core.Bool.{Bool, true, false}
use mathlib.Core.List.{List}
use lib.IntN.{ℤ}
use Rattle.format.specs.declared.PartStep.{PartStep}
use Rattle.format.specs.Parts.{Takes, Closes}
use Rattle.exports.specs.RowBytes.{is_signed}
use Rattle.answer_words.specs.Words.{too_few_words}
use Rattle.answer_words.specs.Parts.{reader_of, enough, PartPut, StepTold}
use Rattle.answer_words.proofs.PartWords.{step-put}
use Rattle.exports.specs.Parts.{Untouched, PartTold, CloseTold, SameLent, StartToldDetermined, PartToldDetermined, CloseToldDetermined}

module _ {state held words : List ℕ} {rows : List ℤ} where
  untouched : Untouched state state held held rows rows words words too_few_words
  untouched = record { number_is = refl; state-stays = refl; held_stays = refl; rows_stay = refl; words-stay = refl }

  pub part-few : {part : List ℕ} {flag : ℕ} → enough state words ≡ false → PartTold state state held held part flag rows rows words words too_few_words
  part-few e = record { done = λ t. absurd (rw e at t); few = λ t. untouched }

  pub close-few : {flag : ℕ} → enough state words ≡ false → CloseTold state state held held flag rows rows words words too_few_words
  close-few e = record { done = λ t. absurd (rw e at t); few = λ t. untouched }

  module _ {state' held' words' : List ℕ} {rows' : List ℤ} {r : ℕ} (step : PartStep) (e : enough state words ≡ true) (p : StepTold step state state' words words' r) where
    pub part-done : {part : List ℕ} {flag : ℕ} → Takes (reader_of state) part held held' (is_signed flag) rows rows' step
        → PartTold state state' held held' part flag rows rows' words words' r
    part-done t = record { done = λ u. record { step = step; takes = t; put = step-put e p }; few = λ u. absurd (rw e at u) }

    pub close-done : {flag : ℕ} → held' ≡ held → Closes (reader_of state) held (is_signed flag) rows rows' step → CloseTold state state' held held' flag rows rows' words words' r
    close-done h t = record { done = λ u. record { step = step; closes = t; held_stays = h; put = step-put e p }; few = λ u. absurd (rw e at u) }

-- ---- the promises determine what is lent and the number

pub start-told-determined : StartToldDetermined
start-told-determined state state' state'' r r' p q = (p.words_are ∙ sym q.words_are, p.number_is ∙ sym q.number_is)

module _ {state words state' state'' held' held'' words' words'' : List ℕ} {rows' rows'' : List ℤ} {r r' : ℕ} where
  same-untouched : {held : List ℕ} {rows : List ℤ} → Untouched state state' held held' rows rows' words words' r → Untouched state state'' held held'' rows rows'' words words'' r'
      → SameLent state' state'' held' held'' rows' rows'' words' words'' r r'
  same-untouched p q = record {
    states = p.state-stays ∙ sym q.state-stays;
    helds = p.held_stays ∙ sym q.held_stays;
    places = p.rows_stay ∙ sym q.rows_stay;
    told = p.words-stay ∙ sym q.words-stay;
    numbers = p.number_is ∙ sym q.number_is;
  }

  same-put : (a b : PartStep) → a ≡ b → held' ≡ held'' → rows' ≡ rows'' → PartPut a state state' words words' r → PartPut b state state'' words words'' r'
      → SameLent state' state'' held' held'' rows' rows'' words' words'' r r'
  same-put a b e h o p q =
      let q' : PartPut a state state'' words words'' r' = rw e q in
      record {
        states = p.left ∙ sym q'.left;
        helds = h;
        places = o;
        told = p.told.words_are ∙ sym q'.told.words_are;
        numbers = p.told.number_is ∙ sym q'.told.number_is;
      }

pub part-told-determined : PartToldDetermined
part-told-determined state held part flag rows words state' state'' held' held'' rows' rows'' words' words'' r r' p q = go (enough state words) refl
  where
    go : (b : Bool) → enough state words ≡ b → SameLent state' state'' held' held'' rows' rows'' words' words'' r r'
    go true e =
        let a = p.done (rw e tt) in
        let b = q.done (rw e tt) in
        same-put a.step b.step (a.takes.step ∙ sym b.takes.step) (a.takes.lent ∙ sym b.takes.lent) (a.takes.places ∙ sym b.takes.places) a.put b.put
    go false e = same-untouched (p.few (rw e tt)) (q.few (rw e tt))

pub close-told-determined : CloseToldDetermined
close-told-determined state held flag rows words state' state'' held' held'' rows' rows'' words' words'' r r' p q = go (enough state words) refl
  where
    go : (b : Bool) → enough state words ≡ b → SameLent state' state'' held' held'' rows' rows'' words' words'' r r'
    go true e =
        let a = p.done (rw e tt) in
        let b = q.done (rw e tt) in
        same-put a.step b.step (a.closes.step ∙ sym b.closes.step) (a.held_stays ∙ sym b.held_stays) (a.closes.places ∙ sym b.closes.places) a.put b.put
    go false e = same-untouched (p.few (rw e tt)) (q.few (rw e tt))
