-- The reader in parts over words: what a state's words stand for, and what is left in the words lent. Assumes nothing.
use Rattle.std.specs.Prelude.{Some, None}
use mathlib.Core.Path.{◌≡◌, refl}
use mathlib.Core.Logic.{◌≢◌}
use Prim.Native.Nat.{ℕ, zero, suc, ◌<◌, ◌≤◌, ◌%◌}
use native.Mathlib.Omega.{arith}
use mathlib.Core.Bool.{true, false}
use mathlib.Core.List.{List, ◌++◌}
use lib.ListN.{length}
use borrow.Author.Tests.{le-leb, lt-leb}
use Rattle.format.specs.declared.Refusal.{Refusal}
use Rattle.format.specs.declared.Standing.{Standing}
use Rattle.format.specs.declared.Standing.TheVariants.{Opened, Broken, Closed}
use Rattle.format.specs.declared.PartReader.{PartReader}
use Rattle.format.specs.declared.PartStep.{PartStep}
use Rattle.format.specs.Answers.{CutField, answer_number}
use Rattle.answer_words.specs.Words.{too_few_words}
use Rattle.answer_words.specs.Parts.{repeated, standing_of, cut_of, state_words, state_word_count, reader_of, StateKept, part_words, part_word_count, enough, PartPut, StepTold}

pub state-long : (s : PartReader) → length (state_words s) ≡ state_word_count
unfolding state_words
state-long s = refl

pub part-long : (s : PartStep) → length (part_words s) ≡ part_word_count
unfolding part_words
part-long s = refl

-- every number but 0 says that a field is cut, and every one but 0 and 1 that the reader is closed
pub cut_at : (n b : ℕ) → n ≢ 0 → Some (record { bytes = b }) ≡ cut_of n b
unfolding cut_of
cut_at zero b h = absurd (h refl)
cut_at (suc n) b h = refl

pub stands-closed : (n : ℕ) (f : Refusal) → n ≢ 0 → n ≢ 1 → Closed ≡ standing_of n f
unfolding standing_of
stands-closed zero f h k = absurd (h refl)
stands-closed (suc zero) f h k = absurd (k refl)
stands-closed (suc (suc n)) f h k = refl

-- ---- words enough, or too few

module _ (state words : List ℕ) where
  pub few-state : length state < state_word_count → enough state words ≡ false
  few-state h = rw (lt-leb state_word_count (length state) h)

  pub few_words : state_word_count ≤ length state → length words < part_word_count → enough state words ≡ false
  few_words h l = rw (le-leb state_word_count (length state) h, lt-leb part_word_count (length words) l)

  pub is-enough : state_word_count ≤ length state → part_word_count ≤ length words → enough state words ≡ true
  is-enough h l = rw (le-leb state_word_count (length state) h, le-leb part_word_count (length words) l)

module _ {step : PartStep} {state words : List ℕ} where
  pub step-few : enough state words ≡ false → StepTold step state state words words too_few_words
  step-few e = record { number_is = rw e; words_are = rw e; state-is = rw e }

  pub few-of-state : length state < state_word_count → StepTold step state state words words too_few_words
  few-of-state h = step-few (few-state state words h)

  pub few-of-words : state_word_count ≤ length state → length words < part_word_count → StepTold step state state words words too_few_words
  few-of-words h l = step-few (few_words state words h l)

  module _ {state' words' : List ℕ} {r : ℕ} (e : enough state words ≡ true) where
    pub step-done : PartPut step state state' words words' r → StepTold step state state' words words' r
    step-done p = record { number_is = rw e p.told.number_is; words_are = rw e (rw (part-long step) at p.told.words_are); state-is = rw e p.left }

    -- as the promises of the exported functions have it
    pub step-put : StepTold step state state' words words' r → PartPut step state state' words words' r
    step-put t = record { told = record { number_is = rw e at t.number_is; words_are = rw (part-long step) (rw e at t.words_are) }; left = rw e at t.state-is }

pub stored : {step : PartStep} {state state' words words' : List ℕ} {r : ℕ} → state_word_count ≤ length state → part_word_count ≤ length words
    → PartPut step state state' words words' r → StepTold step state state' words words' r
stored {step} {state} {state'} {words} h l p = step-done (is-enough state words h l) p

-- ---- what a call leaves is what the next one reads

pub state-kept : StateKept
unfolding state_words standing_of cut_of
state-kept s ws h = go s.standing refl h
  where
    with-standing : Standing → PartReader
    with-standing t = record { held = s.held; at = s.at; standing = t }

    go : (t : Standing) → s.standing ≡ t → answer_number (repeated t) < 256 → reader_of (state_words (with-standing t) ++ ws) ≡ with-standing t
    go Opened e l = refl
    go Closed e l = refl
    go (Broken f) e l = by-cut f.cut refl
      where
        small : f.number % 256 ≡ f.number
        small = omega arith

        by-cut : (c : CutField) → f.cut ≡ c → reader_of (state_words (with-standing (Broken f)) ++ ws) ≡ with-standing (Broken f)
        by-cut None z = rw (small, z)
        by-cut (Some b) z = rw (small, z)
