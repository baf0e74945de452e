-- With room or without, open or stopped: a call with a part, and the closing call. Assumes nothing.
use Rattle.std.proofs.Common.{◌≡◌, ℕ, ◌-◌, ◌<◌, ◌≤◌, min, Bool, true, false, ltb, List, length, take, ℤ, refl, ap, ◌∙◌, arith, le-ltb, lt-ltb}
use native.Mathlib.Nat.{sub-zero}
use Rattle.format.specs.Answers.{Answer}
use Rattle.format.specs.declared.Refusal.{Refusal}
use Rattle.format.specs.Fields.{pick}
use Rattle.format.specs.Digits.{AllBelow}
use Rattle.format.specs.Runs.{Description}
use Rattle.format.specs.Parse.{Parsed, end, got, refused, parse, into}
use Rattle.format.specs.Promises.{answer_of, run_places, RunRead}
use Rattle.format.proofs.Below.{below-take}
use Rattle.format.specs.declared.PartReader.{PartReader}
use Rattle.format.specs.declared.Standing.TheVariants.{Opened, Broken, Closed}
use Rattle.format.specs.declared.PartAnswer.TheVariants.{Refused, End}
use Rattle.format.specs.declared.PartStep.{PartStep}
use Rattle.format.specs.Parts.{on_close, unless_stopped, in_places, take_part, close, state_of, step_of, places_after, room, Takes, Closes}
use Rattle.format.proofs.Parts.{into-all, goes_on, take_min}
use Rattle.parts.specs.Steps.{too_few, still, Goes, goes, by_last}
use Rattle.parts.proofs.Seen.{from-run}

-- ---- with room or without, open or stopped

module _ (buffer : List ℕ) (out : List ℤ) where
  pub room-is : 4356 ≤ length buffer → room buffer out ≡ length out
  room-is h = rw (le-ltb (length buffer) 4356 h)

  pub no-places : length out < 512 → room buffer out < 512
  no-places h = go (ltb (length buffer) 4356)
    where
      go : (t : Bool) → pick t 0 (length out) < 512
      go true = omega arith
      go false = h

  pub no-lent : length buffer < 4356 → room buffer out < 512
  no-lent h = rw (lt-ltb (length buffer) 4356 h) (omega arith)

module _ (s : PartReader) (part buffer : List ℕ) (signed : Bool) (out : List ℤ) where
  pub too-few-takes : room buffer out < 512 → Takes s part buffer buffer signed out out (too_few s)
  unfolding take_part in_places
  too-few-takes h =
      let t : ltb (room buffer out) 512 ≡ true = lt-ltb (room buffer out) 512 h in
      record { step = rw t; lent = rw t; places = rw t }

  module _ (h : 512 ≤ length out) (l : 4356 ≤ length buffer) where
    enough : 512 ≤ room buffer out
    enough = rw (room-is buffer out l) h

    test : ltb (room buffer out) 512 ≡ false
    test = le-ltb (room buffer out) 512 enough

    pub takes-broken : (f : Refusal) → s.standing ≡ Broken f → Takes s part buffer buffer signed out out (still s (Refused f))
    unfolding take_part in_places unless_stopped
    takes-broken f e = record { step = rw (test, e); lent = rw (test, e); places = rw (test, e) }

    pub takes-closed : s.standing ≡ Closed → Takes s part buffer buffer signed out out (still s End)
    unfolding take_part in_places unless_stopped
    takes-closed e = record { step = rw (test, e); lent = rw (test, e); places = rw (test, e) }

    pub takes-open : (buffer' : List ℕ) (out' : List ℤ) (r : PartStep) → s.standing ≡ Opened
        → Goes s part buffer buffer' signed out out' r (goes s part buffer) → Takes s part buffer buffer' signed out out' r
    unfolding take_part
    takes-open buffer' out' r e g =
        let c : take_part (room buffer out) (state_of s buffer) part ≡ goes s part buffer = goes_on (room buffer out) s.standing _ _ enough e in
        record { step = rw c g.step; lent = rw c g.lent; places = rw c g.places }

-- ---- closing

module _ (s : PartReader) (buffer : List ℕ) (signed : Bool) (out : List ℤ) where
  pub too-few-closes : room buffer out < 512 → Closes s buffer signed out out (too_few s)
  unfolding close in_places
  too-few-closes h =
      let t : ltb (room buffer out) 512 ≡ true = lt-ltb (room buffer out) 512 h in
      record { step = rw t; places = rw t }

  module _ (h : 512 ≤ length out) (l : 4356 ≤ length buffer) where
    enough-closes : 512 ≤ room buffer out
    enough-closes = rw (room-is buffer out l) h

    pub closes-broken : (f : Refusal) → s.standing ≡ Broken f → Closes s buffer signed out out (still s (Refused f))
    unfolding close in_places unless_stopped
    closes-broken f e =
        let t : ltb (room buffer out) 512 ≡ false = le-ltb (room buffer out) 512 enough-closes in
        record { step = rw (t, e); places = rw (t, e) }

    pub closes-closed : s.standing ≡ Closed → Closes s buffer signed out out (still s End)
    unfolding close in_places unless_stopped
    closes-closed e =
        let t : ltb (room buffer out) 512 ≡ false = le-ltb (room buffer out) 512 enough-closes in
        record { step = rw (t, e); places = rw (t, e) }

    pub closes-open : (out' : List ℤ) (a : Answer) (k : ℕ) → AllBelow 256 buffer → k ≡ min s.held (length buffer) → s.standing ≡ Opened
        → RunRead (take k buffer) 0 signed out out' a → Closes s buffer signed out out' (by_last s a)
    unfolding close by_last on_close
    closes-open out' a k b ek e g =
        let front : take k buffer ≡ take s.held buffer = ap (λ (n : ℕ). take n buffer) ek ∙ take_min s.held buffer in
        let below : AllBelow 256 (take k buffer) = below-take 256 k buffer b in
        let i : into (length out) (parse (take k buffer)) ≡ parse (take s.held buffer) = into-all (length out) (take k buffer) below h ∙ ap parse front in
        let c : close (room buffer out) (state_of s buffer) ≡ on_close (state_of s buffer) (parse (take s.held buffer))
        = goes_on (room buffer out) s.standing _ _ enough-closes e in
        record {
          step = rw c (ap (by_last s) (rw sub-zero at g.answer ∙ ap (answer_of 0 (length (take k buffer))) i
              ∙ ap (λ (x : List ℕ). answer_of 0 (length x) (parse (take s.held buffer))) front) ∙ by-step (parse (take s.held buffer)));
          places = rw c (g.places ∙ ap (run_places signed out) i ∙ by-places (parse (take s.held buffer)));
        }
      where
        by-step : (m : Parsed Description) → by_last s (answer_of 0 (length (take s.held buffer)) m) ≡ step_of s (on_close (state_of s buffer) m)
        by-step end = refl
        by-step (got d rest) =
            let z : 0 - length rest ≡ 0 = omega arith in
            rw z
        by-step (refused r) = rw (from-run s.at.bytes (length (take s.held buffer)) r)

        by-places : (m : Parsed Description) → run_places signed out m ≡ places_after signed out (on_close (state_of s buffer) m).reply
        by-places end = refl
        by-places (got d rest) = refl
        by-places (refused r) = refl
