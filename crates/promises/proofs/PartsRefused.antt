-- The reader in parts, where it refuses: when, what it says after that and after closing, and what it holds. Assumes nothing.
use Rattle.format.proofs.Common.{◌↔◌, ◌≡◌, refl, ap, ◌∙◌, ℕ, ◌<◌, arith, Bool, true, false, List, ◌++◌, length, T, eqb, eqb→eq, le-ltb}
use Rattle.format.proofs.Common.{lt-ltb}
use Rattle.format.specs.declared.Refusal.{Refusal}
use Rattle.format.specs.Fields.{pick}
use Rattle.format.specs.Runs.{Description}
use Rattle.format.specs.Parse.{Reason, unfinished, Parsed, end, got, refused, parse, into}
use Rattle.format.proofs.Runs.{parse-empty}
use Rattle.format.proofs.Streams.{into-refused}
use Rattle.format.specs.declared.Standing.{Standing}
use Rattle.format.specs.declared.Standing.TheVariants.{Opened, Broken, Closed}
use Rattle.format.specs.Parts as reader
use Rattle.format.specs.Parts.{refusal_from, Reply, broke, ended, answered, State, Call, on_part, take_part, close}
use Rattle.format.proofs.Parts.{goes_on}
use Rattle.promises.specs.Refusals
use Rattle.promises.specs.Refusals.{Table, by_number, by_field}
use Rattle.promises.proofs.Refusals.{refusals, field-pos}
use Rattle.promises.proofs.BrokeOff.{others, cut-numbers}
use Rattle.promises.specs.Parts.{Fed, joined_parts, OfUnfinished, in-header, in_field, TheNumbers, WhenRefused, NoRun, Repeats}
use Rattle.promises.specs.Parts.{AfterRefusal, AfterLast, AfterClosing, TooFewPlaces, MorePlaces, HeldBelow}
use Rattle.format.proofs.Length.{unfinished-short}
use Rattle.format.proofs.Tests.{never}
use Rattle.promises.proofs.Feeding.{Waits, nothing-held, begun, Result, waiting, barred}
use Rattle.promises.proofs.Parts.{all-fed}

-- ---- when a part is refused

pub the-numbers : TheNumbers
the-numbers bs b r e at = go r ((refusals 0 bs b r).0 (ap (into 0) e ∙ into-refused 0 r))
  where
    only-1 : {n : ℕ} → Table 0 bs n → OfUnfinished n → T (eqb n 1)
    only-1 t in-header = tt
    only-1 t (in_field c) =
        let (l, ne) = others 0 bs t in
        absurd (ne (cut-numbers c l))

    go : (r : Reason) → Refusals.TableGives 0 bs r → T (unfinished r) ↔ OfUnfinished (refusal_from at (length bs) r).number
    go r (by_number {n} t) = ((λ u. rw (eqb→eq n 1 u) in-header), only-1 t)
    go r (by_field {n} l) = ((λ u. in_field (field-pos bs l).1), λ f. tt)

pub when-refused : WhenRefused
unfolding take_part on_part
when-refused places s part b h o f =
    let c : take_part places s part ≡ on_part s part (parse bs) = goes_on places s.standing _ _ h o in
    ((λ e. fore (parse bs) refl (rw c at e)), λ (r, p, q, n). rw (c, p) (back r p q n (unfinished r) refl))
  where
    bs : List ℕ
    bs = s.held ++ part

    Refuses : Type 0
    Refuses = (r : Reason) × (parse bs ≡ refused r) × (refusal_from s.at (length bs) r ≡ f) × (OfUnfinished f.number → ⊥)

    by-kind : (r : Reason) → parse bs ≡ refused r → (u : Bool) → unfinished r ≡ u
        → (pick u (reader.hold s part) (reader.refuse s (length bs) r)).reply ≡ broke f → Refuses
    by-kind r p true u e = never (cc)
    by-kind r p false u e =
        let q : refusal_from s.at (length bs) r ≡ f = cc in
        (r, p, q, λ n. rw u at ((the-numbers bs b r p s.at).1 (rw q n)))

    fore : (m : Parsed Description) → parse bs ≡ m → (on_part s part m).reply ≡ broke f → Refuses
    fore end p e = never (cc)
    fore (got d rest) p e = never (cc)
    fore (refused r) p e = by-kind r p (unfinished r) refl e

    back : (r : Reason) → parse bs ≡ refused r → refusal_from s.at (length bs) r ≡ f → (OfUnfinished f.number → ⊥) → (u : Bool) → unfinished r ≡ u
        → (pick u (reader.hold s part) (reader.refuse s (length bs) r)).reply ≡ broke f
    back r p q n true u = absurd (n (rw q at ((the-numbers bs b r p s.at).0 (rw u tt))))
    back r p q n false u = ap broke q

-- ---- after a refusal, after closing, and without room

refusal-repeats : (s : State) (f : Refusal) → s.standing ≡ Broken f → Repeats s (broke f)
unfolding take_part close reader.in_places reader.unless_stopped
refusal-repeats s f e = record { takes = λ places part h. rw (le-ltb places 512 h, e); closes = λ places h. rw (le-ltb places 512 h, e) }

end-repeats : (s : State) → s.standing ≡ Closed → Repeats s ended
unfolding take_part close reader.in_places reader.unless_stopped
end-repeats s e = record { takes = λ places part h. rw (le-ltb places 512 h, e); closes = λ places h. rw (le-ltb places 512 h, e) }

pub too-few-places : TooFewPlaces
unfolding take_part close reader.in_places
too-few-places places s h = record { takes = λ part. rw (lt-ltb places 512 h); closes = rw (lt-ltb places 512 h) }

pub more-places : MorePlaces
unfolding take_part close reader.in_places
more-places places s h = record { takes = λ part. rw (le-ltb places 512 h); closes = rw (le-ltb places 512 h) }

pub after-closing : AfterClosing
unfolding close reader.in_places reader.unless_stopped reader.on_close
after-closing ps h = go (all-fed ps h)
  where
    go : {f : Fed} → Result 0 (joined_parts ps) f → Repeats (close 512 f.state).state (close 512 f.state).reply
    go (waiting ds v e (nothing-held z)) = rw (z, parse-empty) (end-repeats _ refl)
    go (waiting ds v e (begun b p u)) = rw p (refusal-repeats _ _ refl)
    go (barred ds rest n v e w p u) = refusal-repeats _ _ refl

pub after_last : AfterLast
unfolding close reader.in_places reader.unless_stopped reader.on_close
after_last places s a h e n =
    let all : Ends (close places s) = rw (le-ltb places 512 h) (by-standing s.standing refl) in
    all a e n
  where
    Ends : Call → Type 0
    Ends c = (a : Reply) → c.reply ≡ a → NoRun (answered a) → (c.taken ≡ 0) × Repeats c.state a

    by-parse : (m : Parsed Description) → Ends (reader.on_close s m)
    by-parse end a e n = (refl, rw (← e) (end-repeats _ refl))
    by-parse (got d rest) a e n = absurd (rw (← e) at n)
    by-parse (refused r) a e n = (refl, rw (← e) (refusal-repeats _ _ refl))

    by-standing : (t : Standing) → s.standing ≡ t → Ends (reader.unless_stopped t (reader.idle s) (reader.on_close s (parse s.held)))
    by-standing Opened p a e n = by-parse (parse s.held) a e n
    by-standing (Broken g) p a e n = (refl, rw (← e) (refusal-repeats s g p))
    by-standing Closed p a e n = (refl, rw (← e) (end-repeats s p))

-- a call that refuses takes nothing, and is repeated
abbrev Sticks : Call → Type 0
Sticks c = (f : Refusal) → c.reply ≡ broke f → (c.taken ≡ 0) × Repeats c.state (broke f)

pub after-refusal : AfterRefusal
unfolding take_part reader.in_places reader.unless_stopped on_part
after-refusal places s part f h e =
    let all : Sticks (take_part places s part) = rw (le-ltb places 512 h) (by-standing s.standing refl) in
    all f e
  where
    by-kind : (r : Reason) (u : Bool) → Sticks (pick u (reader.hold s part) (reader.refuse s (length (s.held ++ part)) r))
    by-kind r true f e = never (cc)
    by-kind r false f e = (refl, refusal-repeats _ f (cc))

    by-parse : (m : Parsed Description) → Sticks (on_part s part m)
    by-parse end f e = never (cc)
    by-parse (got d rest) f e = never (cc)
    by-parse (refused r) f e = by-kind r (unfinished r) f e

    by-standing : (t : Standing) → s.standing ≡ t → Sticks (reader.unless_stopped t (reader.idle s) (on_part s part (parse (s.held ++ part))))
    by-standing Opened p f e = by-parse (parse (s.held ++ part)) f e
    by-standing (Broken g) p f e = (refl, refusal-repeats s f (cc))
    by-standing Closed p f e = never (cc)

-- ---- what is held

pub held_below : HeldBelow
held_below ps h = go (all-fed ps h)
  where
    few : {bs : List ℕ} → Waits bs → length bs < 4356
    few (nothing-held z) = rw z (omega arith)
    few {bs} (begun {r} b p u) = unfinished-short bs r b p u

    go : {f : Fed} → Result 0 (joined_parts ps) f → length f.state.held < 4356
    go (waiting ds v e w) = few w
    go (barred ds rest n v e w p u) = few w
