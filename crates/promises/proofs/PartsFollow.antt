-- The code's reader and lent bytes follow the state, call after call; a call that refuses leaves all that is lent. Assumes nothing.
use Rattle.format.proofs.Common.{◌≡◌, refl, sym, ap, ◌∙◌, ℕ, ◌≤◌, min, le_refl, arith, Bool, true, false, List, ◌++◌, length, take}
use Rattle.format.proofs.Common.{length-append, length-take, take-paste, take-length, ltb, nltb→le, ℤ}
use Rattle.format.specs.Digits.{AllBelow}
use Rattle.format.specs.Fields.{pick}
use Rattle.format.specs.Runs.{Description}
use Rattle.format.specs.Parse.{Reason, unfinished, Parsed, end, got, refused, parse}
use Rattle.format.specs.Answers.{refusing}
use Rattle.format.proofs.Below.{below-append, below-take}
use Rattle.format.proofs.Runs.{Outcome, nothing, run, refusal, outcome}
use Rattle.format.specs.declared.Refusal.{Refusal}
use Rattle.format.specs.declared.PartReader.{PartReader}
use Rattle.format.specs.declared.PartAnswer.TheVariants as said
use Rattle.format.specs.declared.PartStep.{PartStep}
use Rattle.format.specs.declared.Standing.{Standing}
use Rattle.format.specs.declared.Standing.TheVariants.{Opened, Broken, Closed}
use Rattle.format.specs.Parts as reader
use Rattle.format.specs.Parts.{Call, on_part, unless_stopped, in_places, take_part, close, on_close}
use Rattle.format.specs.Parts.{State, Reply, answered, state_of, held_after, buffer_after, places_after, room}
use Rattle.promises.specs.Parts.{Follows, FollowsClosing, RefusedLeaves}
use Rattle.format.proofs.Length.{unfinished-short}
use Rattle.format.proofs.Parts.{take_min}
use Rattle.format.proofs.Tests.{never}

module _ (s : PartReader) (part buffer : List ℕ) where
  abbrev held : List ℕ
  held = take s.held buffer

  size : length held ≡ min s.held (length buffer)
  size = length-take s.held buffer

  front : take (length held) buffer ≡ held
  front = ap (λ (n : ℕ). take n buffer) size ∙ take_min s.held buffer

  -- all is held: the part stands after the bytes held
  holding : length (held ++ part) ≤ 4356 → 4356 ≤ length buffer → take (length (held ++ part)) (buffer_after held part buffer reader.more) ≡ held ++ part
  holding h l =
      ap (λ (n : ℕ). take n (buffer_after held part buffer reader.more)) (length-append held part)
      ∙ take-paste buffer (length held) part (length part) (omega (arith, size, length-append held part)) (le_refl (length part))
      ∙ ap (λ (x : List ℕ). x ++ take (length part) part) front ∙ ap (λ (x : List ℕ). held ++ x) (take-length part)

  -- an open reader's call
  follows-open : (m : Parsed Description) → Outcome (held ++ part) m → parse (held ++ part) ≡ m → AllBelow 256 (held ++ part) → 4356 ≤ length buffer
      → take (held_after s.held (on_part (state_of s buffer) part m) (on_part (state_of s buffer) part m).reply)
      (buffer_after held part buffer (on_part (state_of s buffer) part m).reply)
      ≡ (on_part (state_of s buffer) part m).state.held
  unfolding on_part
  follows-open m (nothing z) e b l = holding (omega (arith, ap length z)) l
  follows-open m (run {d} t) e b l = refl
  follows-open m (refusal {r} z) e b l = go (unfinished r) refl
    where
      go : (u : Bool) → unfinished r ≡ u
          → take (held_after s.held
          (pick u (reader.hold (state_of s buffer) part) (reader.refuse (state_of s buffer) (length (held ++ part)) r))
          (pick u (reader.hold (state_of s buffer) part) (reader.refuse (state_of s buffer) (length (held ++ part)) r)).reply)
          (buffer_after held part buffer (pick u (reader.hold (state_of s buffer) part) (reader.refuse (state_of s buffer) (length (held ++ part)) r)).reply)
          ≡ (pick u (reader.hold (state_of s buffer) part) (reader.refuse (state_of s buffer) (length (held ++ part)) r)).state.held
      go true u = holding (omega (arith, unfinished-short (held ++ part) r b e (rw u tt))) l
      go false u = refl

long-enough : (buffer : List ℕ) (out : List ℤ) → ltb (room buffer out) 512 ≡ false → 4356 ≤ length buffer
long-enough buffer out e = go (ltb (length buffer) 4356) refl (nltb→le (room buffer out) 512 (rw e tt))
  where
    go : (t : Bool) → ltb (length buffer) 4356 ≡ t → 512 ≤ pick t 0 (length out) → 4356 ≤ length buffer
    go true z h = absurd (omega arith)
    go false z h = nltb→le (length buffer) 4356 (rw z tt)

pub follows : Follows
unfolding take_part in_places unless_stopped
follows s part buffer buffer' signed out out' r b c t =
    let d : Call = take_part (room buffer out) (state_of s buffer) part in
    ap (λ (x : PartStep). state_of x.reader buffer') t.step
    ∙ ap (λ (x : List ℕ). record { held = x; at = d.state.at; standing = d.state.standing })
    (ap (take (held_after s.held d d.reply)) t.lent ∙ by (ltb (room buffer out) 512) refl s.standing)
  where
    here : List ℕ
    here = take s.held buffer

    call : Bool → Standing → Call
    call u x = pick u (reader.idle (state_of s buffer) (reader.broke (refusing 8 0)))
        (unless_stopped x (reader.idle (state_of s buffer)) (on_part (state_of s buffer) part (parse (here ++ part))))

    by : (u : Bool) → ltb (room buffer out) 512 ≡ u → (x : Standing)
        → take (held_after s.held (call u x) (call u x).reply) (buffer_after here part buffer (call u x).reply) ≡ (call u x).state.held
    by true e x = refl
    by false e Opened =
        let below : AllBelow 256 (here ++ part) = below-append 256 here part (below-take 256 s.held buffer b) c in
        follows-open s part buffer (parse (here ++ part)) (outcome (here ++ part) below) refl below (long-enough buffer out e)
    by false e (Broken f) = refl
    by false e Closed = refl

pub follows-closing : FollowsClosing
unfolding close in_places unless_stopped on_close
follows-closing s buffer signed out out' r t =
    let d : Call = close (room buffer out) (state_of s buffer) in
    ap (λ (x : PartStep). state_of x.reader buffer) t.step
    ∙ ap (λ (x : List ℕ). record { held = x; at = d.state.at; standing = d.state.standing }) (by (ltb (room buffer out) 512) s.standing)
  where
    call : Bool → Standing → Call
    call u x = pick u (reader.idle (state_of s buffer) (reader.broke (refusing 8 0)))
        (unless_stopped x (reader.idle (state_of s buffer)) (on_close (state_of s buffer) (parse (take s.held buffer))))

    by-parse : (m : Parsed Description)
        → take (held_after s.held (on_close (state_of s buffer) m) (on_close (state_of s buffer) m).reply) buffer
        ≡ (on_close (state_of s buffer) m).state.held
    by-parse end = refl
    by-parse (got d rest) = refl
    by-parse (refused r) = refl

    by : (u : Bool) (x : Standing) → take (held_after s.held (call u x) (call u x).reply) buffer ≡ (call u x).state.held
    by true x = refl
    by false Opened = by-parse (parse (take s.held buffer))
    by false (Broken f) = refl
    by false Closed = refl

-- ---- a call that refuses

module _ (f : Refusal) where
  none-taken : (places : ℕ) (s : State) (part : List ℕ) → answered (take_part places s part).reply ≡ said.Refused f → (take_part places s part).taken ≡ 0
  unfolding take_part in_places unless_stopped on_part
  none-taken places s part = by (ltb places 512) s.standing (parse (s.held ++ part))
    where
      call : Bool → Standing → Parsed Description → Call
      call u x m = pick u (reader.idle s (reader.broke (refusing 8 0))) (unless_stopped x (reader.idle s) (on_part s part m))

      on-refusal : (r : Reason) (u : Bool) → answered (pick u (reader.hold s part) (reader.refuse s (length (s.held ++ part)) r)).reply ≡ said.Refused f
          → (pick u (reader.hold s part) (reader.refuse s (length (s.held ++ part)) r)).taken ≡ 0
      on-refusal r true e = never (cc)
      on-refusal r false e = refl

      by : (u : Bool) (x : Standing) (m : Parsed Description) → answered (call u x m).reply ≡ said.Refused f → (call u x m).taken ≡ 0
      by true x m e = refl
      by false (Broken b) m e = refl
      by false Closed m e = refl
      by false Opened end e = never (cc)
      by false Opened (got d rest) e = never (cc)
      by false Opened (refused r) e = on-refusal r (unfinished r) e

  as_before : (held part buffer : List ℕ) (signed : Bool) (out : List ℤ) (a : Reply) → answered a ≡ said.Refused f
      → (buffer_after held part buffer a ≡ buffer) × (places_after signed out a ≡ out)
  as_before held part buffer signed out (reader.handed h) e = never (cc)
  as_before held part buffer signed out reader.more e = never (cc)
  as_before held part buffer signed out (reader.broke b) e = (refl, refl)
  as_before held part buffer signed out reader.ended e = (refl, refl)

pub refused-leaves : RefusedLeaves
refused-leaves s part buffer buffer' signed out out' r f t e =
    let c : Call = take_part (room buffer out) (state_of s buffer) part in
    let q : answered c.reply ≡ said.Refused f = sym (ap (λ (x : PartStep). x.answer) t.step) ∙ e in
    let (lent, places) = as_before f (take s.held buffer) part buffer signed out c.reply q in
    record {
      taken = ap (λ (x : PartStep). x.taken.bytes) t.step ∙ none-taken f (room buffer out) (state_of s buffer) part q;
      lent = t.lent ∙ lent;
      places = t.places ∙ places;
    }
