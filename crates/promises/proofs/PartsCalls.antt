-- One call of the reader in parts: what it takes, what its reply becomes, and that 512 places are room enough. Assumes nothing.
use Rattle.format.proofs.Common.{◌≡◌, refl, sym, ap, ℕ, suc, ◌-◌, ◌<◌, ◌≤◌, arith, Bool, true, false, List, [], ◌++◌, length, ℤ, le-ltb}
use Rattle.format.specs.declared.ByteOffset.{ByteOffset}
use Rattle.format.specs.declared.Run as run
use Rattle.format.specs.declared.Refusal.{Refusal}
use Rattle.format.specs.declared.Standing.TheVariants.{Opened, Broken}
use Rattle.format.specs.declared.PartAnswer.TheVariants as said
use Rattle.format.specs.Digits.{AllBelow}
use Rattle.format.specs.Fields.{pick}
use Rattle.format.specs.Runs.{Description}
use Rattle.format.specs.Parse.{unfinished, Parsed, parse}
use Rattle.format.specs.Promises.{run_of}
use Rattle.format.specs.Parts as reader
use Rattle.format.specs.Parts.{Handed, Reply, handed, more, broke, ended, State, Call, on_part, take_part, close, answered, room}
use Rattle.format.proofs.Below.{below-append}
use Rattle.format.proofs.Runs.{Outcome, nothing, run, refusal, outcome}
use Rattle.format.proofs.Tests.{never}
use Rattle.promises.specs.Parts.{Fed, go_on, offer, NoRun}
use Rattle.promises.specs.PartsCalls.{Lent}
use Rattle.promises.proofs.Feeding.{Waits, nothing-held, bytes-held, Result, waiting, barred, offered, ends-in, lengths}
use Rattle.promises.proofs.PartsRefused.{more-places}

-- a state between two calls: open, with what waits; or stopped
pub data Ready : State → Type 0 where
  opened : {h : List ℕ} {at : ℕ} → Waits h → Ready (record { held = h; at = at; standing = Opened })
  broken : {h : List ℕ} {at : ℕ} {f : Refusal} → Ready (record { held = h; at = at; standing = Broken f })

-- a call that hands out a run has taken a byte at least
pub record Onward (bytes : List ℕ) (c : Call) : Type 0 where
  pub ready : Ready c.state
  pub some : 0 < c.taken
  pub within : c.taken ≤ length bytes

pub onward : {s : State} (bytes : List ℕ) (h : Handed) → Ready s → AllBelow 256 bytes → (take_part 512 s bytes).reply ≡ handed h
    → Onward bytes (take_part 512 s bytes)
unfolding take_part reader.in_places reader.unless_stopped on_part
onward bytes h (broken) b e = never (cc)
onward bytes h (opened {h = held} {at} w) b e = go (parse (held ++ bytes)) (outcome (held ++ bytes) (below-append 256 held bytes (bytes-held w) b)) e
  where
    s : State
    s = record { held = held; at = at; standing = Opened }

    go : (m : Parsed Description) → Outcome (held ++ bytes) m → (on_part s bytes m).reply ≡ handed h → Onward bytes (on_part s bytes m)
    go m (nothing z) e = never (cc)
    go m (run {d} {rest} t) e =
        let l : 0 < length bytes - length rest =
        omega (arith, ends-in held bytes rest d w t.ok t.split, lengths held bytes rest d w t.ok t.split) in
        record { ready = opened (nothing-held refl); some = l; within = omega arith }
    go m (refusal {r} z) e = by-kind (unfinished r) e
      where
        by-kind : (u : Bool) → (pick u (reader.hold s bytes) (reader.refuse s (length (held ++ bytes)) r)).reply ≡ handed h
            → Onward bytes (pick u (reader.hold s bytes) (reader.refuse s (length (held ++ bytes)) r))
        by-kind true e = never (cc)
        by-kind false e = never (cc)

-- after a part
pub ready-after : {s : State} (bytes : List ℕ) → Ready s → AllBelow 256 bytes → Ready (offer (suc (length bytes)) s bytes).state
unfolding offer take_part reader.in_places reader.unless_stopped
ready-after bytes (broken) b = broken
ready-after bytes (opened {h} {at} w) b = go (offered (suc (length bytes)) h at bytes w (below-append 256 h bytes (bytes-held w) b) (omega arith))
  where
    go : {f : Fed} → Result at (h ++ bytes) f → Ready f.state
    go (waiting ds v e w') = opened w'
    go (barred ds rest n v e w' q u) = broken

-- ---- what a reply becomes

pub no_run : (again : State → List ℕ → Fed) (bytes : List ℕ) (c : Call) (a : Reply) → NoRun (answered a)
    → go_on again bytes c a ≡ record { runs = []; state = c.state }
no_run again bytes c (handed h) n = absurd n
no_run again bytes c more n = refl
no_run again bytes c (broke f) n = refl
no_run again bytes c ended n = refl

pub record Gave (a : Reply) (at : ByteOffset) (x : run.Run) : Type 0 where
  pub given : Handed
  pub reply : a ≡ handed given
  pub start : at.bytes ≡ given.at
  pub named : x ≡ run_of given.run

pub gave : (a : Reply) {at : ByteOffset} {x : run.Run} → answered a ≡ said.Run at x → Gave a at x
gave (handed h) {at} {x} e =
    let p : record { bytes = h.at } ≡ at = cc in
    record { given = h; reply = refl; start = ap (λ (o : ByteOffset). o.bytes) (sym p); named = cc }
gave more e = never (cc)
gave (broke f) e = never (cc)
gave ended e = never (cc)

-- ---- calls with room are calls with 512 places

room-is : {buffer : List ℕ} {out : List ℤ} → Lent buffer out → room buffer out ≡ length out
room-is {buffer} l = rw (le-ltb (length buffer) 4356 l.enough)

pub taking : {buffer : List ℕ} {out : List ℤ} → Lent buffer out → (s : State) (bytes : List ℕ) → take_part (room buffer out) s bytes ≡ take_part 512 s bytes
taking {out} l s bytes = rw (room-is l) ((more-places (length out) s l.places).takes bytes)

pub closing : {buffer : List ℕ} {out : List ℤ} → Lent buffer out → (s : State) → close (room buffer out) s ≡ close 512 s
closing {out} l s = rw (room-is l) (more-places (length out) s l.places).closes
