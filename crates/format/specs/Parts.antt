-- FORMAT.md, "Reader in parts": the reader's state, what each call does in every state, and what the calls promise. The part is joined to
-- the bytes held, and a call goes by what reading one run of both gives.
-- Assumes nothing.
use Rattle.std.specs.Prelude.{◌≡◌, ℕ, ◌+◌, ◌-◌, ◌%◌, min, Bool, List, [], ◌++◌, length, take, drop, ltb, eqb, ℤ}
use Rattle.std.proofs.Math.Seq.{paste}
use Rattle.format.specs.declared.Refusal.{Refusal}
use Rattle.format.specs.declared.Standing.{Standing}
use Rattle.format.specs.declared.Standing.TheVariants.{Opened, Broken, Closed}
use Rattle.format.specs.declared.PartReader.{PartReader}
use Rattle.format.specs.declared.PartAnswer.{PartAnswer}
use Rattle.format.specs.declared.PartAnswer.TheVariants.{Run, More, Refused, End}
use Rattle.format.specs.declared.PartStep.{PartStep}
use Rattle.format.specs.Fields.{pick, two64}
use Rattle.format.specs.Runs.{Description, row_count, layout}
use Rattle.format.specs.Rows.{i64_rows}
use Rattle.format.specs.Parse.{Reason, plain, cut, unfinished, Parsed, end, got, refused, parse}
use Rattle.format.specs.Answers.{refusing, cutting}
use Rattle.format.specs.Promises.{run_of}

-- The refusal of the run that begins at a byte. There are `total` bytes from there on, and `left` of them from the cut field's first on.
-- Bytes count from the first part's first, modulo 2^64.
abbrev pub refusal_from : ℕ → ℕ → Reason → Refusal
refusal_from at total (plain n) = refusing n at
refusal_from at total (cut n left) = cutting n at ((at + (total - left)) % two64)

-- a run that is handed out, and the byte where it starts: counted from the first part, modulo 2^64
pub record Handed : Type 0 where
  pub at : ℕ
  pub run : Description

-- what a call answers: a run; "all taken, no run yet"; a refusal; or, after closing, the stream's end
pub data Reply : Type 0 where
  handed : Handed → Reply
  more : Reply
  broke : Refusal → Reply
  ended : Reply

-- the bytes held of the unfinished run, where that run starts, and whether the reader is open, was refused, or closed
pub record State : Type 0 where
  pub held : List ℕ
  pub at : ℕ
  pub standing : Standing

abbrev pub start : State
start = record { held = []; at = 0; standing = Opened }

-- what a call does: its answer, how many of the part's bytes it takes, and the state after it
pub record Call : Type 0 where
  pub reply : Reply
  pub taken : ℕ
  pub state : State

-- nothing is taken, and nothing changes
abbrev pub idle : State → Reply → Call
idle s a = record { reply = a; taken = 0; state = s }

-- nothing is taken, and the reader stops
abbrev pub stop : State → Standing → Reply → Call
stop s t a = record { reply = a; taken = 0; state = record { held = s.held; at = s.at; standing = t } }

abbrev pub refuse : State → ℕ → Reason → Call
refuse s total r = stop s (Broken (refusal_from s.at total r)) (broke (refusal_from s.at total r))

-- all is taken, and held
abbrev pub hold : State → List ℕ → Call
hold s part = record { reply = more; taken = length part; state = record { held = s.held ++ part; at = s.at; standing = Opened } }

-- the run is handed out, and the part is taken up to the run's end: all of it but the bytes `rest` after the run
abbrev pub hand_out : State → List ℕ → Description → List ℕ → Call
hand_out s part d rest = record {
  reply = handed (record { at = s.at; run = d });
  taken = length part - length rest;
  state = record { held = []; at = (s.at + length (layout d)) % two64; standing = Opened };
}

-- a call with a part, by what reading gives: an unfinished run is refused only at the closing call
unfoldable pub on_part : State → List ℕ → Parsed Description → Call
on_part s part end = hold s part
on_part s part (got d rest) = hand_out s part d rest
on_part s part (refused r) = pick (unfinished r) (hold s part) (refuse s (length (s.held ++ part)) r)

-- the closing call, by what reading gives (a whole run is held by no state that `start` led to)
unfoldable pub on_close : State → Parsed Description → Call
on_close s end = stop s Closed ended
on_close s (got d rest) = hand_out s [] d rest
on_close s (refused r) = refuse s (length s.held) r

-- after a refusal, and after closing, each later call repeats the answer
unfoldable pub unless_stopped : {A : Type 0} → Standing → (Reply → A) → A → A
unless_stopped Opened repeated a = a
unless_stopped (Broken f) repeated a = repeated (broke f)
unless_stopped Closed repeated a = repeated ended

-- 8 for fewer than 512 places, before all else; its place is 0
unfoldable pub in_places : {A : Type 0} → ℕ → Standing → (Reply → A) → A → A
in_places places t repeated a = pick (ltb places 512) (repeated (broke (refusing 8 0))) (unless_stopped t repeated a)

-- THE TWO CALLS
unfoldable pub take_part : ℕ → State → List ℕ → Call
take_part places s part = in_places places s.standing (idle s) (on_part s part (parse (s.held ++ part)))

unfoldable pub close : ℕ → State → Call
close places s = in_places places s.standing (idle s) (on_close s (parse s.held))

-- ---- THE PROMISE, over lent bytes and places

abbrev pub fresh : PartReader
fresh = record { held = 0; at = record { bytes = 0 }; standing = Opened }

-- the state that a reader and the caller's buffer stand for: the bytes held are the buffer's first
abbrev pub state_of : PartReader → List ℕ → State
state_of s buffer = record { held = take s.held buffer; at = s.at.bytes; standing = s.standing }

-- an answer in the code's words
abbrev pub answered : Reply → PartAnswer
answered (handed h) = Run (record { bytes = h.at }) (run_of h.run)
answered more = More
answered (broke f) = Refused f
answered ended = End

-- how many bytes are held after a call: a call that refuses or repeats changes nothing
abbrev pub held_after : ℕ → Call → Reply → ℕ
held_after n c (handed h) = length c.state.held
held_after n c more = length c.state.held
held_after n c (broke f) = n
held_after n c ended = n

-- a call's answer, the bytes taken and the reader after it
abbrev pub step_of : PartReader → Call → PartStep
step_of s c = record {
  answer = answered c.reply;
  taken = record { bytes = c.taken };
  reader = record { held = held_after s.held c c.reply; at = record { bytes = c.state.at }; standing = c.state.standing };
}

-- the caller's places: the rows of a run that is handed out in the first of them, the others as they were
abbrev pub places_after : Bool → List ℤ → Reply → List ℤ
places_after signed out (handed h) = i64_rows signed h.run ++ drop (row_count h.run) out
places_after signed out more = out
places_after signed out (broke f) = out
places_after signed out ended = out

-- The caller's buffer. A call that refuses leaves it as it was, and so does one that repeats its answer. If all of the part is taken, it
-- stands after the bytes held. A run that lies whole in its part is read from the part. A run that began earlier is read from the buffer:
-- then the part stands after the bytes held, up to the most bytes that a run has.
abbrev pub buffer_after : List ℕ → List ℕ → List ℕ → Reply → List ℕ
buffer_after held part buffer (handed h) =
    pick (eqb (length held) 0) buffer (paste buffer (length held) part (min (length part) (4356 - length held)))
buffer_after held part buffer more = paste buffer (length held) part (length part)
buffer_after held part buffer (broke f) = buffer
buffer_after held part buffer ended = buffer

-- a buffer of fewer than 4,356 bytes, the most that a run has, is like no places
abbrev pub room : List ℕ → List ℤ → ℕ
room buffer out = pick (ltb (length buffer) 4356) 0 (length out)

-- A CALL WITH A PART, for every reader, buffer and places: its answer, the bytes taken, the reader after it, the buffer and the places
pub record Takes (s : PartReader) (part buffer buffer' : List ℕ) (signed : Bool) (out out' : List ℤ) (r : PartStep) : Type 0 where
  pub step : r ≡ step_of s (take_part (room buffer out) (state_of s buffer) part)
  pub lent : buffer' ≡ buffer_after (take s.held buffer) part buffer (take_part (room buffer out) (state_of s buffer) part).reply
  pub places : out' ≡ places_after signed out (take_part (room buffer out) (state_of s buffer) part).reply

-- THE CLOSING CALL: the buffer stays as it was
pub record Closes (s : PartReader) (buffer : List ℕ) (signed : Bool) (out out' : List ℤ) (r : PartStep) : Type 0 where
  pub step : r ≡ step_of s (close (room buffer out) (state_of s buffer))
  pub places : out' ≡ places_after signed out (close (room buffer out) (state_of s buffer)).reply
