-- The reader in parts (FORMAT.md, "Reader in parts"): what a whole list of parts gives, and that it is what the whole-stream reader gives
-- of the joined bytes, however they are cut. Stated of the calls as format defines them;
-- the code's promises are equations with these calls.
-- Assumes nothing.
use Rattle.std.specs.Prelude.{◌≡◌, ◌↔◌, ℕ, zero, suc, ◌+◌, ◌*◌, ◌%◌, ◌<◌, ◌≤◌, Bool, List, [], ◌∷◌, ◌++◌, length, drop, T, ℤ, Some, None, Ok, Err}
use Rattle.format.specs.declared.Refusal.{Refusal}
use Rattle.format.specs.declared.Standing.{Standing}
use Rattle.format.specs.declared.Standing.TheVariants.{Opened, Broken}
use Rattle.format.specs.declared.PartReader.{PartReader}
use Rattle.format.specs.declared.PartAnswer.{PartAnswer}
use Rattle.format.specs.declared.PartAnswer.TheVariants as said
use Rattle.format.specs.declared.PartStep.{PartStep}
use Rattle.format.specs.Digits.{AllBelow}
use Rattle.format.specs.Fields.{two64}
use Rattle.format.specs.Runs.{Description, row_count, Valid, layout}
use Rattle.format.specs.Parse.{Reason, unfinished, refused, parse}
use Rattle.format.specs.Answers.{CutField, Stream, refusing}
use Rattle.format.specs.Streams.{Reading, read_all, runs_of}
use Rattle.format.specs.Promises.{stream_answer}
use Rattle.format.specs.Parts.{refusal_from, Handed, Reply, handed, more, broke, ended, State, start, Call, idle, hand_out, take_part, close}
use Rattle.format.specs.Parts.{state_of, answered, room, Takes, Closes}
use Rattle.promises.specs.Refusals.{CutNumber}

-- the runs that some calls handed out, and the state after them
pub record Fed : Type 0 where
  pub runs : List Handed
  pub state : State

-- after a run the part's other bytes are offered again; else the part is all taken, or refused
abbrev pub go_on : (State → List ℕ → Fed) → List ℕ → Call → Reply → Fed
go_on again part c (handed h) =
    let f = again c.state (drop c.taken part) in
    record { runs = h ∷ f.runs; state = f.state }
go_on again part c more = record { runs = []; state = c.state }
go_on again part c (broke f) = record { runs = []; state = c.state }
go_on again part c ended = record { runs = []; state = c.state }

-- a part is offered until it is all taken or refused, in at most `calls` calls:
-- each run takes a byte at least, so one call more than bytes is enough
unfoldable pub offer : ℕ → State → List ℕ → Fed
offer zero s part = record { runs = []; state = s }
offer (suc calls) s part = go_on (λ t rest. offer calls t rest) part (take_part 512 s part) (take_part 512 s part).reply

-- one part after another
unfoldable pub feed : State → List (List ℕ) → Fed
feed s [] = record { runs = []; state = s }
feed s (p ∷ ps) =
    let f = offer (suc (length p)) s p in
    let g = feed f.state ps in
    record { runs = f.runs ++ g.runs; state = g.state }

-- what is given in all: the runs, and the answer of the closing call
pub record GivenInParts : Type 0 where
  pub runs : List Handed
  pub answer : Reply

abbrev pub read_parts : List (List ℕ) → GivenInParts
read_parts ps = record { runs = (feed start ps).runs; answer = (close 512 (feed start ps).state).reply }

-- ---- the whole-stream reader's, to compare

-- the bytes of the parts, joined
abbrev pub joined_parts : List (List ℕ) → List ℕ
joined_parts [] = []
joined_parts (p ∷ ps) = p ++ joined_parts ps

-- runs one after another, each with its start, modulo 2^64; the first starts at `at`
unfoldable pub starting : ℕ → List Description → List Handed
starting at [] = []
starting at (d ∷ ds) = record { at = at; run = d } ∷ starting ((at + length (layout d)) % two64) ds

-- the stream's answer: its place and the byte of a cut field count modulo 2^64
abbrev pub cut_modulo : CutField → CutField
cut_modulo None = None
cut_modulo (Some b) = Some (record { bytes = b.bytes % two64 })

abbrev pub last_answer : Stream → Reply
last_answer (Ok c) = ended
last_answer (Err s) =
    broke (record { number = s.by.number; place = record { bytes = s.by.place.bytes % two64 }; cut = cut_modulo s.by.cut })

abbrev pub stream_gives : Reading → GivenInParts
stream_gives m = record { runs = starting 0 (runs_of m); answer = last_answer (stream_answer 0 m) }

-- the rows of the runs handed out
unfoldable pub rows_in : List Handed → ℕ
rows_in [] = 0
rows_in (h ∷ hs) = row_count h.run + rows_in hs

-- ---- THE THEOREM: for every list of parts, the runs, their starts and the answer after closing are those of the whole-stream reader over
-- the joined bytes, exactly with room enough for the rows
abbrev pub SameAsStream : Type 0
SameAsStream = (ps : List (List ℕ)) → AllBelow 256 (joined_parts ps) → (n : ℕ)
    → (read_parts ps ≡ stream_gives (read_all n (joined_parts ps))) ↔ (rows_in (read_parts ps).runs ≤ n)

-- two ways of cutting the same bytes give the same
abbrev pub AnyCut : Type 0
AnyCut = (ps qs : List (List ℕ)) → AllBelow 256 (joined_parts ps) → joined_parts ps ≡ joined_parts qs → read_parts ps ≡ read_parts qs

-- before closing, what is handed out is all that the whole-stream reader reads in the bytes so far:
-- no run whose last byte is there is kept back ..
abbrev pub AtOnce : Type 0
AtOnce = (ps : List (List ℕ)) → AllBelow 256 (joined_parts ps) → (n : ℕ) → rows_in (feed start ps).runs ≤ n
    → (feed start ps).runs ≡ starting 0 (runs_of (read_all n (joined_parts ps)))

-- .. by the very call in which its last byte comes, in every state that is open
abbrev pub ByThatCall : Type 0
ByThatCall = (places : ℕ) (s : State) (part : List ℕ) (d : Description) (rest : List ℕ) → 512 ≤ places → s.standing ≡ Opened → Valid d
    → s.held ++ part ≡ layout d ++ rest → take_part places s part ≡ hand_out s part d rest

-- .. and it is how the runs of the whole stream begin, whatever follows
abbrev pub Begins : Type 0
Begins = (ps qs : List (List ℕ)) → AllBelow 256 (joined_parts ps ++ joined_parts qs) → (n : ℕ) → rows_in (feed start (ps ++ qs)).runs ≤ n
    → (hs : List Handed) × (starting 0 (runs_of (read_all n (joined_parts ps ++ joined_parts qs))) ≡ (feed start ps).runs ++ hs)

-- an unfinished run's refusals are 1, 6, 12, 13 and 14: an open reader refuses a part exactly if the run reader, over the bytes held and
-- the part's, gives another
pub data OfUnfinished : ℕ → Type 0 where
  in-header : OfUnfinished 1
  in_field : {n : ℕ} → CutNumber n → OfUnfinished n

abbrev pub TheNumbers : Type 0
TheNumbers = (bs : List ℕ) → AllBelow 256 bs → (r : Reason) → parse bs ≡ refused r → (at : ℕ)
    → T (unfinished r) ↔ OfUnfinished (refusal_from at (length bs) r).number

abbrev pub WhenRefused : Type 0
WhenRefused = (places : ℕ) (s : State) (part : List ℕ) → AllBelow 256 (s.held ++ part) → 512 ≤ places
    → s.standing ≡ Opened → (f : Refusal)
    → ((take_part places s part).reply ≡ broke f)
    ↔ ((r : Reason) × (parse (s.held ++ part) ≡ refused r) × (refusal_from s.at (length (s.held ++ part)) r ≡ f)
    × (OfUnfinished f.number → ⊥))

-- Before the closing call: a reader stands refused exactly if the whole-stream reader, over the bytes so far, gives a refusal other than
-- these five, and with the same one (place and cut byte counted from the first part modulo 2^64). Else it is open.
pub record Stands (t : Standing) (w : Stream) : Type 0 where
  pub refused : (f : Refusal) → (t ≡ Broken f) ↔ ((last_answer w ≡ broke f) × (OfUnfinished f.number → ⊥))
  pub still_open : (t ≡ Opened) ↔ ((f : Refusal) → last_answer w ≡ broke f → OfUnfinished f.number)

-- after every list of parts, with room enough for the rows handed out ..
abbrev pub BeforeClosing : Type 0
BeforeClosing = (ps : List (List ℕ)) → AllBelow 256 (joined_parts ps) → (n : ℕ) → rows_in (feed start ps).runs ≤ n
    → Stands (feed start ps).state.standing (stream_answer 0 (read_all n (joined_parts ps)))

-- .. which 512 places a byte always are
abbrev pub EnoughRoom : Type 0
EnoughRoom = (ps : List (List ℕ)) → AllBelow 256 (joined_parts ps) → rows_in (feed start ps).runs ≤ 512 * length (joined_parts ps)

-- an answer that is no run
abbrev pub NoRun : PartAnswer → Type 0
NoRun (said.Run at r) = ⊥
NoRun said.More = Unit {0}
NoRun (said.Refused f) = Unit {0}
NoRun said.End = Unit {0}

-- each later call with 512 places repeats the answer a, takes nothing and changes nothing
pub record Repeats (s : State) (a : Reply) : Type 0 where
  pub takes : (places : ℕ) (part : List ℕ) → 512 ≤ places → take_part places s part ≡ idle s a
  pub closes : (places : ℕ) → 512 ≤ places → close places s ≡ idle s a

-- after any refusal but 8, and after closing
abbrev pub AfterRefusal : Type 0
AfterRefusal = (places : ℕ) (s : State) (part : List ℕ) (f : Refusal) → 512 ≤ places → (take_part places s part).reply ≡ broke f
    → ((take_part places s part).taken ≡ 0) × Repeats (take_part places s part).state (broke f)

-- (a whole run that is held, which no reader from `start` holds, is handed out first)
abbrev pub AfterLast : Type 0
AfterLast = (places : ℕ) (s : State) (a : Reply) → 512 ≤ places → (close places s).reply ≡ a → NoRun (answered a)
    → ((close places s).taken ≡ 0) × Repeats (close places s).state a

abbrev pub AfterClosing : Type 0
AfterClosing = (ps : List (List ℕ)) → AllBelow 256 (joined_parts ps)
    → Repeats (close 512 (feed start ps).state).state (read_parts ps).answer

-- 8 changes nothing, whatever the state: the call may be made again
pub record NoRoom (places : ℕ) (s : State) : Type 0 where
  pub takes : (part : List ℕ) → take_part places s part ≡ idle s (broke (refusing 8 0))
  pub closes : close places s ≡ idle s (broke (refusing 8 0))

abbrev pub TooFewPlaces : Type 0
TooFewPlaces = (places : ℕ) (s : State) → places < 512 → NoRoom places s

-- more places than 512 change nothing
pub record AsIn512 (places : ℕ) (s : State) : Type 0 where
  pub takes : (part : List ℕ) → take_part places s part ≡ take_part 512 s part
  pub closes : close places s ≡ close 512 s

abbrev pub MorePlaces : Type 0
MorePlaces = (places : ℕ) (s : State) → 512 ≤ places → AsIn512 places s

-- what is held is one byte at least shorter than the longest run
abbrev pub HeldBelow : Type 0
HeldBelow = (ps : List (List ℕ)) → AllBelow 256 (joined_parts ps) → length (feed start ps).state.held < 4356

-- After a call with a part the reader and the caller's buffer stand for that call's state:
-- so the code's calls, one after another, do what `feed` does.
abbrev pub Follows : Type 0
Follows = (s : PartReader) (part buffer buffer' : List ℕ) (signed : Bool) (out out' : List ℤ) (r : PartStep)
    → AllBelow 256 buffer → AllBelow 256 part
    → Takes s part buffer buffer' signed out out' r
    → state_of r.reader buffer' ≡ (take_part (room buffer out) (state_of s buffer) part).state

-- and so after the closing call, which leaves the caller's buffer
abbrev pub FollowsClosing : Type 0
FollowsClosing = (s : PartReader) (buffer : List ℕ) (signed : Bool) (out out' : List ℤ) (r : PartStep)
    → Closes s buffer signed out out' r → state_of r.reader buffer ≡ (close (room buffer out) (state_of s buffer)).state

-- A call that refuses takes nothing, and leaves the buffer and every place as they were (the closing call leaves the buffer, whatever it
-- answers).
pub record Untouched (buffer buffer' : List ℕ) (out out' : List ℤ) (r : PartStep) : Type 0 where
  pub taken : r.taken.bytes ≡ 0
  pub lent : buffer' ≡ buffer
  pub places : out' ≡ out

abbrev pub RefusedLeaves : Type 0
RefusedLeaves = (s : PartReader) (part buffer buffer' : List ℕ) (signed : Bool) (out out' : List ℤ) (r : PartStep) (f : Refusal)
    → Takes s part buffer buffer' signed out out' r → r.answer ≡ said.Refused f → Untouched buffer buffer' out out' r
