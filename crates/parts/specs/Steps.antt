-- The reader in parts from inside: what a call does by the run reader's answer to the bytes that were looked at. Assumes nothing.
use Rattle.std.specs.Prelude.{◌≡◌, ℕ, ◌+◌, ◌-◌, ◌%◌, ◌<◌, ◌≤◌, min, Bool, true, false, List, ◌++◌, length, take, ℤ, ◌==◌, Some, None, Ok, Err}
use Rattle.std.proofs.Math.Seq.{paste}
use Rattle.format.specs.declared.Run as run
use Rattle.format.specs.declared.Refusal as refusal
use Rattle.format.specs.declared.Standing.{Standing}
use Rattle.format.specs.declared.Standing.TheVariants.{Opened, Broken, Closed}
use Rattle.format.specs.declared.PartReader.{PartReader}
use Rattle.format.specs.declared.PartAnswer.{PartAnswer}
use Rattle.format.specs.declared.PartAnswer.TheVariants.{Run, More, Refused, End}
use Rattle.format.specs.declared.PartStep.{PartStep}
use Rattle.format.specs.Fields.{pick, two64}
use Rattle.format.specs.Parse.{parse}
use Rattle.format.specs.Answers.{CutField, Answer, refusing, cutting}
use Rattle.format.specs.Parts.{Call, on_part, state_of, step_of, buffer_after, places_after}

-- an open reader with room enough: c is what the call does
pub record Goes (s : PartReader) (part buffer buffer' : List ℕ) (signed : Bool) (out out' : List ℤ) (r : PartStep) (c : Call) : Type 0 where
  pub step : r ≡ step_of s c
  pub lent : buffer' ≡ buffer_after (take s.held buffer) part buffer c.reply
  pub places : out' ≡ places_after signed out c.reply

-- a run that began before its part: h of the lent bytes are held, and the first k of the part's are all that can belong to it
pub record Begun (s : PartReader) (part buffer : List ℕ) (h k : ℕ) : Type 0 where
  pub long : 4356 ≤ length buffer
  pub held : h ≡ min s.held (length buffer)
  pub some : 0 < h
  pub seen : k ≡ min (length part) (4356 - h)

-- it is read in the lent bytes, whatever the answer is
pub record Joins (s : PartReader) (part buffer buffer' : List ℕ) (h k : ℕ) (signed : Bool) (out out' : List ℤ) (r : PartStep)
    (c : Call) : Type 0 where
  pub step : r ≡ step_of s c
  pub lent : buffer' ≡ paste buffer h part k
  pub places : out' ≡ places_after signed out c.reply

abbrev pub goes : PartReader → List ℕ → List ℕ → Call
goes s part buffer = on_part (state_of s buffer) part (parse (take s.held buffer ++ part))

-- nothing is taken, and nothing changes
abbrev pub still : PartReader → PartAnswer → PartStep
still s a = record { answer = a; taken = record { bytes = 0 }; reader = s }

abbrev pub too_few : PartReader → PartStep
too_few s = still s (Refused (refusing 8 0))

-- all of the part is taken, and the bytes seen are held
abbrev pub holds : PartReader → ℕ → ℕ → PartStep
holds s seen part = record {
  answer = More;
  taken = record { bytes = part };
  reader = record { held = seen; at = s.at; standing = Opened };
}

-- nothing is taken, and the reader stops
abbrev pub stops : PartReader → Standing → PartAnswer → PartStep
stops s t a = record { answer = a; taken = record { bytes = 0 }; reader = record { held = s.held; at = s.at; standing = t } }

abbrev pub refuses : PartReader → refusal.Refusal → PartStep
refuses s f = stops s (Broken f) (Refused f)

-- the run is handed out, and the next one starts behind it
abbrev pub hands : PartReader → ℕ → run.Run → PartStep
hands s taken r = record {
  answer = Run s.at r;
  taken = record { bytes = taken };
  reader = record { held = 0; at = record { bytes = (s.at.bytes + r.consumed.bytes) % two64 }; standing = Opened };
}

-- a refusal of the bytes from a run's first on, with its bytes counted from the first part
unfoldable pub field_from : ℕ → ℕ → CutField → refusal.Refusal
field_from at n None = refusing n at
field_from at n (Some b) = cutting n at ((at + b.bytes) % two64)

abbrev pub from_first : ℕ → refusal.Refusal → refusal.Refusal
from_first at f = field_from at f.number f.cut

-- the run is unfinished: its header, or a field, is cut
unfoldable pub cut_short : ℕ → CutField → Bool
cut_short n None = n == 1
cut_short n (Some b) = true

-- whether the run reader says so
unfoldable pub is_cut : Answer → Bool
is_cut (Ok None) = false
is_cut (Ok (Some r)) = false
is_cut (Err f) = cut_short f.number f.cut

-- whether it reads the run
unfoldable pub is_whole : Answer → Bool
is_whole (Ok None) = false
is_whole (Ok (Some r)) = true
is_whole (Err f) = false

-- whether a call refuses
unfoldable pub is_refused : PartAnswer → Bool
is_refused (Run at r) = false
is_refused More = false
is_refused (Refused f) = true
is_refused End = false

unfoldable pub by_answer : PartReader → ℕ → ℕ → ℕ → Answer → PartStep
by_answer s held seen part (Ok None) = holds s seen part
by_answer s held seen part (Ok (Some r)) = hands s (r.consumed.bytes - held) r
by_answer s held seen part (Err f) =
    pick (cut_short f.number f.cut) (holds s seen part) (refuses s (from_first s.at.bytes f))

-- the closing call of an open reader
unfoldable pub by_last : PartReader → Answer → PartStep
by_last s (Ok None) = stops s Closed End
by_last s (Ok (Some r)) = hands s 0 r
by_last s (Err f) = refuses s (from_first s.at.bytes f)
