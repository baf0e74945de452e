-- The answers, case by case (FORMAT.md, "Answers"): the number and values of each (number, place, cut field, width, rows, bytes, the packed
-- number), and the case that stands for each thing that a call can answer.
-- Assumes nothing.
use Rattle.std.specs.Prelude.{ℕ, ◌+◌, ◌-◌, ◌*◌, Some, None, Ok, Err}
use Rattle.std.specs.declared.option.Option.{Option}
use Rattle.std.specs.declared.result.Result.{Result}
use Rattle.format.specs.declared.Kind.{Kind}
use Rattle.format.specs.declared.Kind.TheVariants.{ShortRepeat, Direct, PatchedBase, Delta, Booleans, ByteValues}
use Rattle.format.specs.declared.Run as run
use Rattle.format.specs.declared.Refusal.{Refusal}
use Rattle.format.specs.declared.Counts.{Counts}
use Rattle.format.specs.declared.Stopped.{Stopped}
use Rattle.format.specs.declared.ByteOffset.{ByteOffset}
use Rattle.format.specs.Parse.{Reason, plain, cut}

-- A call answers with a run, with none at the end of the input, or with a refusal.
abbrev pub Answer : Type 0
Answer = Result (Option run.Run) Refusal

-- The byte where the field begins that the input ends in, if it ends in one; the last of several runs, if there are any.
abbrev pub CutField : Type 0
CutField = Option ByteOffset

abbrev pub LastRun : Type 0
LastRun = Option run.Run

-- The stream reader answers with the counts of the stream, or with its first refusal and the counts of the runs before it.
abbrev pub Stream : Type 0
Stream = Result Counts Stopped

-- the two bits of a run's header; booleans and byte values are kinds of their own, with no header
abbrev pub kind_number : Kind → ℕ
kind_number ShortRepeat = 0
kind_number Direct = 1
kind_number PatchedBase = 2
kind_number Delta = 3
kind_number Booleans = 4
kind_number ByteValues = 5

-- ---- an answer carries either the run: its kind, value width in bits, and counts (rows, and bytes consumed or written) ..
abbrev pub running : Kind → ℕ → ℕ → ℕ → run.Run
running kind width rows bytes = record { kind = kind; width = width; rows = record { rows = rows }; consumed = record { bytes = bytes } }

abbrev pub ran : Kind → ℕ → ℕ → ℕ → Answer
ran kind width rows bytes = Ok (Some (running kind width rows bytes))

-- .. or a refusal with its number and the byte where the refused run begins ..
abbrev pub refusing : ℕ → ℕ → Refusal
refusing number place = record { number = number; place = record { bytes = place }; cut = None }

abbrev pub refused_at : ℕ → ℕ → Answer
refused_at number place = Err (refusing number place)

-- .. and, if the input ends in a field, the byte where the field begins
abbrev pub cutting : ℕ → ℕ → ℕ → Refusal
cutting number place byte = record { number = number; place = record { bytes = place }; cut = Some (record { bytes = byte }) }

abbrev pub cut_at : ℕ → ℕ → ℕ → Answer
cut_at number place byte = Err (cutting number place byte)

-- Why reading refused, as a refusal at a place. There are `total` bytes from the place on, `left` of them from the cut field's first on.
abbrev pub refusal : ℕ → ℕ → Reason → Refusal
refusal place total (plain number) = refusing number place
refusal place total (cut number left) = cutting number place (place + (total - left))

-- the refusal's number; 0 if nothing is refused
abbrev pub answer_number : Answer → ℕ
answer_number (Ok None) = 0
answer_number (Ok (Some r)) = 0
answer_number (Err f) = f.number

abbrev pub answer_place : Answer → ℕ
answer_place (Ok None) = 0
answer_place (Ok (Some r)) = 0
answer_place (Err f) = f.place.bytes

-- the cut field; none if nothing is refused
abbrev pub answer_cut : Answer → CutField
answer_cut (Ok None) = None
answer_cut (Ok (Some r)) = None
answer_cut (Err f) = f.cut

-- the width; 0 if there is no run
abbrev pub answer_width : Answer → ℕ
answer_width (Ok None) = 0
answer_width (Ok (Some r)) = r.width
answer_width (Err f) = 0

-- a refused call yields 0 rows and consumes 0 bytes
abbrev pub answer_rows : Answer → ℕ
answer_rows (Ok None) = 0
answer_rows (Ok (Some r)) = r.rows.rows
answer_rows (Err f) = 0

abbrev pub answer_bytes : Answer → ℕ
answer_bytes (Ok None) = 0
answer_bytes (Ok (Some r)) = r.consumed.bytes
answer_bytes (Err f) = 0

-- an answer as one number: 0 for end, 1 to 14 for a refusal, else 65,536·consumed + rows
abbrev pub answer_packed : Answer → ℕ
answer_packed (Ok None) = 0
answer_packed (Ok (Some r)) = 65536 * r.consumed.bytes + r.rows.rows
answer_packed (Err f) = f.number

-- ---- the stream reader: the counts of several runs, and the last of them ..
abbrev pub counting : ℕ → ℕ → LastRun → Counts
counting rows bytes last = record { rows = record { rows = rows }; consumed = record { bytes = bytes }; last = last }

-- .. of the whole stream ..
abbrev pub read_whole : ℕ → ℕ → LastRun → Stream
read_whole rows bytes last = Ok (counting rows bytes last)

-- .. or, with the first refusal, of the runs before it
abbrev pub broke_at : Refusal → ℕ → ℕ → LastRun → Stream
broke_at refusal rows bytes last = Err (record { by = refusal; before = counting rows bytes last })

-- what both say: the refusal's number, its place and its cut field (none if the stream is whole), the counts of the runs that were read,
-- and the last of them
abbrev pub stream_number : Stream → ℕ
stream_number (Ok n) = 0
stream_number (Err s) = s.by.number

abbrev pub stream_place : Stream → ℕ
stream_place (Ok n) = 0
stream_place (Err s) = s.by.place.bytes

abbrev pub stream_cut : Stream → CutField
stream_cut (Ok n) = None
stream_cut (Err s) = s.by.cut

abbrev pub stream_rows : Stream → ℕ
stream_rows (Ok n) = n.rows.rows
stream_rows (Err s) = s.before.rows.rows

abbrev pub stream_bytes : Stream → ℕ
stream_bytes (Ok n) = n.consumed.bytes
stream_bytes (Err s) = s.before.consumed.bytes

abbrev pub stream_last : Stream → LastRun
stream_last (Ok n) = n.last
stream_last (Err s) = s.before.last
