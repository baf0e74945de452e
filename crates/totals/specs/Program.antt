-- THE PROGRAM totals (FORMAT.md, "The programs"): what it writes for its input, and the same for an input that comes in blocks.
-- Assumes nothing.
use Rattle.std.specs.Prelude.{◌≡◌, ℕ, zero, suc, ◌≤◌, Bool, true, false, List, [], ◌∷◌, ◌++◌, map, length, take, drop, ℤ, pos, negsuc, Ok, Err}
use Rattle.format.specs.Fields.{pick}
use Rattle.text.specs.Ascii.{ascii}
use Rattle.lines.specs.Line.{frame_of}
use Rattle.blocks.specs.Blocks.{lines_from, begun_from, last_line, lines_in, NoNewline, kept, part, not_ready, Carried, joined_blocks}
use Rattle.blocks.specs.Reading.{no_reads, is_broken, ReadOnce, Brought, BroughtAll}
use Rattle.blocks.specs.declared.reading.Reads.{Reads}
use Rattle.blocks.specs.declared.reading.Read.{Read}
use Rattle.tally.specs.Totals.{Line, answered, empty, take_lines}
use Rattle.tally.specs.Held.{Taken, held, going, stopped, take_all, held_outcome}
use Rattle.tally.specs.declared.totals.Totals.{Totals}
use Rattle.tally.specs.Text.{totals_text}
use Rattle.totals.specs.declared.taking.Next.{Next}
use Rattle.totals.specs.declared.taking.Next.TheVariants.{Begun, Ended, Stopped, Failed}

-- a line's answer, as the program `runs` reads it: its bytes are none where it is bad
abbrev pub answer_to : List ℕ → Line
answer_to line = answered (frame_of line)

abbrev pub answers_to : List (List ℕ) → List Line
answers_to lines = map answer_to lines

-- the totals' lines, and `refused 20` last where reading stopped
unfoldable pub written_for : Totals → Bool → List ℕ
written_for t false = totals_text t
written_for t true = totals_text t ++ ascii "refused 20\n"

abbrev pub taken_text : Taken → List ℕ
taken_text (Ok t) = written_for t false
taken_text (Err s) = written_for s.totals true

-- WHAT THE PROGRAM WRITES for its input: the totals of its lines, all of them or those before the one that would pass a limit
unfoldable pub program_text : List ℕ → List ℕ
program_text s = taken_text (held_outcome (take_lines empty (answers_to (lines_in s))))

-- ---- for the functions of the program

-- WHAT COMES OF A READ, by what the system answered: `held` bytes of the input stood there before, and what came after them.

-- Something came. Its whole lines are taken, and the beginning of a line is left; or one of them would pass a limit. It is no end.
pub record Rest (before : Totals) (input : List ℕ) (t : Totals) (from end : ℕ) : Type 0 where
  pub ends : end ≡ length input
  pub order : from ≤ end
  pub whole : begun_from [] (take from input) ≡ []
  pub begun : NoNewline (drop from input)
  pub taken : take_all before (answers_to (lines_from [] (take from input))) ≡ going t

abbrev pub AfterBlock : Totals → List ℕ → Totals → Next → Type 0
AfterBlock before input t (Begun from end) = Rest before input t from end
AfterBlock before input t Ended = ⊥
AfterBlock before input t Stopped = take_all before (answers_to (lines_from [] input)) ≡ stopped t
AfterBlock before input t Failed = ⊥

-- The input has ended. The line that was held is taken, or would pass a limit.
abbrev pub AfterEnd : Totals → List ℕ → Totals → Next → Type 0
AfterEnd before line t (Begun from end) = ⊥
AfterEnd before line t Ended = take_all before (answers_to (last_line line)) ≡ going t
AfterEnd before line t Stopped = take_all before (answers_to (last_line line)) ≡ stopped t
AfterEnd before line t Failed = ⊥

-- The read failed. If it is tried again, all that was held is held on, and nothing is taken; else reading has failed.
pub record AfterFailure (before : Totals) (held : ℕ) (again : Bool) (t : Totals) (next : Next) : Type 0 where
  pub nothing : t ≡ before
  pub goes_on : next ≡ pick again (Begun 0 held) Failed

abbrev pub After : Totals → List ℕ → ℕ → ℤ → ℤ → Totals → Next → Type 0
After before input held (pos zero) error t next = AfterEnd before input t next
After before input held (pos (suc k)) error t next = AfterBlock before input t next
After before input held (negsuc k) error t next = AfterFailure before held (not_ready error) t next

-- AFTER A TURN that a line's beginning was left for: there is one read more, and what came of it is by what the system answered
pub record Turned (before : Totals) (reads : Reads) (line input : List ℕ) (t : Totals) (next : Next) (reads' : Reads) : Type 0 where
  pub read : Read
  pub once : ReadOnce reads line input read
  pub is : reads' ≡ read.reads
  pub after : After before (take read.stop input) read.held read.got read.error t next

-- ---- an input that comes in blocks

-- a turn after which the beginning of a line is left
pub record Going (before : Totals) (line input : List ℕ) (t : Totals) (from end : ℕ) : Type 0 where
  pub carried : Carried line input from end
  pub taken : take_all before (answers_to (lines_from [] (take from (take end input)))) ≡ going t

-- WHAT IS TAKEN from a line's beginning on, turn by turn: each turn's whole lines, and where the input ends the last line; where a turn stops, what comes
-- after its block is not read
pub data Takes : List ℕ → List (List ℕ) → Totals → Taken → Type 0 where
  ends : {line : List ℕ} {t : Totals} → Takes line [] t (take_all t (answers_to (last_line (kept line))))
  stops : {line block : List ℕ} {blocks : List (List ℕ)} {t t' : Totals} → take_all t (answers_to (lines_from [] (kept line ++ block))) ≡ stopped t'
      → Takes line (block ∷ blocks) t (stopped t')
  turns : {line input : List ℕ} {from end : ℕ} {blocks : List (List ℕ)} {t t' : Totals} {r : Taken} → Going t line input t' from end
      → Takes (part from end input) blocks t' r
      → Takes line (part (length (kept line)) end input ∷ blocks) t r

-- WHERE A TURN STANDS, after some reads: whatever is taken from its line on is what is taken of the blocks that they brought and of what comes
pub record Reached (reads : Reads) (t : Totals) (line : List ℕ) : Type 0 where
  pub blocks : List (List ℕ)
  pub brought : Brought reads blocks
  pub takes : (later : List (List ℕ)) (r : Taken) → Takes line later t r → Takes [] (blocks ++ later) (held empty) r

abbrev pub over : Totals → Bool → Taken
over t false = going t
over t true = stopped t

-- THE TOTALS THAT ARE TOLD are those of the blocks that all reads brought: the last read found the end of the input; or a line of the last block
-- would pass a limit, whatever comes after it
pub data Final (reads : Reads) (t : Totals) (halted : Bool) : Type 0 where
  at-end : (blocks : List (List ℕ)) → BroughtAll reads blocks → Takes [] blocks (held empty) (over t halted) → Final reads t halted
  in_block : (blocks : List (List ℕ)) → halted ≡ true → Brought reads blocks
      → ((later : List (List ℕ)) → Takes [] (blocks ++ later) (held empty) (stopped t)) → Final reads t halted

-- what a turn may be given, and what holds where there is none more
abbrev pub Ready : List ℕ → Next → Reads → Totals → Type 0
Ready input (Begun from end) reads t = NoNewline (part from end input) × Reached reads t (part from end input)
Ready input Ended reads t = Final reads t false
Ready input Stopped reads t = Final reads t true
Ready input Failed reads t = is_broken reads.got reads.error ≡ true

-- WHERE READING ENDS: at the end of the input; at a line that would pass a limit; after a read that failed; or after 2^64 - 1 reads, which no
-- input takes
abbrev pub Over : Next → Reads → Totals → Type 0
Over (Begun from end) reads t = reads.count ≡ 18446744073709551615
Over Ended reads t = Final reads t false
Over Stopped reads t = Final reads t true
Over Failed reads t = is_broken reads.got reads.error ≡ true

-- ---- what follows

-- so all that is told is the program's text for what came by all reads: the whole input; or as much of it that nothing that comes after it
-- changes the text
pub data Told (reads : Reads) (text : List ℕ) : Type 0 where
  of-input : (blocks : List (List ℕ)) → BroughtAll reads blocks → text ≡ program_text (joined_blocks blocks) → Told reads text
  whatever-comes : (blocks : List (List ℕ)) → Brought reads blocks
      → ((later : List (List ℕ)) → text ≡ program_text (joined_blocks (blocks ++ later))) → Told reads text

abbrev pub FinalSays : Type 0
FinalSays = (reads : Reads) (t : Totals) (halted : Bool) → Final reads t halted → Told reads (written_for t halted)

-- and before the first read there is nothing to tell
abbrev pub NoneUnread : Type 0
NoneUnread = (t : Totals) (halted : Bool) → Final no_reads t halted → ⊥
