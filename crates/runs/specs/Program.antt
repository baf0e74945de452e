-- THE PROGRAM (FORMAT.md, "The programs"): what it writes for its input, line by line, and the same for an input that comes in blocks.
-- Assumes nothing.
use Rattle.std.specs.Prelude.{◌≡◌, ℕ, zero, suc, ◌+◌, ◌≤◌, Bool, true, false, List, [], ◌∷◌, ◌++◌, length, take, drop, ℤ, pos, negsuc}
use Rattle.format.specs.Fields.{pick}
use Rattle.lines.specs.Line.{answer_text, ended, answer_room}
use Rattle.blocks.specs.Blocks.{lines_from, begun_from, last_line, lines_in, NoNewline, kept, part, not_ready, Carried, block_lines, joined_blocks}
use Rattle.blocks.specs.Reading.{no_reads, in_word, is_broken, ReadOnce, Brought, BroughtAll}
use Rattle.blocks.specs.declared.reading.Reads.{Reads}
use Rattle.blocks.specs.declared.reading.Read.{Read}
use Rattle.runs.specs.declared.saying.Said.{Said}
use Rattle.runs.specs.declared.Left.{Left}
use Rattle.runs.specs.declared.Left.TheVariants.{Begun, Ended, Failed, Unwritten}

-- a line's answer, with its newline
abbrev pub answered : List ℕ → List ℕ
answered line = ended (answer_text line)

-- the answers to lines, one behind the other
unfoldable pub answers_to : List (List ℕ) → List ℕ
answers_to [] = []
answers_to (line ∷ lines) = answered line ++ answers_to lines

-- WHAT THE PROGRAM WRITES for its input
unfoldable pub program_text : List ℕ → List ℕ
program_text s = answers_to (lines_in s)

-- of an input that goes on behind the beginning of a line: the answers to the lines that a newline ends, and to the last
abbrev pub answers_from : List ℕ → List ℕ → List ℕ
answers_from line s = answers_to (lines_from line s)

abbrev pub last_answer : List ℕ → List ℕ
last_answer line = answers_to (last_line line)

-- ---- for the functions of the program

-- the first bytes taken are whole lines, and their answers stand in the first bytes written; it stops where no whole line is left or no room for
-- its answer
pub record Cut (input out out' : List ℕ) (taken written : ℕ) : Type 0 where
  pub within : taken ≤ length input
  pub fits : written ≤ length out
  pub whole : begun_from [] (take taken input) ≡ []
  pub text : take written out' ≡ answers_from [] (take taken input)
  pub rest : drop written out' ≡ drop written out
  pub some : taken ≡ 0 → written ≡ 0
  pub all : written + answer_room ≤ length out → NoNewline (drop taken input)

-- ---- an input that comes in blocks

-- what is written for the blocks that come, with a line's beginning held
abbrev pub block_text : List ℕ → List (List ℕ) → List ℕ
block_text held bs = answers_to (block_lines held bs)

-- WHAT THE PROGRAM HANDS OVER to be written from a line's beginning on, turn by turn. A turn keeps that beginning as far as it is kept, its block is
-- what came behind it, and it hands over the text of the whole lines; what it leaves is the next turn's. Where the input ends, it is the text of the last line.
pub data HandsOver : List ℕ → List (List ℕ) → List ℕ → Type 0 where
  ends : {line : List ℕ} → HandsOver line [] (program_text (kept line))
  turns : {line input : List ℕ} {from end : ℕ} {blocks : List (List ℕ)} {later : List ℕ} → Carried line input from end
      → HandsOver (part from end input) blocks later
      → HandsOver line (part (length (kept line)) end input ∷ blocks) (program_text (take from (take end input)) ++ later)

-- ---- what is handed over, counted

abbrev pub nothing_said : Said
nothing_said = record { bytes = 0; cut = false }

-- one text more
abbrev pub SaidOn : Said → List ℕ → Said → Type 0
SaidOn before text said = said.bytes ≡ in_word (before.bytes + length text)

-- as much was handed over as this text has, and the system took it
pub record SaidAs (said : Said) (text : List ℕ) : Type 0 where
  pub taken : said.cut ≡ false
  pub bytes : said.bytes ≡ in_word (length text)

abbrev pub Begins : List ℕ → List ℕ → Type 0
Begins begin all = (rest : List ℕ) × (all ≡ begin ++ rest)

-- WHAT MAY BE HANDED OVER, after some reads and after what was handed over before: what comes next of the program's text for the blocks that the
-- reads brought, whatever comes after them; or, where the last read found the end of the input, the rest of its text
pub data Due (reads : Reads) (said : Said) (text : List ℕ) : Type 0 where
  in_block : (blocks : List (List ℕ)) (before : List ℕ) → Brought reads blocks → SaidAs said before
      → ((later : List (List ℕ)) → Begins (before ++ text) (program_text (joined_blocks (blocks ++ later)))) → Due reads said text
  at-end : (blocks : List (List ℕ)) (before : List ℕ) → BroughtAll reads blocks → SaidAs said before
      → program_text (joined_blocks blocks) ≡ before ++ text → Due reads said text

-- ALL IS HANDED OVER: the last read found the end of the input, and as much was handed over as the program's text for it has
pub record SaidAll (reads : Reads) (said : Said) : Type 0 where
  pub blocks : List (List ℕ)
  pub brought : BroughtAll reads blocks
  pub all : SaidAs said (program_text (joined_blocks blocks))

-- WHERE A TURN STANDS: the text for the blocks that the reads brought and for what comes is what was handed over, and what follows from a line's
-- beginning on
pub record Reached (reads : Reads) (said : Said) (line : List ℕ) : Type 0 where
  pub blocks : List (List ℕ)
  pub before : List ℕ
  pub brought : Brought reads blocks
  pub handed : SaidAs said before
  pub text : (later : List (List ℕ)) → program_text (joined_blocks (blocks ++ later)) ≡ before ++ block_text (kept line) later

-- the same after a read: what follows are the answers to the lines of the input, which has what was kept and what came, and to what comes
pub record Pending (reads : Reads) (said : Said) (input : List ℕ) : Type 0 where
  pub blocks : List (List ℕ)
  pub before : List ℕ
  pub brought : Brought reads blocks
  pub handed : SaidAs said before
  pub text : (later : List (List ℕ))
      → program_text (joined_blocks (blocks ++ later)) ≡ before ++ (answers_from [] input ++ block_text (kept (begun_from [] input)) later)

-- and after the last: what follows is the answer to the last line
pub record Last (reads : Reads) (said : Said) (line : List ℕ) : Type 0 where
  pub blocks : List (List ℕ)
  pub before : List ℕ
  pub brought : BroughtAll reads blocks
  pub handed : SaidAs said before
  pub text : program_text (joined_blocks blocks) ≡ before ++ last_answer line

-- ---- for the functions that read and write

-- what is known of the input after a read, by what the system answered
abbrev pub ReadGave : Reads → Said → List ℕ → ℤ → Type 0
ReadGave reads said input (pos zero) = NoNewline input × Last reads said input
ReadGave reads said input (pos (suc k)) = Pending reads said input
ReadGave reads said input (negsuc k) = Unit {0}

-- WHAT COMES OF A READ, by what the system answered.

-- Something came. Its whole lines are answered, and the beginning of a line is left; or the output is cut. It is no end.
pub record Rest (input : List ℕ) (from end : ℕ) : Type 0 where
  pub ends : end ≡ length input
  pub order : from ≤ end
  pub whole : begun_from [] (take from input) ≡ []
  pub begun : NoNewline (drop from input)

abbrev pub AfterBlock : Reads → List ℕ → Left → Said → Type 0
AfterBlock reads input (Begun from end) said = Rest input from end × Reached reads said (drop from input)
AfterBlock reads input Ended said = ⊥
AfterBlock reads input Failed said = ⊥
AfterBlock reads input Unwritten said = said.cut ≡ true

-- The input has ended. The line that was held is answered, or the output is cut.
abbrev pub AfterEnd : Reads → Left → Said → Type 0
AfterEnd reads (Begun from end) said = ⊥
AfterEnd reads Ended said = SaidAll reads said
AfterEnd reads Failed said = ⊥
AfterEnd reads Unwritten said = said.cut ≡ true

-- The read failed. If it is tried again, all that was held is held on, and nothing is handed over; else reading has failed.
pub record AfterFailure (before : Said) (held : ℕ) (again : Bool) (left : Left) (said : Said) : Type 0 where
  pub nothing : said ≡ before
  pub goes_on : left ≡ pick again (Begun 0 held) Failed

abbrev pub After : Reads → Said → List ℕ → ℕ → ℤ → ℤ → Left → Said → Type 0
After reads before input held (pos zero) error left said = AfterEnd reads left said
After reads before input held (pos (suc k)) error left said = AfterBlock reads input left said
After reads before input held (negsuc k) error left said = AfterFailure before held (not_ready error) left said

-- AFTER A TURN that a line's beginning was left for: there is one read more, and what came of it is by what the system answered
pub record Turned (reads : Reads) (before : Said) (line input : List ℕ) (left : Left) (reads' : Reads) (said : Said) : Type 0 where
  pub read : Read
  pub once : ReadOnce reads line input read
  pub is : reads' ≡ read.reads
  pub after : After reads' before (take read.stop input) read.held read.got read.error left said

-- what a turn may be given
abbrev pub Open : Reads → Said → List ℕ → Type 0
Open reads said line = NoNewline line × Reached reads said line

-- and what holds where there is none more
abbrev pub Ready : List ℕ → Left → Reads → Said → Type 0
Ready input (Begun from end) reads said = Open reads said (part from end input)
Ready input Ended reads said = SaidAll reads said
Ready input Failed reads said = is_broken reads.got reads.error ≡ true
Ready input Unwritten reads said = said.cut ≡ true

-- WHERE THE PROGRAM ENDS: at the end of its input, with all handed over; after a read that failed, or a text that the system did not take; or
-- after 2^64 - 1 reads, which no input takes
abbrev pub Over : Left → Reads → Said → Type 0
Over (Begun from end) reads said = reads.count ≡ 18446744073709551615
Over Ended reads said = SaidAll reads said
Over Failed reads said = is_broken reads.got reads.error ≡ true
Over Unwritten reads said = said.cut ≡ true

-- ---- what follows

-- THE PIECES THAT ARE HANDED OVER for one input, whose text is `all`: each comes next after as many bytes as were handed over before it
pub data Pieces (all : List ℕ) : List ℕ → Type 0 where
  nothing : Pieces all []
  piece : (before said text : List ℕ) → Pieces all said → length before ≡ length said → Begins (before ++ text) all
      → Pieces all (said ++ text)

-- so together they are what the text begins with, in order and with no gap; and where as many bytes were handed over as it has, all of it
pub record FinalSays (all said : List ℕ) : Type 0 where
  pub begins : Begins said all
  pub whole : length said ≡ length all → said ≡ all

-- before the first read no text may be handed over but the empty one, and the input has not ended
pub record NoneUnread : Type 0 where
  pub nothing : (said : Said) (text : List ℕ) → Due no_reads said text → text ≡ []
  pub no_end : (said : Said) → SaidAll no_reads said → ⊥
