-- What is handed over, piece by piece, is what comes next of the program's text for what was read. Assumes nothing.
use Rattle.std.proofs.Common.{◌≡◌, ℕ, zero, suc, ◌<◌, false, List, [], ◌∷◌, ◌++◌, length, take, drop, ℤ, pos, negsuc, sym, refl, ap, ◌∙◌, append_assoc, append-nil, arith, length-append, take-append-drop, take_at}
use Rattle.blocks.specs.Blocks.{lines_from, begun_from, last_line, lines_in, NoNewline, kept, part, came, joined_blocks, block_lines}
use Rattle.blocks.specs.Reading.{no_reads, ReadOnce, Brought, BroughtAll}
use Rattle.blocks.specs.declared.reading.Reads.{Reads}
use Rattle.blocks.specs.declared.reading.Read.{Read}
use Rattle.blocks.proofs.Begun.{begun-append, no-take}
use Rattle.blocks.proofs.Turns.{block-long, input-whole, only-held}
use Rattle.blocks.proofs.Brought.{none-brought, unread-only, brought-on}
use Rattle.runs.specs.Program.{answers_to, answers_from, last_answer, program_text, block_text, nothing_said, SaidOn, SaidAs, Due, in_block, at-end, SaidAll, Reached, Pending, Last, ReadGave, Begins, Pieces, FinalSays, NoneUnread}
use Rattle.runs.specs.Program.Pieces.{nothing, piece}
use Rattle.runs.specs.declared.saying.Said.{Said}
use Rattle.runs.proofs.Blocks.{answers-append, no-open, block-turn, program-blocks}

-- one text more
said-on : (said said' : Said) (before text : List ℕ) → SaidAs said before → SaidOn said text said' → said'.cut ≡ false → SaidAs said' (before ++ text)
said-on said said' before text a o e = record { taken = e; bytes = omega (arith, a.bytes, o, length-append before text) }

-- before the first read
pub reached-first : (reads : Reads) (said : Said) → reads ≡ no_reads → said ≡ nothing_said → Reached reads said []
reached-first reads said e h = record {
  blocks = [];
  before = [];
  brought = none-brought reads e;
  handed = record { taken = ap (λ (s : Said). s.cut) h; bytes = ap (λ (s : Said). s.bytes) h };
  text = λ later. sym (program-blocks later);
}

-- a read, that a line's beginning was left for
module _ (reads : Reads) (said : Said) (line input : List ℕ) (read : Read) (once : ReadOnce reads line input read) (g : Reached reads said line)
    (few : reads.count < 18446744073709551615) where
  abbrev block : List ℕ
  block = part read.held read.stop input

  abbrev all : List ℕ
  all = take read.stop input

  more : (b : List ℕ) → length b ≡ came read.got → Brought read.reads (g.blocks ++ (b ∷ []))
  more b l = brought-on reads g.blocks line input read b g.brought once (omega (arith, g.brought.each, few)) l

  pub read-pending : Pending read.reads said all
  read-pending = record {
    blocks = g.blocks ++ (block ∷ []);
    before = g.before;
    brought = more block (block-long line input read.held read.stop read.got once.came);
    handed = g.handed;
    text = λ later.
        ap (λ (bs : List (List ℕ)). program_text (joined_blocks bs)) (append_assoc g.blocks (block ∷ []) later)
        ∙ g.text (block ∷ later)
        ∙ ap (λ (t : List ℕ). g.before ++ t) (block-turn (kept line) block later)
        ∙ ap (λ (s : List ℕ). g.before ++ (answers_from [] s ++ block_text (kept (begun_from [] s)) later))
        (input-whole line input read.held read.stop read.got once.came);
  }

  only : came read.got ≡ 0 → kept line ≡ all
  only z = (only-held line input read.held read.stop read.got once.came z).1

  pub read-open : NoNewline line → came read.got ≡ 0 → NoNewline all
  read-open o z = rw (only z) at (no-take 8801 line o)

  pub read-last : read.got ≡ pos 0 → Last read.reads said all
  unfolding block_lines
  read-last z =
      let n : came read.got ≡ 0 = rw z refl in
      record {
        blocks = g.blocks;
        before = g.before;
        brought = record { end = ap (λ (x : Reads). x.got) once.reads ∙ z; brought = more [] (sym n) };
        handed = g.handed;
        text = rw (append-nil g.blocks, only n) at (g.text []);
      }

  pub read-given : NoNewline line → (got : ℤ) → read.got ≡ got → ReadGave read.reads said all got
  read-given o (pos zero) e = (read-open o (rw e refl), read-last e)
  read-given o (pos (suc k)) e = read-pending
  read-given o (negsuc k) e = tt

-- whole lines of what is pending, and what is behind them
module _ (reads : Reads) (said : Said) (p q : List ℕ) (w : begun_from [] p ≡ []) (g : Pending reads said (p ++ q)) where
  abbrev rest : List (List ℕ) → List ℕ
  rest later = answers_from [] q ++ block_text (kept (begun_from [] q)) later

  text-is : (later : List (List ℕ)) → program_text (joined_blocks (g.blocks ++ later)) ≡ (g.before ++ answers_from [] p) ++ rest later
  text-is later =
      let a : answers_from [] (p ++ q) ≡ answers_from [] p ++ answers_from [] q = answers-append [] p q ∙ rw w in
      let b : begun_from [] (p ++ q) ≡ begun_from [] q = begun-append [] p q ∙ rw w in
      g.text later ∙ rw (a, b, append_assoc (answers_from [] p) (answers_from [] q) (block_text (kept (begun_from [] q)) later))
      (sym (append_assoc g.before (answers_from [] p) (rest later)))

  piece-due : (text : List ℕ) → text ≡ answers_from [] p → Due reads said text
  piece-due text e = in_block g.blocks g.before g.brought g.handed (λ later. (rest later, rw e (text-is later)))

  pending-on : (said' : Said) (text : List ℕ) → text ≡ answers_from [] p → SaidOn said text said' → said'.cut ≡ false → Pending reads said' q
  pending-on said' text e o f = record {
    blocks = g.blocks;
    before = g.before ++ answers_from [] p;
    brought = g.brought;
    handed = said-on said said' g.before (answers_from [] p) g.handed (rw e at o) f;
    text = text-is;
  }

module _ (reads : Reads) (said : Said) (s : List ℕ) (n : ℕ) (w : begun_from [] (take n s) ≡ []) (g : Pending reads said s) where
  split : Pending reads said (take n s ++ drop n s)
  split = rw (take-append-drop n s) g

  pub lines-due : (text : List ℕ) → text ≡ answers_from [] (take n s) → Due reads said text
  lines-due text e = piece-due reads said (take n s) (drop n s) w split text e

  pub lines-on : (said' : Said) (text : List ℕ) → text ≡ answers_from [] (take n s) → SaidOn said text said' → said'.cut ≡ false → Pending reads said' (drop n s)
  lines-on said' text e o f = pending-on reads said (take n s) (drop n s) w split said' text e o f

-- what is pending is the beginning of a line
pub pending-open : (reads : Reads) (said : Said) (line : List ℕ) → NoNewline line → Pending reads said line → Reached reads said line
pending-open reads said line o g = record {
  blocks = g.blocks;
  before = g.before;
  brought = g.brought;
  handed = g.handed;
  text = λ later. rw ((no-open [] line o).0, (no-open [] line o).1) at (g.text later);
}

-- the last line
module _ (reads : Reads) (said : Said) (line : List ℕ) (g : Last reads said line) where
  pub last-due : (text : List ℕ) → text ≡ last_answer line → Due reads said text
  last-due text e = at-end g.blocks g.before g.brought g.handed (rw e g.text)

  pub last-said : (said' : Said) (text : List ℕ) → text ≡ last_answer line → SaidOn said text said' → said'.cut ≡ false → SaidAll reads said'
  last-said said' text e o f = record {
    blocks = g.blocks;
    brought = g.brought;
    all = rw g.text (said-on said said' g.before (last_answer line) g.handed (rw e at o) f);
  }

  pub none_last : last_answer line ≡ [] → SaidAll reads said
  none_last e = record { blocks = g.blocks; brought = g.brought; all = rw (g.text, e, append-nil g.before) g.handed }

-- ---- all pieces

begun-alike : (before said all : List ℕ) (rest more : List ℕ) → all ≡ before ++ rest → all ≡ said ++ more → length before ≡ length said → before ≡ said
begun-alike before said all rest more e h l =
    sym (take_at before rest (length before) refl) ∙ ap (λ (t : List ℕ). take (length before) t) (sym e ∙ h) ∙ take_at said more (length before) (sym l)

-- THE PIECES of one input, each due after those before it, are its text in order
pub final-says : (all said : List ℕ) → Pieces all said → FinalSays all said
final-says all said p = record { begins = begins said p; whole = whole (begins said p) }
  where
    begins : (said : List ℕ) → Pieces all said → Begins said all
    begins _ nothing = (all, refl)
    begins _ (piece before said text p l b) =
        let (rest, e) = b in
        let (more, h) = begins said p in
        let q : before ≡ said = begun-alike before said all (text ++ rest) more (e ∙ append_assoc before text rest) h l in
        (rest, rw (← q) e)

    whole : Begins said all → length said ≡ length all → said ≡ all
    whole (rest, e) l = begun-alike said all all rest [] e (sym (append-nil all)) l

-- ---- without a read

begins-none : (before text rest : List ℕ) → [] ≡ (before ++ text) ++ rest → text ≡ []
begins-none before [] rest e = refl
begins-none before (c ∷ text) rest e = absurd (omega (arith, ap length e, length-append (before ++ (c ∷ text)) rest, length-append before (c ∷ text)))

none-text : program_text (joined_blocks []) ≡ []
unfolding program_text joined_blocks answers_to lines_in lines_from begun_from last_line
none-text = refl

no_end : (blocks : List (List ℕ)) → BroughtAll no_reads blocks → ⊥
no_end blocks b = absurd (omega (arith, b.brought.each, length-append blocks ([] ∷ [])))

pub none-unread : NoneUnread
none-unread = record { nothing = unread; no_end = λ said s. no_end s.blocks s.brought }
  where
    unread : (said : Said) (text : List ℕ) → Due no_reads said text → text ≡ []
    unread said text (in_block blocks before b a h) =
        let (rest, e) = h [] in
        begins-none before text rest (sym none-text ∙ rw (unread-only blocks b) at e)
    unread said text (at-end blocks before b a h) = absurd (no_end blocks b)
