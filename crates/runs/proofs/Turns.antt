-- A turn, and all turns: what stands in the input after a read, and that all that is handed over is what the program writes for the whole input.
-- Assumes nothing.
use Rattle.std.proofs.Common.{◌≡◌, ℕ, zero, suc, ◌<◌, Bool, true, false, List, [], ◌++◌, length, take, ℤ, pos, negsuc, sym, refl, ap, ◌∙◌, append-nil, arith, length-take-le}
use Rattle.format.specs.Fields.{pick}
use Rattle.format.proofs.Tests.{never}
use Rattle.blocks.specs.Blocks.{block_lines, begun_from, NoNewline, kept, part, came, not_ready, Carried, joined_blocks}
use Rattle.blocks.specs.Reading.{is_broken, ReadOnce}
use Rattle.blocks.specs.declared.reading.Reads.{Reads}
use Rattle.blocks.specs.declared.reading.Read.{Read}
use Rattle.blocks.proofs.Begun.{no-take}
use Rattle.blocks.proofs.Turns.{carried, cut-is, left_is, only-held}
use Rattle.runs.specs.Program.{answers_from, program_text, block_text, HandsOver, Reached, Rest, AfterBlock, AfterEnd, AfterFailure, After, Turned, Ready, Over}
use Rattle.runs.specs.Program.HandsOver.{ends, turns}
use Rattle.runs.specs.declared.saying.Said.{Said}
use Rattle.runs.specs.declared.Left.{Left}
use Rattle.runs.specs.declared.Left.TheVariants.{Begun, Ended, Failed, Unwritten}
use Rattle.runs.proofs.Blocks.{answers-append, no-open, block-turn, program-blocks}
use Rattle.runs.proofs.Pieces.{whole-text, open-text}
use Rattle.runs.proofs.TextSaid.{read-pending, read-open, pending-open}

-- ---- from turn to turn

module _ (reads : Reads) (before : Said) (line input : List ℕ) (read : Read) (once : ReadOnce reads line input read) (o : NoNewline line) (g : Reached reads before line)
    (few : reads.count < 18446744073709551615) where
  abbrev all : List ℕ
  all = take read.stop input

  ready-block : (left : Left) (said : Said) → AfterBlock read.reads all left said → Ready input left read.reads said
  ready-block (Begun from end) said a =
      let e : end ≡ read.stop = a.0.ends ∙ length-take-le read.stop input once.came.within in
      rw e (a.0.begun, a.1)
  ready-block Ended said a = absurd a
  ready-block Failed said a = absurd a
  ready-block Unwritten said a = a

  ready-end : (left : Left) (said : Said) → AfterEnd read.reads left said → Ready input left read.reads said
  ready-end (Begun from end) said a = absurd a
  ready-end Ended said a = a
  ready-end Failed said a = absurd a
  ready-end Unwritten said a = a

  ready-failure : (k : ℕ) → read.got ≡ negsuc k → (again : Bool) → not_ready read.error ≡ again → (left : Left) (said : Said) → AfterFailure before read.held again left said
      → Ready input left read.reads said
  unfolding is_broken
  ready-failure k e true h left said a =
      let z : came read.got ≡ 0 = rw e refl in
      let n : NoNewline all = read-open reads before line input read once g few o z in
      let l : read.held ≡ read.stop = (only-held line input read.held read.stop read.got once.came z).0 ∙ length-take-le read.stop input once.came.within in
      rw (a.goes_on, a.nothing, l) (n, pending-open read.reads before all n (read-pending reads before line input read once g few))
  ready-failure k e false h left said a = rw (a.goes_on, once.reads, e, h)

  by_answer : (got : ℤ) → read.got ≡ got → (left : Left) (said : Said) → After read.reads before all read.held got read.error left said → Ready input left read.reads said
  by_answer (pos zero) e left said a = ready-end left said a
  by_answer (pos (suc k)) e left said a = ready-block left said a
  by_answer (negsuc k) e left said a = ready-failure k e (not_ready read.error) refl left said a

-- what is left is what a turn may be given
pub turned-ready : (reads : Reads) (before : Said) (line input : List ℕ) (left : Left) (reads' : Reads) (said : Said) → NoNewline line → Reached reads before line
    → reads.count < 18446744073709551615 → Turned reads before line input left reads' said → Ready input left reads' said
turned-ready reads before line input left reads' said o g few u =
    rw u.is (by_answer reads before line input u.read u.once o g few u.read.got refl left said (rw u.is at u.after))

-- what is left of a turn
pub turned-carried : (reads : Reads) (before : Said) (line input : List ℕ) (from end : ℕ) (reads' : Reads) (said : Said) → NoNewline line
    → Turned reads before line input (Begun from end) reads' said → Carried line input from end
unfolding begun_from
turned-carried reads before line input from end reads' said o u = by u.read.got refl u.after
  where
    rest : Rest (take u.read.stop input) from end → Carried line input from end
    rest r = carried line input u.read.held u.read.stop u.read.got u.once.came from end r.ends r.order r.whole r.begun

    held-left : came u.read.got ≡ 0 → (again : Bool) → Begun from end ≡ pick again (Begun 0 u.read.held) Failed → Rest (take u.read.stop input) from end
    held-left z true e =
        let f : from ≡ 0 = cc in
        let g : end ≡ u.read.held = cc in
        let n = only-held line input u.read.held u.read.stop u.read.got u.once.came z in
        rw (f, g) (record { ends = n.0; order = omega arith; whole = refl; begun = rw n.1 at (no-take 8801 line o) })
    held-left z false e = never (cc)

    by : (got : ℤ) → u.read.got ≡ got → After reads' before (take u.read.stop input) u.read.held got u.read.error (Begun from end) said → Carried line input from end
    by (pos zero) e a = absurd a
    by (pos (suc k)) e a = rest a.0
    by (negsuc k) e a = rest (held-left (rw e refl) (not_ready u.read.error) a.goes_on)

pub ready-over : (input : List ℕ) (left : Left) (reads : Reads) (said : Said) → reads.count ≡ 18446744073709551615 → Ready input left reads said → Over left reads said
ready-over input (Begun from end) reads said e r = e
ready-over input Ended reads said e r = r
ready-over input Failed reads said e r = r
ready-over input Unwritten reads said e r = r

-- ---- all turns

-- whole lines, and the beginning of one
cut-text : (p q : List ℕ) → begun_from [] p ≡ [] → NoNewline q → answers_from [] (p ++ q) ≡ program_text p
cut-text p q h o = answers-append [] p q ∙ rw (h, (no-open [] q o).0, append-nil (answers_from [] p)) (sym (whole-text p h))

module _ (line input : List ℕ) (from end : ℕ) (c : Carried line input from end) where
  lines_are : answers_from [] (kept line ++ part (length (kept line)) end input) ≡ program_text (take from (take end input))
  lines_are = ap (λ (s : List ℕ). answers_from [] s) (cut-is line input from end c) ∙ cut-text (take from (take end input)) (part from end input) c.whole c.begun

turns-text : (line text : List ℕ) (blocks : List (List ℕ)) → NoNewline line → HandsOver line blocks text → text ≡ block_text (kept line) blocks
unfolding block_lines
turns-text line _ _ o ends = open-text (kept line) (no-take 8801 line o)
turns-text line _ _ o (turns {input = input} {from = from} {end = end} {blocks = blocks} {later = later} c h) =
    rw (block-turn (kept line) (part (length (kept line)) end input) blocks, lines_are line input from end c, left_is line input from end c, ← turns-text (part from end input) later blocks c.begun h)

-- ALL THAT IS HANDED OVER, by turns that each meet their contract, is what the program writes for the whole input
pub turns-say : (text : List ℕ) (blocks : List (List ℕ)) → HandsOver [] blocks text → text ≡ program_text (joined_blocks blocks)
turns-say text blocks h = turns-text [] text blocks tt h ∙ program-blocks blocks
