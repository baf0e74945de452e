-- All turns: that what is taken is what the whole input's lines give. Assumes nothing.
use mathlib.Core.Path.{◌≡◌, refl, sym, ap, ◌∙◌}
use Prim.Native.Nat.{ℕ}
use native.Mathlib.Omega.{arith}
use mathlib.Core.Bool.{Bool, true, false}
use mathlib.Core.List.{List, [], ◌∷◌, ◌++◌, map-append, append-nil}
use lib.ListN.{length, take, length-append}
use Rattle.format.proofs.Tests.{never}
use Rattle.blocks.specs.Blocks.{lines_from, begun_from, last_line, lines_in, kept, part, Carried, block_lines, joined_blocks}
use Rattle.blocks.proofs.Lines.{lines-append, lines-open}
use Rattle.blocks.proofs.Turns.{cut-is, left_is}
use Rattle.blocks.proofs.Joined.{blocks-joined}
use Rattle.blocks.proofs.Brought.{unread-only}
use Rattle.tally.specs.declared.totals.Totals.{Totals}
use Rattle.tally.specs.Totals.{Line, empty, take_lines}
use Rattle.tally.specs.Held.{Taken, held, stopped, take_all, held_outcome}
use Rattle.tally.proofs.Taking.{code_holds}
use Rattle.totals.specs.Program.{answer_to, answers_to, written_for, taken_text, program_text, Takes, over, at-end, in_block, of-input, whatever-comes, FinalSays, NoneUnread}
use Rattle.totals.specs.Program.Takes.{ends, stops, turns}
use Rattle.totals.proofs.Answers.{long-alike, all-i64}
use Rattle.totals.proofs.Onward.{all-going, all-stopped}

-- a turn's whole lines are those of what was kept and of its block
lines_are : (line input : List ℕ) (from end : ℕ) → Carried line input from end
    → lines_from [] (kept line ++ part (length (kept line)) end input) ≡ lines_from [] (take from (take end input))
lines_are line input from end c =
    let p = take from (take end input) in
    let q = part from end input in
    ap (λ (s : List ℕ). lines_from [] s) (cut-is line input from end c)
    ∙ lines-append [] p q ∙ rw (c.whole, lines-open [] q c.begun) (append-nil (lines_from [] p))

takes-lines : (line : List ℕ) (blocks : List (List ℕ)) (t : Totals) (r : Taken) → Takes line blocks t r → r ≡ take_all t (answers_to (block_lines (kept line) blocks))
unfolding block_lines
takes-lines line _ t _ ends = refl
takes-lines line _ t _ (stops {block = block} {blocks = blocks} {t' = t'} e) =
    let ls = lines_from [] (kept line ++ block) in
    let more = block_lines (kept (begun_from [] (kept line ++ block))) blocks in
    sym (rw (map-append answer_to ls more) (all-stopped t t' (answers_to ls) e (answers_to more)))
takes-lines line _ t r (turns {input = input} {from = from} {end = end} {blocks = blocks} {t' = t'} g h) =
    let ls = lines_from [] (take from (take end input)) in
    let more = block_lines (kept (part from end input)) blocks in
    rw (lines_are line input from end g.carried, left_is line input from end g.carried, map-append answer_to ls more)
    (takes-lines (part from end input) blocks t' r h ∙ sym (all-going t t' (answers_to ls) g.taken (answers_to more)))

-- the code's totals of all lines of an input are the definition's
pub lines-taken : (lines : List (List ℕ)) → take_all (held empty) (answers_to lines) ≡ held_outcome (take_lines empty (answers_to lines))
lines-taken lines = code_holds.lines (answers_to lines) (all-i64 lines)

-- ALL THAT IS TAKEN, by turns that each meet their contract, is what the program's definition takes of the whole input, and so is the text
pub turns-take : (blocks : List (List ℕ)) (r : Taken) → Takes [] blocks (held empty) r → r ≡ held_outcome (take_lines empty (answers_to (lines_in (joined_blocks blocks))))
turns-take blocks r h =
    takes-lines [] blocks (held empty) r h
    ∙ ap (λ (ls : List Line). take_all (held empty) ls) (blocks-joined Line answer_to long-alike blocks)
    ∙ lines-taken (lines_in (joined_blocks blocks))

pub turns-say : (blocks : List (List ℕ)) (r : Taken) → Takes [] blocks (held empty) r → taken_text r ≡ program_text (joined_blocks blocks)
unfolding program_text
turns-say blocks r h = ap taken_text (turns-take blocks r h)

-- ---- what is told

over-text : (t : Totals) (halted : Bool) → taken_text (over t halted) ≡ written_for t halted
over-text t true = refl
over-text t false = refl

pub final-says : FinalSays
final-says reads t halted (at-end blocks b h) = of-input blocks b (sym (over-text t halted) ∙ turns-say blocks (over t halted) h)
final-says reads t halted (in_block blocks e b h) = whatever-comes blocks b (λ later. rw e (turns-say (blocks ++ later) (stopped t) (h later)))

-- no totals are stopped where there is no line
none-stopped : (t : Totals) → Takes [] [] (held empty) (stopped t) → ⊥
unfolding block_lines last_line take_all
none-stopped t h = never (cc (takes-lines [] [] (held empty) (stopped t) h))

pub none-unread : NoneUnread
none-unread t halted (at-end blocks b h) = absurd (omega (arith, b.brought.each, length-append blocks ([] ∷ [])))
none-unread t halted (in_block blocks e b h) = none-stopped t (rw (unread-only blocks b) at (h []))
