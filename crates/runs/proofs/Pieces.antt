-- What the program hands over to be written, piece by piece: the text of whole lines, and of the last line.
-- Assumes nothing.
use Rattle.std.proofs.Common.{◌≡◌, ℕ, ◌+◌, ◌≤◌, List, [], ◌++◌, length, take, drop, sym, ap, ◌∙◌, append-nil, take_at, take-add, le-ltb, eq-eqb, ne_eqb}
use Rattle.lines.specs.Line.{answer_line, answer_room, Answered}
use Rattle.blocks.specs.Blocks.{lines_from, begun_from, last_line, lines_in, NoNewline}
use Rattle.runs.specs.Program.{answered, answers_to, answers_from, last_answer, program_text}
use Rattle.blocks.proofs.Begun.{begun-open, whole-more}
use Rattle.blocks.proofs.Lines.{lines-open}
use Rattle.runs.proofs.Blocks.{answers-append}

-- ---- whole lines

pub whole-text : (s : List ℕ) → begun_from [] s ≡ [] → program_text s ≡ answers_from [] s
unfolding program_text lines_in last_line
whole-text s h = rw (h, append-nil (lines_from [] s))

-- the pieces that are handed over in a turn, joined, are the text of all its whole lines
pub pieces-join : (n m : ℕ) (s : List ℕ) → begun_from [] (take n s) ≡ [] → begun_from [] (take m (drop n s)) ≡ []
    → program_text (take n s) ++ program_text (take m (drop n s)) ≡ program_text (take (n + m) s)
pieces-join n m s h k =
    let p = take n s in
    let q = take m (drop n s) in
    rw (whole-text p h, whole-text q k, whole-text (take (n + m) s) (whole-more n m s h k), take-add n m s, answers-append [] p q, h)

-- ---- a line that no newline ends

pub open-text : (line : List ℕ) → NoNewline line → program_text line ≡ last_answer line
unfolding program_text lines_in
open-text line h = rw (lines-open [] line h, begun-open [] line h)

pub no_answer : (line : List ℕ) → length line ≡ 0 → last_answer line ≡ []
unfolding last_line answers_to
no_answer line h = rw (eq-eqb (length line) 0 h)

module _ (line out out' : List ℕ) (r : ℕ) (a : Answered line out out' r) (room : answer_room ≤ length out) where
  answer-is : answer_line (length out) line ≡ answered line
  unfolding answer_line
  answer-is = rw (le-ltb (length out) 11310 room)

  pub last-text : NoNewline line → (length line ≡ 0 → ⊥) → take r out' ≡ program_text line
  unfolding last_line answers_to
  last-text h n =
      let e : out' ≡ answered line ++ drop (length (answered line)) out = rw answer-is at a.places in
      let k : r ≡ length (answered line) = rw answer-is at a.count in
      ap (λ (l : List ℕ). take r l) e ∙ take_at (answered line) (drop (length (answered line)) out) r (sym k) ∙ sym (open-text line h ∙ rw (ne_eqb (length line) 0 n) (append-nil (answered line)))
