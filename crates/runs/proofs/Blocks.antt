-- An input in blocks, cut anywhere, is answered as the whole input is, though no more is held than 8,801 characters of a line.
-- Assumes nothing.
use Rattle.std.proofs.Common.{◌≡◌, ℕ, ◌%◌, ◌<◌, Bool, true, false, not, ◌||◌, eqb, ltb, List, [], ◌∷◌, ◌++◌, map, length, get_or, sym, refl, ap, ◌∙◌, append_assoc, arith, lt-ltb, ne_eqb}
use Rattle.format.specs.Fields.{pick}
use Rattle.text.specs.Ascii.{ascii}
use Rattle.text.specs.Hexadecimal.{all_hex, hex_bytes}
use Rattle.lines.specs.Line.{bad_line, frame_of, frame_text, answer_text}
use Rattle.blocks.specs.Blocks.{lines_from, begun_from, lines_in, NoNewline, kept, block_lines, joined_blocks}
use Rattle.blocks.proofs.Begun.{begun-open}
use Rattle.blocks.proofs.Lines.{lines-append, lines-open}
use Rattle.blocks.proofs.Joined.{blocks-joined}
use Rattle.runs.specs.Program.{answered, answers_to, answers_from, program_text, block_text}

-- ---- lines, and lines after them

pub answers-join : (xs ys : List (List ℕ)) → answers_to (xs ++ ys) ≡ answers_to xs ++ answers_to ys
unfolding answers_to
answers-join [] ys = refl
answers-join (x ∷ xs) ys = rw (answers-join xs ys) (sym (append_assoc (answered x) (answers_to xs) (answers_to ys)))

pub answers-append : (line a b : List ℕ) → answers_from line (a ++ b) ≡ answers_from line a ++ answers_from (begun_from line a) b
answers-append line a b = ap answers_to (lines-append line a b) ∙ answers-join (lines_from line a) (lines_from (begun_from line a) b)

-- where no newline stands no line ends
pub no-open : (line s : List ℕ) → NoNewline s → (answers_from line s ≡ []) × (begun_from line s ≡ line ++ s)
unfolding answers_to
no-open line s h = (ap answers_to (lines-open line s h), begun-open line s h)

-- a block, and those after it
pub block-turn : (held b : List ℕ) (bs : List (List ℕ)) → block_text held (b ∷ bs) ≡ answers_from [] (held ++ b) ++ block_text (kept (begun_from [] (held ++ b))) bs
unfolding block_lines
block-turn held b bs = answers-join (lines_from [] (held ++ b)) (block_lines (kept (begun_from [] (held ++ b))) bs)

-- ---- a line that is too long is bad, whatever follows in it

long-bad : (line : List ℕ) → 8800 < length line → answer_text line ≡ ascii "bad line"
unfolding answer_text frame_of frame_text bad_line
long-bad line h = rw (ne_eqb (length line) 0 (omega arith), lt-ltb 8800 (length line) h) (by (eqb (length line % 2) 1) (not (all_hex line)) (ltb 1 (get_or (hex_bytes line) 0 0)))
  where
    by : (t u v : Bool) → frame_text (pick ((((false || t) || true) || u) || v) [] (hex_bytes line)) ≡ ascii "bad line"
    by true u v = refl
    by false u v = refl

long-alike : (x y : List ℕ) → 8800 < length x → 8800 < length y → answered x ≡ answered y
long-alike x y h k = ap (λ (t : List ℕ). t ++ ascii "\n") (long-bad x h ∙ sym (long-bad y k))

-- ---- the blocks, one after the other

answers-map : (xs : List (List ℕ)) → answers_to xs ≡ joined_blocks (map answered xs)
unfolding answers_to joined_blocks
answers-map [] = refl
answers-map (x ∷ xs) = ap (λ (t : List ℕ). answered x ++ t) (answers-map xs)

pub program-blocks : (bs : List (List ℕ)) → block_text [] bs ≡ program_text (joined_blocks bs)
unfolding program_text
program-blocks bs =
    answers-map (block_lines [] bs) ∙ ap joined_blocks (blocks-joined (List ℕ) answered long-alike bs) ∙ sym (answers-map (lines_in (joined_blocks bs)))
