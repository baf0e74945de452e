-- A line's answer, as `lines` reads it. Assumes nothing.
use mathlib.Core.Path.{◌≡◌, refl, sym, ap, ◌∙◌}
use Prim.Native.Nat.{ℕ, ◌<◌, ◌≤◌, ◌%◌}
use native.Mathlib.Omega.{arith}
use mathlib.Core.Bool.{Bool, true, false, ◌||◌, not}
use mathlib.Core.List.{List, [], ◌∷◌, map, map-map}
use lib.ListN.{length, take, drop, get_or, length-append}
use lib.Dec.{eqb, ltb}
use lib.IntN.{ℤ}
use borrow.Author.Tests.{lt-ltb, ne_eqb, ltb-true}
use Rattle.format.specs.Digits.{AllBelow}
use Rattle.format.specs.Fields.{pick}
use Rattle.format.specs.Answers.{Answer, answer_rows}
use Rattle.format.specs.Runs.{Description, row_count}
use Rattle.format.specs.Rows.{i64_rows}
use Rattle.format.specs.Parse.{plain, cut, Parsed, end, got, refused, parse, into}
use Rattle.format.proofs.Rows.{i64-count}
use Rattle.format.specs.Promises.{answer_of, run_places}
use Rattle.format.proofs.Tests.{both, never}
use Rattle.text.specs.Hexadecimal.{hex_value, all_hex, hex_bytes}
use Rattle.std.specs.Prelude.{Some, None}
use Rattle.lines.specs.Line.{bad_line, frame_of, frame_reading, frame_places, LineRead}
use Rattle.tally.specs.Totals.{Line, bad, answered}
use Rattle.tally.specs.Held.{Taken, line_with, reply_to, take_line}
use Rattle.tally.specs.declared.totals.Totals.{Totals}
use Rattle.tally.specs.Laws.{AllBytes, I64}
use Rattle.tally.proofs.Lines.{lines-read}
use Rattle.tally.proofs.Sizes.{all_fit}
use Rattle.totals.specs.Program.{answer_to, answers_to}

-- ---- a line's bytes are bytes

hex-below : (l : List ℕ) → all_hex l ≡ true → AllBelow 256 (hex_bytes l)
unfolding all_hex hex_bytes
hex-below [] h = tt
hex-below (c ∷ []) h = tt
hex-below (c ∷ e ∷ cs) h =
    let (a, r) = both (ltb (hex_value c) 16) (all_hex (e ∷ cs)) h in
    let (b, q) = both (ltb (hex_value e) 16) (all_hex cs) r in
    (omega (arith, ltb-true (hex_value c) 16 a, ltb-true (hex_value e) 16 b), hex-below cs q)

pub frame_below : (line : List ℕ) → AllBelow 256 (frame_of line)
unfolding frame_of bad_line
frame_below line = by (eqb (length line) 0 || eqb (length line % 2) 1 || ltb 8800 (length line)) (all_hex line) (ltb 1 (get_or (hex_bytes line) 0 0)) refl
  where
    by : (x h d : Bool) → all_hex line ≡ h → AllBelow 256 (pick ((x || not h) || d) [] (hex_bytes line))
    by true h d e = tt
    by false false d e = tt
    by false true true e = tt
    by false true false e = hex-below line e

-- a line over 8,800 characters has none
pub frame-none : (line : List ℕ) → 8800 < length line → frame_of line ≡ []
unfolding frame_of bad_line
frame-none line h = rw (ne_eqb (length line) 0 (omega arith), lt-ltb 8800 (length line) h) (by (eqb (length line % 2) 1) (not (all_hex line)) (ltb 1 (get_or (hex_bytes line) 0 0)))
  where
    by : (t u v : Bool) → pick ((((false || t) || true) || u) || v) [] (hex_bytes line) ≡ []
    by true u v = refl
    by false u v = refl

pub long-alike : (x y : List ℕ) → 8800 < length x → 8800 < length y → answer_to x ≡ answer_to y
long-alike x y h k = ap answered (frame-none x h ∙ sym (frame-none y k))

-- the rows of all lines are i64
all-bytes : (lines : List (List ℕ)) → AllBytes (map frame_of lines)
all-bytes [] = tt
all-bytes (l ∷ ls) = (frame_below l, all-bytes ls)

pub all-i64 : (lines : List (List ℕ)) → I64 (answers_to lines)
all-i64 lines = rw (map-map answered frame_of lines) at (all_fit (map frame_of lines) (all-bytes lines))

-- ---- what was read

bad-is : (n : ℕ) (f : List ℕ) → None ≡ frame_reading n f → answered f ≡ bad
unfolding frame_reading answered
bad-is n [] e = refl
bad-is n (flag ∷ run) e = never (cc)

read-bad : (line : List ℕ) (out out' : List ℤ) → LineRead line out out' None → bad ≡ answer_to line
read-bad line out out' r = sym (bad-is (length out) (frame_of line) r.answer)

answer-is : (f : List ℕ) (out out' : List ℤ) (a : Answer) → AllBelow 256 f → length out ≡ 512 → Some a ≡ frame_reading (length out) f → out' ≡ frame_places out f
    → line_with (reply_to a) (take (answer_rows a) out') ≡ answered f
unfolding frame_reading frame_places
answer-is [] out out' a b l e p = never (cc)
answer-is (flag ∷ run) out out' a b l e p =
    let g : a ≡ answer_of 1 (length run) (into (length out) (parse run)) = cc in
    let h : a ≡ answer_of 1 (length run) (into 512 (parse run)) = rw l at g in
    let q : out' ≡ run_places (eqb flag 1) out (into 512 (parse run)) = rw l at p in
    rw (h, q) (lines-read flag run 1 out b.1).as-answered

read_answer : (line : List ℕ) (out out' : List ℤ) (a : Answer) → length out ≡ 512 → LineRead line out out' (Some a)
    → line_with (reply_to a) (take (answer_rows a) out') ≡ answer_to line
read_answer line out out' a l r = answer-is (frame_of line) out out' a (frame_below line) l r.answer r.places

-- the rows of an answer stand in the places
answer-within : (signed : Bool) (at total : ℕ) (out : List ℤ) (m : Parsed Description) → answer_rows (answer_of at total m) ≤ length (run_places signed out m)
answer-within signed at total out end = omega arith
answer-within signed at total out (got d rest) = omega (arith, length-append (i64_rows signed d) (drop (row_count d) out), i64-count signed d)
answer-within signed at total out (refused (plain n)) = omega arith
answer-within signed at total out (refused (cut n left)) = omega arith

rows-within : (f : List ℕ) (out out' : List ℤ) (a : Answer) → Some a ≡ frame_reading (length out) f → out' ≡ frame_places out f → answer_rows a ≤ length out'
unfolding frame_reading frame_places
rows-within [] out out' a e p = never (cc)
rows-within (flag ∷ run) out out' a e p =
    let g : a ≡ answer_of 1 (length run) (into (length out) (parse run)) = cc in
    rw (g, p) (answer-within (eqb flag 1) 1 (length run) out (into (length out) (parse run)))

pub read-within : (line : List ℕ) (out out' : List ℤ) (a : Answer) → LineRead line out out' (Some a) → answer_rows a ≤ length out'
read-within line out out' a r = rows-within (frame_of line) out out' a r.answer r.places

-- ---- and taken

pub took-bad : (t : Totals) (line : List ℕ) (out out' : List ℤ) (r : Taken) → LineRead line out out' None → r ≡ take_line t bad → r ≡ take_line t (answer_to line)
took-bad t line out out' r l e = e ∙ ap (λ (x : Line). take_line t x) (read-bad line out out' l)

pub took : (t : Totals) (line : List ℕ) (out out' : List ℤ) (a : Answer) (r : Taken) → length out ≡ 512 → LineRead line out out' (Some a)
    → r ≡ take_line t (line_with (reply_to a) (take (answer_rows a) out')) → r ≡ take_line t (answer_to line)
took t line out out' a r n l e = e ∙ ap (λ (x : Line). take_line t x) (read_answer line out out' a n l)
