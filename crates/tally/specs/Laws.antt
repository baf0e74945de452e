-- What the totals' definitions say. Assumes nothing.
use Rattle.std.specs.Prelude.{◌≡◌, ℕ, ◌^◌, ◌<◌, ◌≤◌, ◌↔◌, List, [], ◌∷◌, ◌++◌, map, length, take, ℤ, ◌+ℤ◌, ◌≤ℤ◌, ◌==◌, slice_index, unsigned_abs, None, Some}
use mathlib.Core.List.{Memᴰ}
use Rattle.format.specs.Digits.{AllBelow}
use Rattle.format.specs.Fields.{pick}
use Rattle.format.specs.declared.Kind.{Kind}
use Rattle.format.specs.Answers.{kind_number, answer_rows}
use Rattle.format.specs.Parse.{parse, into}
use Rattle.format.specs.Promises.{answer_of, run_places}
use Rattle.format.specs.Writing.{AllI64}
use Rattle.tally.specs.Totals.{Line, refusal, answered, rows_over, lower, higher, of_all, Tally, totals, empty, combine, step, too_many}
use Rattle.tally.specs.Totals.{passes, limit, Outcome, all, twenty, take_lines}
use Rattle.tally.specs.Wide.{wide_of, wide_value, add_wide}
use Rattle.tally.specs.Held.{line_with, reply_to, held, going, stopped, combined, take_line, take_all, held_outcome}

-- ---- COMBINING: totals over two inputs, the second's lines after the first's,
-- are the totals of each combined; associative, with the empty totals as its unit

pub record Combining : Type 0 where
  pub joined : (first second : List Line) → totals (first ++ second) ≡ combine (totals first) (totals second)
  pub stepped : (ls : List Line) (l : Line) → totals (ls ++ (l ∷ [])) ≡ step (totals ls) l
  pub assoc : (a b c : Tally) → combine (combine a b) c ≡ combine a (combine b c)
  pub unit_left : (a : Tally) → combine empty a ≡ a
  pub unit-right : (a : Tally) → combine a empty ≡ a

-- ---- LIMITS: 20 exactly when a line would pass one; reading stops there, with the totals as before that line

pub record Within (ls : List Line) : Type 0 where
  pub few-lines : length ls ≤ limit
  pub few-rows : length (rows_over ls) ≤ limit

pub data Reads (ls : List Line) : Outcome → Type 0 where
  reads_all : Within ls → Reads ls (all (totals ls))
  stops : (before : List Line) (l : Line) (after : List Line) → ls ≡ before ++ (l ∷ after) → Within before
      → (Within (before ++ (l ∷ [])) → ⊥)
      → Reads ls (twenty (totals before))

abbrev pub LimitsHold : Type 0
LimitsHold = (ls : List Line) (r : Outcome) → (take_lines empty ls ≡ r) ↔ Reads ls r

-- over two inputs, while both stay within the limits: the totals of each combined
abbrev pub TwoInputs : Type 0
TwoInputs = (first second : List Line) → Within (first ++ second)
    → take_lines empty (first ++ second) ≡ all (combine (totals first) (totals second))

-- ---- EXTREMES: none where there are no rows, and else a row that no row is below, or above

-- z is a row, and R holds from it to every row
pub record Best (R : ℤ → ℤ → Type 0) (zs : List ℤ) (z : ℤ) : Type 0 where
  pub row : Memᴰ z zs
  pub all-rows : (y : ℤ) → Memᴰ y zs → R z y

pub record Extremes (zs : List ℤ) : Type 0 where
  pub no-smallest : (of_all lower zs ≡ None) ↔ (zs ≡ [])
  pub no-largest : (of_all higher zs ≡ None) ↔ (zs ≡ [])
  pub smallest : (z : ℤ) → (of_all lower zs ≡ Some z) ↔ Best (λ a b. a ≤ℤ b) zs z
  pub largest : (z : ℤ) → (of_all higher zs ≡ Some z) ↔ Best (λ a b. b ≤ℤ a) zs z

abbrev pub ExtremesHold : Type 0
ExtremesHold = (zs : List ℤ) → Extremes zs

-- ---- THE SUM is at most 2^95 in size, so that two words hold it; word by word sums are the words of the whole-number sum

-- the lines' bytes
abbrev pub AllBytes : List (List ℕ) → Type 0
AllBytes [] = Unit {0}
AllBytes (f ∷ fs) = AllBelow 256 f × AllBytes fs

pub record Sums : Type 0 where
  pub bound : (frames : List (List ℕ)) → AllBytes frames → Within (map answered frames)
      → unsigned_abs (totals (map answered frames)).sum ≤ 2 ^ 95
  pub value : (z : ℤ) → unsigned_abs z ≤ 2 ^ 95 → wide_value (wide_of z) ≡ z
  pub added : (a b : ℤ) → unsigned_abs a ≤ 2 ^ 95 → unsigned_abs b ≤ 2 ^ 95 → add_wide (wide_of a) (wide_of b) ≡ wide_of (a +ℤ b)

-- ---- WHAT THE CODE HOLDS: its struct is that of the lines that were
-- taken, line by line and combined; and nothing of the totals is lost in it

-- the rows of all lines are i64
abbrev pub I64 : List Line → Type 0
I64 ls = AllI64 (rows_over ls)

pub record CodeHolds : Type 0 where
  pub line : (ls : List Line) (l : Line) → I64 (ls ++ (l ∷ []))
      → take_line (held (totals ls)) l ≡ pick (passes (totals ls) l) (stopped (held (totals ls))) (going (held (totals (ls ++ (l ∷ [])))))
  pub lines : (ls : List Line) → I64 ls → take_all (held empty) ls ≡ held_outcome (take_lines empty ls)
  pub two : (first second : List Line) → I64 (first ++ second)
      → combined (held (totals first)) (held (totals second))
      ≡ pick (too_many (length (first ++ second)) (length (rows_over (first ++ second)))) (stopped (held (totals first)))
      (going (held (totals (first ++ second))))

-- the counts stand as they are; by number, by kind, and the sum:
pub record Told (ls : List Line) : Type 0 where
  pub by_number : (k : ℕ) → k < 15 → slice_index (held (totals ls)).refusals k ≡ (totals ls).refusals k
  pub by-kind : (k : Kind) → slice_index (held (totals ls)).runs (kind_number k) ≡ (totals ls).runs k
  pub the_sum : wide_value (held (totals ls)).sum ≡ (totals ls).sum

abbrev pub CodeTells : Type 0
CodeTells = (ls : List Line) → I64 ls → Within ls → Told ls

-- the numbers that a reader of runs gives (FORMAT.md, "Refusals"), but for 8, which 512 places never meet
pub data Listed : ℕ → Type 0 where
  from-1 : (n : ℕ) → 1 ≤ n → n ≤ 7 → Listed n
  from-12 : (n : ℕ) → 12 ≤ n → n ≤ 14 → Listed n

-- a line's bytes are answered as the run reader answers them, which leaves the
-- rows in the first places; and a line is refused with these numbers alone
pub record LineRead (flag : ℕ) (bytes : List ℕ) (at : ℕ) (out : List ℤ) : Type 0 where
  pub as-answered : let m = into 512 (parse bytes) in let r = answer_of at (length bytes) m in
      line_with (reply_to r) (take (answer_rows r) (run_places (flag == 1) out m)) ≡ answered (flag ∷ bytes)
  pub listed : (n : ℕ) → answered (flag ∷ bytes) ≡ refusal n → Listed n

abbrev pub LinesRead : Type 0
LinesRead = (flag : ℕ) (bytes : List ℕ) (at : ℕ) (out : List ℤ) → AllBelow 256 bytes → LineRead flag bytes at out
