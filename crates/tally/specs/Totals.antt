-- TOTALS (FORMAT.md, "Totals") over lines of the program's input: lines, bad lines, refusals by number, runs by kind, rows, smallest and
-- largest row, and the exact sum of all rows.
-- Assumes nothing.
use Rattle.std.specs.Prelude.{ℕ, ◌+◌, ◌^◌, Bool, true, false, ◌||◌, List, [], ◌∷◌, ◌++◌, length, ℤ, pos, ◌+ℤ◌, ◌==◌, int_le, nat_lt, Option, None, Some}
use Rattle.format.specs.declared.Kind.{Kind}
use Rattle.format.specs.Answers.{kind_number}
use Rattle.format.specs.Fields.{pick}
use Rattle.format.specs.Runs.{Description}
use Rattle.format.specs.Rows.{i64_rows}
use Rattle.format.specs.Parse.{Reason, plain, cut, Parsed, end, got, refused, parse, into}
use Rattle.format.specs.Promises.{kind_of}

-- ---- A LINE'S ANSWER (FORMAT.md, "The programs"): a bad line, the end, a refusal, or a run with its rows as i64

pub data Line : Type 0 where
  bad : Line
  ended : Line
  refusal : ℕ → Line
  run : Kind → List ℤ → Line

-- the number that reading refuses with
abbrev pub number_of : Reason → ℕ
number_of (plain n) = n
number_of (cut n left) = n

-- what reading the run gave, under the line's flag
abbrev pub line_of : Bool → Parsed Description → Line
line_of signed end = ended
line_of signed (got d rest) = run (kind_of d) (i64_rows signed d)
line_of signed (refused r) = refusal (number_of r)

-- the answer to a line's bytes, which are none where the line is bad: the
-- first is the flag, the rest one run, and 512 places are room for any
unfoldable pub answered : List ℕ → Line
answered [] = bad
answered (flag ∷ bytes) = line_of (flag == 1) (into 512 (parse bytes))

-- ---- what is counted

abbrev pub is_bad : Line → Bool
is_bad bad = true
is_bad ended = false
is_bad (refusal n) = false
is_bad (run kind rows) = false

abbrev pub is_end : Line → Bool
is_end bad = false
is_end ended = true
is_end (refusal n) = false
is_end (run kind rows) = false

abbrev pub is_refusal : ℕ → Line → Bool
is_refusal k bad = false
is_refusal k ended = false
is_refusal k (refusal n) = n == k
is_refusal k (run kind rows) = false

abbrev pub is_run : Kind → Line → Bool
is_run k bad = false
is_run k ended = false
is_run k (refusal n) = false
is_run k (run kind rows) = kind_number kind == kind_number k

-- only a run has rows
abbrev pub rows_in : Line → List ℤ
rows_in bad = []
rows_in ended = []
rows_in (refusal n) = []
rows_in (run kind rows) = rows

-- ---- over a list

-- how many lines pass the test
unfoldable pub counted : (Line → Bool) → List Line → ℕ
counted test [] = 0
counted test (l ∷ ls) = pick (test l) 1 0 + counted test ls

-- all rows
unfoldable pub rows_over : List Line → List ℤ
rows_over [] = []
rows_over (l ∷ ls) = rows_in l ++ rows_over ls

-- the smallest or largest row, or none where there are no rows

abbrev pub lower : ℤ → ℤ → ℤ
lower a b = pick (int_le a b) a b

abbrev pub higher : ℤ → ℤ → ℤ
higher a b = pick (int_le a b) b a

-- of two, by a choice between rows; none is no choice
abbrev pub of_two : (ℤ → ℤ → ℤ) → Option ℤ → Option ℤ → Option ℤ
of_two choice None e = e
of_two choice (Some a) None = Some a
of_two choice (Some a) (Some b) = Some (choice a b)

unfoldable pub of_all : (ℤ → ℤ → ℤ) → List ℤ → Option ℤ
of_all choice [] = None
of_all choice (z ∷ zs) = of_two choice (Some z) (of_all choice zs)

-- the whole-number sum
unfoldable pub sum_of : List ℤ → ℤ
sum_of [] = pos 0
sum_of (z ∷ zs) = z +ℤ sum_of zs

-- ---- THE TOTALS, in whole numbers

pub record Tally : Type 0 where
  pub lines : ℕ
  pub bads : ℕ
  pub ends : ℕ
  -- by number, and by kind
  pub refusals : ℕ → ℕ
  pub runs : Kind → ℕ
  pub rows : ℕ
  pub smallest : Option ℤ
  pub largest : Option ℤ
  pub sum : ℤ

unfoldable pub totals : List Line → Tally
totals ls = record {
  lines = length ls;
  bads = counted is_bad ls;
  ends = counted is_end ls;
  refusals = λ k. counted (is_refusal k) ls;
  runs = λ k. counted (is_run k) ls;
  rows = length (rows_over ls);
  smallest = of_all lower (rows_over ls);
  largest = of_all higher (rows_over ls);
  sum = sum_of (rows_over ls);
}

-- no lines
abbrev pub empty : Tally
empty = totals []

-- the totals of two inputs, the second's lines after the first's
abbrev pub combine : Tally → Tally → Tally
combine a b = record {
  lines = a.lines + b.lines;
  bads = a.bads + b.bads;
  ends = a.ends + b.ends;
  refusals = λ k. a.refusals k + b.refusals k;
  runs = λ k. a.runs k + b.runs k;
  rows = a.rows + b.rows;
  smallest = of_two lower a.smallest b.smallest;
  largest = of_two higher a.largest b.largest;
  sum = a.sum +ℤ b.sum;
}

-- one line's answer taken into the totals
abbrev pub step : Tally → Line → Tally
step t l = combine t (totals (l ∷ []))

-- ---- LIMITS: at most 2^32 lines and 2^32 rows

abbrev pub limit : ℕ
limit = 2 ^ 32

-- so many lines or so many rows are too many
abbrev pub too_many : ℕ → ℕ → Bool
too_many lines rows = nat_lt limit lines || nat_lt limit rows

-- a line that would pass either
abbrev pub passes : Tally → Line → Bool
passes t l = too_many (t.lines + 1) (t.rows + length (rows_in l))

-- all lines were taken; or refusal 20 where a line would pass a limit: reading stops there, with the totals as before that line
pub data Outcome : Type 0 where
  all : Tally → Outcome
  twenty : Tally → Outcome

unfoldable pub take_lines : Tally → List Line → Outcome
take_lines t [] = all t
take_lines t (l ∷ ls) = pick (passes t l) (twenty t) (take_lines (step t l) ls)
