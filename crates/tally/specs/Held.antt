-- HOW THE CODE HOLDS TOTALS: a struct of counts below 2^64, refusals by number, runs by kind, and the sum in two words; and what each
-- function answers, for every struct that a caller makes.
-- Assumes nothing.
use Rattle.std.specs.Prelude.{ℕ, ◌+◌, List, [], ◌∷◌, map, length, replicate, ℤ, nat_lt, Some, Ok, Err, None, Result}
use Rattle.format.specs.declared.Kind.{Kind}
use Rattle.format.specs.declared.Kind.TheVariants as kind
use Rattle.format.specs.Answers.{Answer, refusing}
use Rattle.format.specs.Fields.{pick}
use Rattle.format.specs.Rows.{plus}
use Rattle.tally.specs.declared.totals.Reply.{Reply}
use Rattle.tally.specs.declared.totals.Reply.TheVariants.{Bad, End, Refused, Run}
use Rattle.tally.specs.declared.totals.Totals.{Totals}
use Rattle.tally.specs.declared.totals.Stopped.{Stopped}
use Rattle.tally.specs.Totals.{Line, bad, ended, refusal, run, rows_in, lower, higher, of_two, Tally, totals, too_many, Outcome, all}
use Rattle.tally.specs.Totals.{twenty}
use Rattle.tally.specs.Wide.{wide_of, add_wide}

-- ---- A LINE: a reply, and rows, which only a run has

-- numbers are counted up to 14; no line is refused with one above, and such a number counts as 0, which is none
abbrev pub slot : ℕ → ℕ
slot n = pick (nat_lt n 15) n 0

abbrev pub line_with : Reply → List ℤ → Line
line_with Bad rows = bad
line_with End rows = ended
line_with (Refused n) rows = refusal (slot n)
line_with (Run kind) rows = run kind rows

-- the run reader's answer as a reply
abbrev pub reply_to : Answer → Reply
reply_to (Ok None) = End
reply_to (Ok (Some r)) = Run r.kind
reply_to (Err f) = Refused f.number

-- ---- THE STRUCT that holds totals

unfoldable pub numbers : List ℕ
numbers = 0 ∷ 1 ∷ 2 ∷ 3 ∷ 4 ∷ 5 ∷ 6 ∷ 7 ∷ 8 ∷ 9 ∷ 10 ∷ 11 ∷ 12 ∷ 13 ∷ 14 ∷ []

unfoldable pub kinds : List Kind
kinds = kind.ShortRepeat ∷ kind.Direct ∷ kind.PatchedBase ∷ kind.Delta ∷ kind.Booleans ∷ kind.ByteValues ∷ []

unfoldable pub held : Tally → Totals
held t = record {
  lines = t.lines;
  bads = t.bads;
  ends = t.ends;
  refusals = map t.refusals numbers;
  runs = map t.runs kinds;
  rows = t.rows;
  smallest = t.smallest;
  largest = t.largest;
  sum = wide_of t.sum;
}

-- the struct of lines without rows, so many of them bad, and so many ends
abbrev pub counting : ℕ → ℕ → ℕ → Totals
counting lines bads ends = record {
  lines = lines;
  bads = bads;
  ends = ends;
  refusals = replicate 15 0;
  runs = replicate 6 0;
  rows = 0;
  smallest = None;
  largest = None;
  sum = record { high = 0; low = 0 };
}

-- ---- TWO STRUCTS TOGETHER: counts modulo 2^64, which only those pass that no lines led to

unfoldable pub each_plus : List ℕ → List ℕ → List ℕ
each_plus [] ys = []
each_plus (x ∷ xs) [] = x ∷ xs
each_plus (x ∷ xs) (y ∷ ys) = plus x y ∷ each_plus xs ys

unfoldable pub together : Totals → Totals → Totals
together a b = record {
  lines = plus a.lines b.lines;
  bads = plus a.bads b.bads;
  ends = plus a.ends b.ends;
  refusals = each_plus a.refusals b.refusals;
  runs = each_plus a.runs b.runs;
  rows = plus a.rows b.rows;
  smallest = of_two lower a.smallest b.smallest;
  largest = of_two higher a.largest b.largest;
  sum = add_wide a.sum b.sum;
}

-- ---- THE ANSWERS: the new totals; or 20, with the totals as before

abbrev pub Taken : Type 0
Taken = Result Totals Stopped

abbrev pub going : Totals → Taken
going t = Ok t

abbrev pub stopped : Totals → Taken
stopped t = Err (record { totals = t; refusal = refusing 20 0 })

-- two totals, the second's lines after the first's
unfoldable pub combined : Totals → Totals → Taken
combined a b = pick (too_many (a.lines + b.lines) (a.rows + b.rows)) (stopped a) (going (together a b))

-- one line more
unfoldable pub take_line : Totals → Line → Taken
take_line t l = pick (too_many (t.lines + 1) (t.rows + length (rows_in l))) (stopped t) (going (together t (held (totals (l ∷ [])))))

-- go on unless stopped
abbrev pub unless_stopped : Taken → (Totals → Taken) → Taken
unless_stopped (Ok t) more = more t
unless_stopped (Err s) more = Err s

-- lines, one after another, to the first that is refused
unfoldable pub take_all : Totals → List Line → Taken
take_all t [] = going t
take_all t (l ∷ ls) = unless_stopped (take_line t l) (λ u. take_all u ls)

-- an outcome, as the code holds it
abbrev pub held_outcome : Outcome → Taken
held_outcome (all t) = going (held t)
held_outcome (twenty t) = stopped (held t)
