-- Totals of two inputs, and of one line more. Assumes nothing.
use Rattle.std.proofs.Common.{◌≡◌, ℕ, ◌+◌, Bool, List, [], ◌∷◌, ◌++◌, length, ℤ, ◌+ℤ◌, sym, refl, ap, ◌∙◌, append_assoc, arith, length-append, Option, None, Some}
use lib.IntN.{+ℤ_idl, +ℤ_idr, +ℤ_assoc}
use Rattle.format.specs.declared.Kind.{Kind}
use Rattle.tally.specs.Totals.{Line, is_bad, is_end, is_refusal, is_run, rows_in, counted, rows_over, lower, higher, of_two, of_all, sum_of, Tally, totals}
use Rattle.tally.specs.Totals.{empty, combine}
use Rattle.tally.specs.Laws.{Combining}
use Rattle.tally.proofs.Order.{lowers, highers, of_two-assoc, of_all-append}

-- two totals are the same where each part is
same : {a b : Tally} → a.lines ≡ b.lines → a.bads ≡ b.bads → a.ends ≡ b.ends → ((k : ℕ) → a.refusals k ≡ b.refusals k)
    → ((k : Kind) → a.runs k ≡ b.runs k)
    → a.rows ≡ b.rows → a.smallest ≡ b.smallest → a.largest ≡ b.largest → a.sum ≡ b.sum → a ≡ b
same l b e f r n s g t = λ i. record {
  lines = l i;
  bads = b i;
  ends = e i;
  refusals = λ k. f k i;
  runs = λ k. r k i;
  rows = n i;
  smallest = s i;
  largest = g i;
  sum = t i;
}

pub counted-append : (test : Line → Bool) (xs ys : List Line) → counted test (xs ++ ys) ≡ counted test xs + counted test ys
unfolding counted
counted-append test [] ys = omega arith
counted-append test (l ∷ xs) ys = omega (arith, counted-append test xs ys)

pub rows-over-append : (xs ys : List Line) → rows_over (xs ++ ys) ≡ rows_over xs ++ rows_over ys
unfolding rows_over
rows-over-append [] ys = refl
rows-over-append (l ∷ xs) ys = rw (rows-over-append xs ys) (sym (append_assoc (rows_in l) (rows_over xs) (rows_over ys)))

pub sum-append : (zs ys : List ℤ) → sum_of (zs ++ ys) ≡ sum_of zs +ℤ sum_of ys
unfolding sum_of
sum-append [] ys = sym (+ℤ_idl (sum_of ys))
sum-append (z ∷ zs) ys = rw (sum-append zs ys) (sym (+ℤ_assoc z (sum_of zs) (sum_of ys)))

pub joined : (xs ys : List Line) → totals (xs ++ ys) ≡ combine (totals xs) (totals ys)
unfolding totals
joined xs ys =
    same (length-append xs ys) (counted-append is_bad xs ys) (counted-append is_end xs ys) (λ k. counted-append (is_refusal k) xs ys)
    (λ k. counted-append (is_run k) xs ys)
    (ap length (rows-over-append xs ys) ∙ length-append (rows_over xs) (rows_over ys))
    (ap (of_all lower) (rows-over-append xs ys) ∙ of_all-append _ lower lowers (rows_over xs) (rows_over ys))
    (ap (of_all higher) (rows-over-append xs ys) ∙ of_all-append _ higher highers (rows_over xs) (rows_over ys))
    (ap sum_of (rows-over-append xs ys) ∙ sum-append (rows_over xs) (rows_over ys))

none_right : (choice : ℤ → ℤ → ℤ) (e : Option ℤ) → of_two choice e None ≡ e
none_right choice None = refl
none_right choice (Some z) = refl

assoc : (a b c : Tally) → combine (combine a b) c ≡ combine a (combine b c)
assoc a b c =
    same (omega arith) (omega arith) (omega arith) (λ k. omega arith) (λ k. omega arith) (omega arith)
    (of_two-assoc _ lower lowers a.smallest b.smallest c.smallest) (of_two-assoc _ higher highers a.largest b.largest c.largest)
    (+ℤ_assoc a.sum b.sum c.sum)

unit_left : (a : Tally) → combine empty a ≡ a
unfolding totals counted rows_over of_all sum_of
unit_left a = same (omega arith) (omega arith) (omega arith) (λ k. omega arith) (λ k. omega arith) (omega arith) refl refl (+ℤ_idl a.sum)

unit-right : (a : Tally) → combine a empty ≡ a
unfolding totals counted rows_over of_all sum_of
unit-right a =
    same (omega arith) (omega arith) (omega arith) (λ k. omega arith) (λ k. omega arith) (omega arith) (none_right lower a.smallest)
    (none_right higher a.largest)
    (+ℤ_idr a.sum)

pub combining : Combining
combining = record { joined = joined; stepped = λ ls l. joined ls (l ∷ []); assoc = assoc; unit_left = unit_left; unit-right = unit-right }
