-- 20 exactly when a line would pass a limit. Assumes nothing.
use Rattle.std.proofs.Common.{◌≡◌, ℕ, ◌+◌, Bool, true, false, ◌||◌, ltb, List, [], ◌∷◌, ◌++◌, length, sym, refl, ap, ◌∙◌, subst, append-nil, arith, length-append, ltb-false, ltb-true}
use lib.Seq.{append_snoc}
use Rattle.format.specs.Fields.{pick}
use Rattle.tally.specs.Totals.{Line, rows_in, rows_over, totals, empty, step, limit, passes, Outcome, all, twenty, take_lines}
use Rattle.tally.specs.Laws.{Within, Reads, reads_all, stops, LimitsHold, TwoInputs}
use Rattle.tally.proofs.Combining.{rows-over-append, joined}

-- the rows of two inputs
pub count-append : (xs ys : List Line) → length (rows_over (xs ++ ys)) ≡ length (rows_over xs) + length (rows_over ys)
count-append xs ys = ap length (rows-over-append xs ys) ∙ length-append (rows_over xs) (rows_over ys)

pub within-before : (xs ys : List Line) → Within (xs ++ ys) → Within xs
within-before xs ys w = omega (arith, w.few-lines, w.few-rows, length-append xs ys, count-append xs ys)

-- one line more
pub more_rows : (xs : List Line) (l : Line) → length (rows_over (xs ++ (l ∷ []))) ≡ length (rows_over xs) + length (rows_in l)
unfolding rows_over
more_rows xs l = count-append xs (l ∷ []) ∙ ap (λ (n : ℕ). length (rows_over xs) + n) (ap length (append-nil (rows_in l)))

pub data Passing (xs : List Line) (l : Line) : Bool → Type 0 where
  passing : (Within (xs ++ (l ∷ [])) → ⊥) → Passing xs l true
  staying : Within (xs ++ (l ∷ [])) → Passing xs l false

pub passing-is : (xs : List Line) (l : Line) → Passing xs l (passes (totals xs) l)
unfolding totals
passing-is xs l = go (ltb limit (length xs + 1)) (ltb limit (length (rows_over xs) + length (rows_in l))) refl refl
  where
    go : (a b : Bool) → ltb limit (length xs + 1) ≡ a → ltb limit (length (rows_over xs) + length (rows_in l)) ≡ b → Passing xs l (a || b)
    go true b p q = passing (λ w. omega (arith, w.few-lines, ltb-true limit (length xs + 1) p, length-append xs (l ∷ [])))
    go false true p q = passing (λ w. omega (arith, w.few-rows, ltb-true limit (length (rows_over xs) + length (rows_in l)) q, more_rows xs l))
    go false false p q = staying
        (omega (
          arith,
          ltb-false limit (length xs + 1) p,
          ltb-false limit (length (rows_over xs) + length (rows_in l)) q,
          length-append xs (l ∷ []),
          more_rows xs l,
        ))

-- lines that stay within the limits are all taken
skip : (done xs rest : List Line) → Within (done ++ xs) → take_lines (totals done) (xs ++ rest) ≡ take_lines (totals (done ++ xs)) rest
unfolding take_lines
skip done [] rest w = rw (append-nil done)
skip done (l ∷ xs) rest w =
    go (passing-is done l) ∙ ap (λ t. take_lines t (xs ++ rest)) (sym (joined done (l ∷ [])))
    ∙ skip (done ++ (l ∷ [])) xs rest (rw (append_snoc done l xs) w) ∙ ap (λ ls. take_lines (totals ls) rest) (append_snoc done l xs)
  where
    go : {t : Bool} → Passing done l t
        → pick t (twenty (totals done)) (take_lines (step (totals done) l) (xs ++ rest)) ≡ take_lines (step (totals done) l) (xs ++ rest)
    go (passing no_more) = absurd (no_more (within-before (done ++ (l ∷ [])) xs (rw (append_snoc done l xs) w)))
    go (staying s) = refl

reads : (done ls : List Line) → Within done → Reads (done ++ ls) (take_lines (totals done) ls)
unfolding take_lines
reads done [] w = rw (append-nil done) (reads_all w)
reads done (l ∷ ls) w = go (passing-is done l) (λ s. reads (done ++ (l ∷ [])) ls s)
  where
    go : {t : Bool} → Passing done l t → (Within (done ++ (l ∷ [])) → Reads ((done ++ (l ∷ [])) ++ ls) (take_lines (totals (done ++ (l ∷ []))) ls))
        → Reads (done ++ (l ∷ ls)) (pick t (twenty (totals done)) (take_lines (step (totals done) l) ls))
    go (passing p) more = stops done l ls refl w p
    go (staying s) more = rw (append_snoc done l ls, joined done (l ∷ [])) at (more s)

read : {ls : List Line} {r : Outcome} → Reads ls r → take_lines empty ls ≡ r
unfolding take_lines
read {ls} (reads_all w) = ap (take_lines empty) (sym (append-nil ls)) ∙ skip [] ls [] w
read {ls} (stops before l after e w p) = ap (take_lines empty) e ∙ skip [] before (l ∷ after) w ∙ go (passing-is before l)
  where
    go : {t : Bool} → Passing before l t → pick t (twenty (totals before)) (take_lines (step (totals before) l) after) ≡ twenty (totals before)
    go (passing p') = refl
    go (staying s) = absurd (p s)

pub limits-hold : LimitsHold
unfolding rows_over
limits-hold ls r =
    (λ e. subst (λ (x : Outcome). Reads ls x) e (reads [] ls (record { few-lines = omega arith; few-rows = omega arith })), λ x. read x)

pub two-inputs : TwoInputs
two-inputs first second w = (limits-hold (first ++ second) (all (totals (first ++ second)))).1 (reads_all w) ∙ ap all (joined first second)
