-- What the code holds is that of the lines that were taken: line by line, and combined. Assumes nothing.
use Rattle.std.proofs.Common.{◌≡◌, ℕ, zero, suc, ◌+◌, ◌^◌, ◌<◌, ◌≤◌, Bool, true, false, ◌||◌, ltb, List, [], ◌∷◌, ◌++◌, map, length, get_or, ℤ, nat_abs, sym, refl, ap, ◌∙◌, mod-eq_of_lt, arith, length-append, ltb-false}
use lib.Seq.{append_snoc}
use Rattle.format.specs.declared.Kind.{Kind}
use Rattle.format.specs.declared.Kind.TheVariants.{ShortRepeat, Direct, PatchedBase, Delta, Booleans, ByteValues}
use Rattle.format.specs.Answers.{kind_number}
use Rattle.format.specs.Fields.{pick, two64}
use Rattle.format.specs.Rows.{plus}
use Rattle.format.specs.Writing.{AllI64}
use Rattle.tally.specs.declared.totals.Totals.{Totals}
use Rattle.tally.specs.Totals.{Line, is_bad, is_end, is_refusal, is_run, counted, rows_over, sum_of, totals, step, limit, too_many, passes, twenty}
use Rattle.tally.specs.Totals.{take_lines}
use Rattle.tally.specs.Held.{Taken, numbers, kinds, held, each_plus, together, going, stopped, combined, take_line, unless_stopped, take_all, held_outcome}
use Rattle.tally.specs.Laws.{Within, I64, CodeHolds, CodeTells}
use Rattle.tally.proofs.Combining.{rows-over-append, joined, counted-append}
use Rattle.tally.proofs.Limits.{count-append, Passing, passing, staying, passing-is}
use Rattle.tally.proofs.Sizes.{rows-size}
use Rattle.tally.proofs.WideSums.{value, added}
use Rattle.tally.proofs.Held.{from}

-- two structs are the same where each part is
same : {a b : Totals} → a.lines ≡ b.lines → a.bads ≡ b.bads → a.ends ≡ b.ends → a.refusals ≡ b.refusals → a.runs ≡ b.runs
    → a.rows ≡ b.rows → a.smallest ≡ b.smallest → a.largest ≡ b.largest → a.sum ≡ b.sum → a ≡ b
same l b e f r n s g t = λ i. record {
  lines = l i;
  bads = b i;
  ends = e i;
  refusals = f i;
  runs = r i;
  rows = n i;
  smallest = s i;
  largest = g i;
  sum = t i;
}

-- ---- counts of lines within the limits do not wrap

counted-most : (test : Line → Bool) (ls : List Line) → counted test ls ≤ length ls
unfolding counted
counted-most test [] = omega arith
counted-most test (l ∷ ls) = by (test l) (counted-most test ls)
  where
    by : (t : Bool) → counted test ls ≤ length ls → pick t 1 0 + counted test ls ≤ suc (length ls)
    by true h = omega arith
    by false h = omega arith

exact : (a b : ℕ) {c : ℕ} → c ≡ a + b → c ≤ limit → plus a b ≡ c
exact a b {c} e h = mod-eq_of_lt {n = a + b} {m = two64} (omega arith) ∙ sym e

each-exact : {A : Type 0} (f g h : A → ℕ) (ks : List A) → ((k : A) → plus (f k) (g k) ≡ h k) → each_plus (map f ks) (map g ks) ≡ map h ks
unfolding each_plus
each-exact f g h [] e = refl
each-exact f g h (k ∷ ks) e = rw (e k, each-exact f g h ks e)

module _ (xs ys : List Line) (w : Within (xs ++ ys)) where
  counts : (test : Line → Bool) → plus (counted test xs) (counted test ys) ≡ counted test (xs ++ ys)
  counts test = exact (counted test xs) (counted test ys) (counted-append test xs ys) (omega (arith, counted-most test (xs ++ ys), w.few-lines))

fit-left : (zs ys : List ℤ) → AllI64 (zs ++ ys) → AllI64 zs
fit-left [] ys h = tt
fit-left (z ∷ zs) ys h = (h.0, fit-left zs ys h.1)

fit-right : (zs ys : List ℤ) → AllI64 (zs ++ ys) → AllI64 ys
fit-right [] ys h = h
fit-right (z ∷ zs) ys h = fit-right zs ys h.1

sum-small : (ls : List Line) → I64 ls → length (rows_over ls) ≤ limit → nat_abs (sum_of (rows_over ls)) ≤ 2 ^ 95
sum-small ls h l = omega (arith, rows-size (rows_over ls) h)

pub together-held : (xs ys : List Line) → I64 (xs ++ ys) → Within (xs ++ ys) → together (held (totals xs)) (held (totals ys)) ≡ held (totals (xs ++ ys))
unfolding together held totals
together-held xs ys f w =
    let g : AllI64 (rows_over xs ++ rows_over ys) = rw (rows-over-append xs ys) at f in
    let n = count-append xs ys in
    same (exact (length xs) (length ys) (length-append xs ys) w.few-lines) (counts xs ys w is_bad) (counts xs ys w is_end)
    (each-exact _ _ _ numbers (λ k. counts xs ys w (is_refusal k))) (each-exact _ _ _ kinds (λ k. counts xs ys w (is_run k)))
    (exact (length (rows_over xs)) (length (rows_over ys)) n w.few-rows) (ap (λ t. t.smallest) (sym (joined xs ys)))
    (ap (λ t. t.largest) (sym (joined xs ys)))
    (added (sum_of (rows_over xs)) (sum_of (rows_over ys)) (sum-small xs (fit-left (rows_over xs) (rows_over ys) g) (omega (arith, n, w.few-rows)))
    (sum-small ys (fit-right (rows_over xs) (rows_over ys) g) (omega (arith, n, w.few-rows)))
    ∙ ap (λ t. (held t).sum) (sym (joined xs ys)))

-- ---- one line more, and all lines

line : (ls : List Line) (l : Line) → I64 (ls ++ (l ∷ []))
    → take_line (held (totals ls)) l ≡ pick (passes (totals ls) l) (stopped (held (totals ls))) (going (held (totals (ls ++ (l ∷ [])))))
unfolding take_line held totals
line ls l f = go (passing-is ls l)
  where
    go : {t : Bool} → Passing ls l t
        → pick t (stopped (held (totals ls))) (going (together (held (totals ls)) (held (totals (l ∷ [])))))
        ≡ pick t (stopped (held (totals ls))) (going (held (totals (ls ++ (l ∷ [])))))
    go (passing p) = refl
    go (staying s) = ap going (together-held ls (l ∷ []) f s)

lines_from : (done ls : List Line) → I64 (done ++ ls) → take_all (held (totals done)) ls ≡ held_outcome (take_lines (totals done) ls)
unfolding take_all take_lines
lines_from done [] f = refl
lines_from done (l ∷ ls) f =
    go (passes (totals done) l) (take_line (held (totals done)) l) (line done l first)
    (lines_from (done ++ (l ∷ [])) ls snoc ∙ ap (λ t. held_outcome (take_lines t ls)) (joined done (l ∷ [])))
  where
    snoc : I64 ((done ++ (l ∷ [])) ++ ls)
    snoc = rw (append_snoc done l ls) f

    first : I64 (done ++ (l ∷ []))
    first = fit-left (rows_over (done ++ (l ∷ []))) (rows_over ls) (rw (rows-over-append (done ++ (l ∷ [])) ls) at snoc)

    go : (t : Bool) (r : Taken) → r ≡ pick t (stopped (held (totals done))) (going (held (totals (done ++ (l ∷ [])))))
        → take_all (held (totals (done ++ (l ∷ [])))) ls ≡ held_outcome (take_lines (step (totals done) l) ls)
        → unless_stopped r (λ u. take_all u ls) ≡ held_outcome (pick t (twenty (totals done)) (take_lines (step (totals done) l) ls))
    go true r e ih = rw e
    go false r e ih = rw e ih

-- ---- two inputs

two : (first second : List Line) → I64 (first ++ second)
    → combined (held (totals first)) (held (totals second))
    ≡ pick (too_many (length (first ++ second)) (length (rows_over (first ++ second)))) (stopped (held (totals first))) (going (held (totals (first ++ second))))
unfolding combined held totals
two xs ys f =
    rw (sym (length-append xs ys), sym (count-append xs ys))
    (go (ltb limit (length (xs ++ ys))) (ltb limit (length (rows_over (xs ++ ys)))) refl refl)
  where
    go : (a b : Bool) → ltb limit (length (xs ++ ys)) ≡ a → ltb limit (length (rows_over (xs ++ ys))) ≡ b
        → pick (a || b) (stopped (held (totals xs))) (going (together (held (totals xs)) (held (totals ys))))
        ≡ pick (a || b) (stopped (held (totals xs))) (going (held (totals (xs ++ ys))))
    go true b p q = refl
    go false true p q = refl
    go false false p q =
        ap going (together-held xs ys f (record {
          few-lines = ltb-false limit (length (xs ++ ys)) p;
          few-rows = ltb-false limit (length (rows_over (xs ++ ys))) q;
        }))

pub code_holds : CodeHolds
code_holds = record { line = line; lines = λ ls f. lines_from [] ls f; two = two }

-- ---- nothing is lost

at-number : (f : ℕ → ℕ) (m j k : ℕ) → k < m → get_or (map f (from j m)) k 0 ≡ f (j + k)
at-number f zero j k h = absurd (omega arith)
at-number f (suc m) j zero h = ap f (omega arith)
at-number f (suc m) j (suc k) h = at-number f m (suc j) k (omega arith) ∙ ap f (omega arith)

at-kind : (f : Kind → ℕ) (k : Kind) → get_or (map f kinds) (kind_number k) 0 ≡ f k
unfolding kinds
at-kind f ShortRepeat = refl
at-kind f Direct = refl
at-kind f PatchedBase = refl
at-kind f Delta = refl
at-kind f Booleans = refl
at-kind f ByteValues = refl

pub code-tells : CodeTells
unfolding held numbers totals
code-tells ls f w = record {
  by_number = λ k h. at-number (λ k. counted (is_refusal k) ls) 15 0 k h ∙ ap (λ (n : ℕ). counted (is_refusal n) ls) (omega arith);
  by-kind = at-kind (λ k. counted (is_run k) ls);
  the_sum = value (sum_of (rows_over ls)) (sum-small ls f w.few-rows);
}
