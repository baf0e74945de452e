-- What the code holds is that of the lines that were taken. Assumes nothing.
use Rattle.std.proofs.Common.{◌≡◌, ℕ, zero, suc, ◌+◌, ◌-◌, ◌<◌, ◌≤◌, List, [], ◌∷◌, ◌++◌, map, length, get_or, take, drop, set, replicate, ℤ, sym, refl, ap, ◌∙◌, append-nil, add-one, arith, drop_of_length-le, take_all, drop-cons, take-suc-set, drop-set-lt, le-ltb, lt-ltb, eq-eqb, ne_eqb, None}
use native.Mathlib.Decide.{dec_lt}
use lib.Seq.{append_snoc}
use Rattle.format.specs.Rows.{plus}
use Rattle.format.specs.declared.Kind.{Kind}
use Rattle.format.specs.declared.Kind.TheVariants.{ShortRepeat, Direct, PatchedBase, Delta, Booleans, ByteValues}
use Rattle.format.specs.Answers.{kind_number}
use Rattle.tally.specs.Totals.{bad, ended, refusal, run, is_refusal, is_run, counted, rows_over, lower, higher, of_all, sum_of, totals, empty}
use Rattle.tally.specs.declared.totals.Totals.{Totals}
use Rattle.tally.specs.Wide.{wide_of}
use Rattle.tally.specs.Held.{numbers, kinds, held, counting, slot, each_plus}

-- ---- counts, one after another

each-cons : (xs ys : List ℕ) (i : ℕ) → i < length xs → i < length ys
    → each_plus (drop i xs) (drop i ys) ≡ plus (get_or xs i 0) (get_or ys i 0) ∷ each_plus (drop (suc i) xs) (drop (suc i) ys)
unfolding each_plus
each-cons xs ys i h k = rw (drop-cons xs i 0 h, drop-cons ys i 0 k)

pub each_more : (xs ys : List ℕ) (i : ℕ) → i < length xs → i < length ys
    → (let xs' = set xs i (plus (get_or xs i 0) (get_or ys i 0)) in take (i + 1) xs' ++ each_plus (drop (i + 1) xs') (drop (i + 1) ys))
    ≡ take i xs ++ each_plus (drop i xs) (drop i ys)
each_more xs ys i h k =
    let v = plus (get_or xs i 0) (get_or ys i 0) in
    rw (add-one, take-suc-set xs i v h, drop-set-lt (suc i) xs i v (omega arith))
    (append_snoc (take i xs) v (each_plus (drop (suc i) xs) (drop (suc i) ys)) ∙ ap (λ s. take i xs ++ s) (sym (each-cons xs ys i h k)))

-- at the end
pub each_all : (xs ys : List ℕ) (i : ℕ) → length xs ≤ i → xs ≡ take i xs ++ each_plus (drop i xs) (drop i ys)
unfolding each_plus
each_all xs ys i h = rw (drop_of_length-le xs h, take_all i xs h) (sym (append-nil xs))

-- ---- no line, and one, held

pub no_line : held empty ≡ counting 0 0 0
unfolding held numbers kinds totals counted rows_over of_all sum_of wide_of
no_line = refl

pub one-bad : held (totals (bad ∷ [])) ≡ counting 1 1 0
unfolding held numbers kinds totals counted rows_over of_all sum_of wide_of
one-bad = refl

pub one_end : held (totals (ended ∷ [])) ≡ counting 1 0 1
unfolding held numbers kinds totals counted rows_over of_all sum_of wide_of
one_end = refl

-- the struct of one refused line
abbrev pub refusing : ℕ → Totals
refusing n = record {
  lines = 1;
  bads = 0;
  ends = 0;
  refusals = set (replicate 15 0) n 1;
  runs = replicate 6 0;
  rows = 0;
  smallest = None;
  largest = None;
  sum = record { high = 0; low = 0 };
}

-- the numbers from one on
abbrev pub from : ℕ → ℕ → List ℕ
from j zero = []
from j (suc m) = j ∷ from (suc j) m

abbrev one : ℕ → ℕ → ℕ
one n k = counted (is_refusal k) (refusal n ∷ [])

-- a number is counted at its place ..
counted-there : (n : ℕ) → one n n ≡ 1
unfolding counted
counted-there n = rw (eq-eqb n n refl)

-- .. and nowhere else
not_there : (n k : ℕ) → (n ≡ k → ⊥) → one n k ≡ 0
unfolding counted
not_there n k h = rw (ne_eqb n k h)

none_above : (m j n : ℕ) → n < j → map (one n) (from j m) ≡ replicate m 0
none_above zero j n h = refl
none_above (suc m) j n h = rw (not_there n j (λ e. omega arith), none_above m (suc j) n (omega arith))

one_place : (m j n : ℕ) → j ≤ n → set (replicate m 0) (n - j) 1 ≡ map (one n) (from j m)
one_place zero j n h = refl
one_place (suc m) j n h = by (dec_lt j n) (λ l. one_place m (suc j) n l)
  where
    by : Dec (j < n) → (suc j ≤ n → set (replicate m 0) (n - suc j) 1 ≡ map (one n) (from (suc j) m))
        → set (0 ∷ replicate m 0) (n - j) 1 ≡ one n j ∷ map (one n) (from (suc j) m)
    by (yes l) ih =
        let e : n - j ≡ suc (n - suc j) = omega arith in
        rw (e, not_there n j (λ e. omega arith)) (ap (λ s. 0 ∷ s) (ih l))
    by (no l) ih =
        let e : n ≡ j = omega arith in
        let z : j - j ≡ 0 = omega arith in
        rw (e, z, counted-there j, none_above m (suc j) j (omega arith))

-- a refusal, and a run
pub one-refusal : (n : ℕ) → held (totals (refusal n ∷ [])) ≡ refusing n
unfolding held numbers kinds totals counted rows_over of_all sum_of wide_of
one-refusal n =
    let e : n - 0 ≡ n = omega arith in
    rw (sym (rw e at (one_place 15 0 n (omega arith))))

set-at-kind : (k : Kind) (rows : List ℤ) → set (replicate 6 0) (kind_number k) 1 ≡ map (λ j. counted (is_run j) (run k rows ∷ [])) kinds
unfolding kinds counted
set-at-kind ShortRepeat rows = refl
set-at-kind Direct rows = refl
set-at-kind PatchedBase rows = refl
set-at-kind Delta rows = refl
set-at-kind Booleans rows = refl
set-at-kind ByteValues rows = refl

-- the struct of one run
abbrev pub running : Kind → List ℤ → Totals
running k rows = record {
  lines = 1;
  bads = 0;
  ends = 0;
  refusals = replicate 15 0;
  runs = set (replicate 6 0) (kind_number k) 1;
  rows = length rows;
  smallest = of_all lower rows;
  largest = of_all higher rows;
  sum = wide_of (sum_of rows);
}

pub one-run : (k : Kind) (rows : List ℤ) → held (totals (run k rows ∷ [])) ≡ running k rows
unfolding held numbers totals counted rows_over
one-run k rows = rw (append-nil rows, set-at-kind k rows)

pub kind-below : (k : Kind) → kind_number k < 6
kind-below ShortRepeat = omega arith
kind-below Direct = omega arith
kind-below PatchedBase = omega arith
kind-below Delta = omega arith
kind-below Booleans = omega arith
kind-below ByteValues = omega arith

pub slot-below : (n : ℕ) → slot n < 15
slot-below n = by (dec_lt n 15)
  where
    by : Dec (n < 15) → slot n < 15
    by (yes l) = rw (lt-ltb n 15 l) l
    by (no l) = rw (le-ltb n 15 (omega arith)) (omega arith)
