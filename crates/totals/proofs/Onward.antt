-- Lines taken one after another. Assumes nothing.
use mathlib.Core.Path.{◌≡◌, refl, sym, ap, ◌∙◌}
use Prim.Native.Nat.{ℕ, ◌+◌, ◌-◌, ◌≤◌}
use native.Mathlib.Omega.{arith}
use mathlib.Core.Bool.{Bool, true, false}
use mathlib.Core.List.{List, [], ◌∷◌, ◌++◌, map-append}
use lib.ListN.{length, take, drop, take-append-drop, length-drop}
use lib.Dec.{eqb}
use Rattle.format.specs.Fields.{pick}
use Rattle.format.proofs.Tests.{never}
use Rattle.blocks.specs.Blocks.{lines_from, begun_from, last_line, line_length}
use Rattle.blocks.proofs.Lines.{line-open, lines-append, end-le, next-lines, next-whole}
use Rattle.tally.specs.declared.totals.Totals.{Totals}
use Rattle.std.specs.Prelude.{Ok, Err}
use Rattle.tally.specs.declared.totals.Stopped.{Stopped}
use Rattle.tally.specs.Totals.{Line, totals, rows_in, too_many}
use Rattle.tally.specs.Held.{Taken, held, together, going, stopped, take_line, unless_stopped, take_all}
use Rattle.totals.specs.Program.{answer_to, answers_to, Rest}

-- ---- one after another

still : (r : Taken) → unless_stopped r going ≡ r
still (Ok t) = refl
still (Err s) = refl

pub all_append : (t : Totals) (xs ys : List Line) → take_all t (xs ++ ys) ≡ unless_stopped (take_all t xs) (λ u. take_all u ys)
unfolding take_all
all_append t [] ys = refl
all_append t (x ∷ xs) ys = by (take_line t x) (λ u. all_append u xs ys)
  where
    by : (r : Taken) → ((u : Totals) → take_all u (xs ++ ys) ≡ unless_stopped (take_all u xs) (λ v. take_all v ys))
        → unless_stopped r (λ u. take_all u (xs ++ ys)) ≡ unless_stopped (unless_stopped r (λ u. take_all u xs)) (λ u. take_all u ys)
    by (Ok u) ih = ih u
    by (Err s) ih = refl

one : (t : Totals) (l : Line) → take_all t (l ∷ []) ≡ take_line t l
unfolding take_all
one t l = still (take_line t l)

module _ (t t' : Totals) (xs : List Line) where
  -- going, and stopped
  pub all-going : take_all t xs ≡ going t' → (ys : List Line) → take_all t (xs ++ ys) ≡ take_all t' ys
  all-going e ys = all_append t xs ys ∙ ap (λ (r : Taken). unless_stopped r (λ u. take_all u ys)) e

  pub all-stopped : take_all t xs ≡ stopped t' → (ys : List Line) → take_all t (xs ++ ys) ≡ stopped t'
  all-stopped e ys = all_append t xs ys ∙ ap (λ (r : Taken). unless_stopped r (λ u. take_all u ys)) e

  all_more : take_all t xs ≡ going t' → (l : Line) → take_all t (xs ++ (l ∷ [])) ≡ take_line t' l
  all_more e l = all-going e (l ∷ []) ∙ one t' l

-- ---- one line that is stopped

pub line-stopped : (t : Totals) (l : Line) (s : Stopped) → Err s ≡ take_line t l → take_line t l ≡ stopped s.totals
unfolding take_line
line-stopped t l s e = by (too_many (t.lines + 1) (t.rows + length (rows_in l))) e
  where
    by : (b : Bool) → Err s ≡ pick b (stopped t) (going (together t (held (totals (l ∷ [])))))
        → pick b (stopped t) (going (together t (held (totals (l ∷ []))))) ≡ stopped s.totals
    by true e =
        let f : s.totals ≡ t = cc in
        rw f
    by false e = never (cc)

-- ---- the whole lines of a block

-- those in the first bytes are taken
pub record Onward (before : Totals) (input : List ℕ) (t : Totals) (from : ℕ) : Type 0 where
  pub within : from ≤ length input
  pub whole : begun_from [] (take from input) ≡ []
  pub taken : take_all before (answers_to (lines_from [] (take from input))) ≡ going t

pub onward-first : (before : Totals) (input : List ℕ) → Onward before input before 0
unfolding take_all lines_from begun_from
onward-first before input = record { within = omega arith; whole = refl; taken = refl }

module _ (before t : Totals) (input : List ℕ) (from end : ℕ) (o : Onward before input t from) (is : end ≡ from + line_length (drop from input)) where
  pub ends-le : end ≤ length input
  ends-le = end-le input from end o.within is

  -- no whole line is left
  pub onward-open : end ≡ length input → Rest before input t from end
  onward-open h = record {
    ends = h;
    order = omega (arith, is);
    whole = o.whole;
    begun = line-open (drop from input) (omega (arith, is, h, length-drop from input));
    taken = o.taken;
  }

  module _ (more : end ≡ length input → ⊥) where
    abbrev line : List ℕ
    line = take (end - from) (drop from input)

    next-taken : take_all before (answers_to (lines_from [] (take (end + 1) input))) ≡ take_line t (answer_to line)
    next-taken =
        rw (next-lines input from end o.within is o.whole more, map-append answer_to (lines_from [] (take from input)) (line ∷ []))
        (all_more before t (answers_to (lines_from [] (take from input))) o.taken (answer_to line))

    pub onward-on : (u : Totals) → Ok u ≡ take_line t (answer_to line) → Onward before input u (end + 1)
    onward-on u e = record {
      within = omega (arith, ends-le, more);
      whole = next-whole input from end o.within is o.whole more;
      taken = next-taken ∙ sym e;
    }

    -- the lines after the one that would pass a limit are not taken
    pub onward-stop : (r : Stopped) → Err r ≡ take_line t (answer_to line) → take_all before (answers_to (lines_from [] input)) ≡ stopped r.totals
    onward-stop r e =
        let p = take (end + 1) input in
        let q = drop (end + 1) input in
        let s = all-stopped before r.totals (answers_to (lines_from [] p)) (next-taken ∙ line-stopped t (answer_to line) r e) (answers_to (lines_from (begun_from [] p) q)) in
        ap (λ (i : List ℕ). take_all before (answers_to (lines_from [] i))) (sym (take-append-drop (end + 1) input))
        ∙ rw (lines-append [] p q, map-append answer_to (lines_from [] p) (lines_from (begun_from [] p) q)) s

-- ---- the last line

pub last_none : (before : Totals) (line : List ℕ) → eqb (length line) 0 ≡ true → take_all before (answers_to (last_line line)) ≡ going before
unfolding last_line take_all
last_none before line h = rw h

pub last_one : (before : Totals) (line : List ℕ) → eqb (length line) 0 ≡ false → take_all before (answers_to (last_line line)) ≡ take_line before (answer_to line)
unfolding last_line
last_one before line h = rw h (one before (answer_to line))
