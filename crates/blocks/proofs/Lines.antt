-- Lines of an input, one by one: where they end, and which they are. Assumes nothing.
use Rattle.std.proofs.Common.{◌≡◌, ℕ, suc, ◌+◌, ◌-◌, ◌<◌, ◌≤◌, Bool, true, false, eqb, List, [], ◌∷◌, ◌++◌, length, get_or, take, drop, refl, ◌∙◌, append_assoc, append-nil, arith, length-drop, take-add, eq-eqb, ne_eqb}
use Rattle.format.proofs.Reading.{byte-here}
use Rattle.format.specs.Fields.{pick}
use Rattle.blocks.specs.Blocks.{lines_from, begun_from, line_length, NoNewline}
use Rattle.blocks.proofs.Begun.{begun-append}

pub line-le : (s : List ℕ) → line_length s ≤ length s
unfolding line_length
line-le [] = omega arith
line-le (c ∷ s) = by (eqb c 10) (line-le s)
  where
    by : (t : Bool) → line_length s ≤ length s → pick t 0 (suc (line_length s)) ≤ suc (length s)
    by true h = omega arith
    by false h = omega arith

-- a line and its newline
pub line-whole : (line s : List ℕ) → line_length s < length s
    → (lines_from line (take (suc (line_length s)) s) ≡ (line ++ take (line_length s) s) ∷ []) × (begun_from line (take (suc (line_length s)) s) ≡ [])
unfolding line_length lines_from begun_from
line-whole line [] h = absurd (omega arith)
line-whole line (c ∷ s) h = by (eqb c 10) h (line-whole (line ++ (c ∷ [])) s)
  where
    by : (t : Bool) → pick t 0 (suc (line_length s)) < suc (length s)
        → (line_length s < length s → (lines_from (line ++ (c ∷ [])) (take (suc (line_length s)) s) ≡ ((line ++ (c ∷ [])) ++ take (line_length s) s) ∷ [])
        × (begun_from (line ++ (c ∷ [])) (take (suc (line_length s)) s) ≡ []))
        → (pick t (line ∷ lines_from [] (take (pick t 0 (suc (line_length s))) s)) (lines_from (line ++ (c ∷ [])) (take (pick t 0 (suc (line_length s))) s))
        ≡ (line ++ take (pick t 0 (suc (line_length s))) (c ∷ s)) ∷ [])
        × (pick t (begun_from [] (take (pick t 0 (suc (line_length s))) s)) (begun_from (line ++ (c ∷ [])) (take (pick t 0 (suc (line_length s))) s)) ≡ [])
    by true h f = (rw (append-nil line), refl)
    by false h f = let (a, b) = f (omega arith) in (a ∙ rw (append_assoc line (c ∷ []) (take (line_length s) s)), b)

-- a line that has no newline yet
pub line-open : (s : List ℕ) → length s ≤ line_length s → NoNewline s
unfolding line_length
line-open [] h = tt
line-open (c ∷ s) h = by (eqb c 10) h (line-open s)
  where
    by : (t : Bool) → suc (length s) ≤ pick t 0 (suc (line_length s)) → (length s ≤ line_length s → NoNewline s) → (t ≡ false) × NoNewline s
    by true h f = absurd (omega arith)
    by false h f = (refl, f (omega arith))

-- the line that begins at a place: its newline is there, or a byte that is none
module _ (s : List ℕ) (i : ℕ) (h : i < length s) where
  pub newline-here : get_or s i 0 ≡ 10 → line_length (drop i s) ≡ 0
  unfolding line_length
  newline-here e = rw (byte-here s i h, eq-eqb (get_or s i 0) 10 e)

  pub newline-later : (get_or s i 0 ≡ 10 → ⊥) → line_length (drop i s) ≡ suc (line_length (drop (i + 1) s))
  unfolding line_length
  newline-later n = rw (byte-here s i h, ne_eqb (get_or s i 0) 10 n)

-- ---- the lines of two parts

pub lines-append : (line a b : List ℕ) → lines_from line (a ++ b) ≡ lines_from line a ++ lines_from (begun_from line a) b
unfolding lines_from begun_from
lines-append line [] b = refl
lines-append line (c ∷ a) b = by (eqb c 10) (lines-append [] a b) (lines-append (line ++ (c ∷ [])) a b)
  where
    by : (t : Bool) → lines_from [] (a ++ b) ≡ lines_from [] a ++ lines_from (begun_from [] a) b
        → lines_from (line ++ (c ∷ [])) (a ++ b) ≡ lines_from (line ++ (c ∷ [])) a ++ lines_from (begun_from (line ++ (c ∷ [])) a) b
        → pick t (line ∷ lines_from [] (a ++ b)) (lines_from (line ++ (c ∷ [])) (a ++ b))
        ≡ pick t (line ∷ lines_from [] a) (lines_from (line ++ (c ∷ [])) a) ++ lines_from (pick t (begun_from [] a) (begun_from (line ++ (c ∷ [])) a)) b
    by true e f = rw e
    by false e f = f

-- where no newline stands no line ends
pub lines-open : (line s : List ℕ) → NoNewline s → lines_from line s ≡ []
unfolding lines_from
lines-open line [] h = refl
lines-open line (c ∷ s) h = rw h.0 (lines-open (line ++ (c ∷ [])) s h.1)

-- the lines in the first bytes, and the one after them, which a newline ends
module _ (input : List ℕ) (from end : ℕ) (w : from ≤ length input) (is : end ≡ from + line_length (drop from input)) where
  pub end-le : end ≤ length input
  end-le = omega (arith, line-le (drop from input), length-drop from input)

  module _ (whole : begun_from [] (take from input) ≡ []) (more : end ≡ length input → ⊥) where
    next-is : (lines_from [] (take (end + 1) input) ≡ lines_from [] (take from input) ++ (take (end - from) (drop from input) ∷ []))
        × (begun_from [] (take (end + 1) input) ≡ [])
    next-is =
        let n = line_length (drop from input) in
        let (a, b) = line-whole [] (drop from input) (rw length-drop (omega (arith, end-le))) in
        let e : end - from ≡ n = omega arith in
        let z : end + 1 ≡ from + suc n = omega arith in
        let p = take from input in
        let q = take (suc n) (drop from input) in (
          rw (z, take-add from (suc n) input, lines-append [] p q, whole, a, e),
          rw (z, take-add from (suc n) input, begun-append [] p q, whole, b),
        )

    pub next-lines : lines_from [] (take (end + 1) input) ≡ lines_from [] (take from input) ++ (take (end - from) (drop from input) ∷ [])
    next-lines = next-is.0

    pub next-whole : begun_from [] (take (end + 1) input) ≡ []
    next-whole = next-is.1
