-- Lines of an input, one by one: where they end, and their answers in the bytes that were lent.
-- Assumes nothing.
use Rattle.std.proofs.Common.{◌≡◌, ℕ, suc, ◌+◌, ◌-◌, ◌<◌, ◌≤◌, List, [], ◌++◌, length, take, drop, sym, refl, ap, ◌∙◌, append-nil, arith, length-append, length-drop, take-add, le-ltb}
use Rattle.lines.specs.Line.{answer_line, Answered}
use Rattle.util.proofs.Grow.{back_is, front-is, kept_by, long-by}
use Rattle.blocks.specs.Blocks.{lines_from, begun_from, line_length}
use Rattle.blocks.proofs.Begun.{begun-append}
use Rattle.blocks.proofs.Lines.{line-le, line-whole, line-open}
use Rattle.runs.specs.Program.{answered, answers_to, answers_from, Cut}
use Rattle.runs.proofs.Blocks.{answers-append}

-- a line and its newline
line-answer : (line s : List ℕ) → line_length s < length s
    → (answers_from line (take (suc (line_length s)) s) ≡ answered (line ++ take (line_length s) s)) × (begun_from line (take (suc (line_length s)) s) ≡ [])
unfolding answers_to
line-answer line s h = let (a, b) = line-whole line s h in (ap answers_to a ∙ append-nil (answered (line ++ take (line_length s) s)), b)

-- an answer line stands within the bytes that were lent
pub answered-le : (line out out' : List ℕ) (r : ℕ) → Answered line out out' r → r ≤ length out'
answered-le line out out' r a =
    let t = answer_line (length out) line in
    omega (arith, a.count, ap length a.places, length-append t (drop (length t) out))

-- ---- answering a block line by line

-- the lines in the first bytes taken are answered
pub record Going (input out₀ out : List ℕ) (taken written : ℕ) : Type 0 where
  pub within : taken ≤ length input
  pub fits : written ≤ length out₀
  pub long : length out ≡ length out₀
  pub whole : begun_from [] (take taken input) ≡ []
  pub text : take written out ≡ answers_from [] (take taken input)
  pub rest : drop written out ≡ drop written out₀
  pub some : taken ≡ 0 → written ≡ 0

module _ (input out₀ : List ℕ) where
  pub going-first : Going input out₀ out₀ 0 0
  unfolding answers_to lines_from begun_from
  going-first = record { within = omega arith; fits = omega arith; long = refl; whole = refl; text = refl; rest = refl; some = λ e. refl }

  module _ (out : List ℕ) (taken written : ℕ) (g : Going input out₀ out taken written) where
    -- no room for an answer
    pub going-full : length out - written < 11310 → Cut input out₀ out taken written
    going-full h = record {
      within = g.within;
      fits = g.fits;
      whole = g.whole;
      text = g.text;
      rest = g.rest;
      some = g.some;
      all = λ l. absurd (omega (arith, g.long, g.fits));
    }

    module _ (end : ℕ) (is : end ≡ taken + line_length (drop taken input)) where
      -- no whole line
      pub going-open : end ≡ length input → Cut input out₀ out taken written
      going-open h = record {
        within = g.within;
        fits = g.fits;
        whole = g.whole;
        text = g.text;
        rest = g.rest;
        some = g.some;
        all = λ l. line-open (drop taken input) (rw length-drop (omega arith));
      }

      pub end-le : end ≤ length input
      end-le = omega (arith, line-le (drop taken input), length-drop taken input, g.within)

      -- a line, and its answer in the bytes that were lent from `written` on
      module _ (whole : end ≡ length input → ⊥) (room : 11310 ≤ length out - written) (part : List ℕ) (r : ℕ) (l : length part ≡ length (drop written out))
          (a : Answered (take (end - taken) (drop taken input)) (drop written out) part r) where
        abbrev line : List ℕ
        line = take (end - taken) (drop taken input)

        answer-is : answer_line (length (drop written out)) line ≡ answered line
        unfolding answer_line
        answer-is = rw (le-ltb (length (drop written out)) 11310 (rw length-drop (omega arith)))

        count-is : length (answered line) ≡ r
        count-is = sym (rw answer-is at a.count)

        part-is : part ≡ answered line ++ drop r (drop written out)
        part-is = rw count-is at (rw answer-is at a.places)

        pub answer-fits : written + r ≤ length out
        answer-fits =
            omega (arith, l, ap length part-is, length-append (answered line) (drop r (drop written out)), count-is, length-drop r (drop written out), length-drop written out)

        -- the lines that were taken before, and this one
        taken-are : (answers_from [] (take (end + 1) input) ≡ answers_from [] (take taken input) ++ answered line) × (begun_from [] (take (end + 1) input) ≡ [])
        taken-are =
            let n = line_length (drop taken input) in
            let (a, b) = line-answer [] (drop taken input) (rw length-drop (omega (arith, end-le))) in
            let e : end - taken ≡ n = omega arith in
            let z : end + 1 ≡ taken + suc n = omega arith in
            let p = take taken input in
            let q = take (suc n) (drop taken input) in (
              rw (z, take-add taken (suc n) input, answers-append [] p q, g.whole, a, e),
              rw (z, take-add taken (suc n) input, begun-append [] p q, g.whole, b),
            )

        pub going_on : Going input out₀ (take written out ++ (part ++ drop (length out - written) (drop written out))) (end + 1) (written + r)
        going_on =
            let out' = take written out ++ (part ++ drop (length out - written) (drop written out)) in
            let e : out' ≡ (take written out ++ answered line) ++ drop (written + r) out = back_is out part (answered line) written r part-is in
            let h : written ≤ length out = omega (arith, g.fits, g.long) in
            record {
              within = omega (arith, end-le);
              fits = omega (arith, answer-fits, g.long);
              long = long-by out out' (answered line) written r h count-is e answer-fits ∙ g.long;
              whole = taken-are.1;
              text = front-is out out' (answered line) written r h count-is e ∙ rw (g.text, taken-are.0);
              rest = kept_by out out' (answered line) written r h count-is e out₀ g.rest;
              some = λ z. absurd (omega arith);
            }
