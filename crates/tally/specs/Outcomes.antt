-- Any two answers that a promise of `sums` or `totals` allows are equal: no
-- function there lends a place. (Of `text`: `ShowDetermined` in specs/Text.antt.)
-- Assumes nothing.
use Rattle.std.specs.Prelude.{◌≡◌, ◌<◌, Bool, List, ℤ, unsigned_abs, Option}
use Rattle.format.specs.Answers.{Answer}
use Rattle.format.specs.Fields.{two64}
use Rattle.tally.specs.declared.sums.Wide.{Wide}
use Rattle.tally.specs.declared.sums.Tenth.{Tenth}
use Rattle.tally.specs.declared.totals.Reply.{Reply}
use Rattle.tally.specs.declared.totals.Totals.{Totals}
use Rattle.tally.specs.Totals.{lower, higher, of_two, empty}
use Rattle.tally.specs.Wide.{wide_of, wide_value, size_of, is_negative, IsTenth, add_wide}
use Rattle.tally.specs.Held.{Taken, line_with, reply_to, held, combined, take_line}

-- both words are of 64 bits, as every u64 is
pub record OfWide (w : Wide) : Type 0 where
  pub high : w.high < two64
  pub low : w.low < two64

-- any two that satisfy a promise are equal
abbrev pub One : (A : Type 0) → (A → Type 0) → Type 0
One A P = (r r' : A) → P r → P r' → r ≡ r'

-- a field for each function
pub record TallyDetermined : Type 0 where
  -- of `Wide`: `of_row`, `plus`, `is_negative`, `size`, `tenth`
  pub of_row : (row : ℤ) → One Wide (λ r. r ≡ wide_of row)
  pub plus : (w v : Wide) → One Wide (λ r. r ≡ add_wide w v)
  pub is_negative : (w : Wide) → One Bool (λ r. r ≡ is_negative (wide_value w))
  pub size : (w : Wide) → One Wide (λ r. OfWide r × (size_of r ≡ unsigned_abs (wide_value w)))
  pub tenth : (w : Wide) (r r' : Tenth) → OfWide r.quotient × IsTenth (size_of w) (size_of r.quotient) r.digit
      → OfWide r'.quotient × IsTenth (size_of w) (size_of r'.quotient) r'.digit → r ≡ r'
  -- of two rows or none: `lower`, `higher`; of `Reply`: `to`
  pub lower_of : (a b : Option ℤ) → One (Option ℤ) (λ r. r ≡ of_two lower a b)
  pub higher-of : (a b : Option ℤ) → One (Option ℤ) (λ r. r ≡ of_two higher a b)
  pub to : (a : Answer) → One Reply (λ r. r ≡ reply_to a)
  -- of `Totals`: `empty`, `combine`, `take`
  pub none : One Totals (λ r. r ≡ held empty)
  pub combine : (t u : Totals) → One Taken (λ r. r ≡ combined t u)
  pub take : (t : Totals) (reply : Reply) (rows : List ℤ) → One Taken (λ r. r ≡ take_line t (line_with reply rows))
