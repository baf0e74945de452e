-- What is promised of a proposal: it has no more runs than each of the five columns has places. Which runs they are is not: what is proposed is checked
-- where it is taken up.
-- Assumes nothing.
use Rattle.std.specs.Prelude.{ℕ, ◌≤◌, List, length}

-- r runs, for columns of first rows, rows, forms, widths and bases
pub record Proposed (first counts forms widths bases : List ℕ) (r : ℕ) : Type 0 where
  pub in-first : r ≤ length first
  pub in-counts : r ≤ length counts
  pub in-forms : r ≤ length forms
  pub in-widths : r ≤ length widths
  pub in-bases : r ≤ length bases
