-- For the functions of the code: the pass that lays the rows of a column.
-- Assumes nothing.
use Rattle.std.specs.Prelude.{◌≡◌, ℕ, ◌≤◌, List, ◌++◌, length, drop, get_or, ℤ, pos}
use Rattle.format.specs.Fields.{pick}
use Rattle.labels.specs.Labels.{size, size_of, is_name}
use Rattle.labels.specs.Column.{good_rows, offsets_from, starts_of, sizes_of}
use Rattle.labels.specs.declared.Name.{Name}

-- the name of a row whose number is at this place: where it begins, as the offsets have it, and its length; 0 and 0 if it has none
abbrev pub name_in : ℕ → List ℤ → ℕ → List ℤ → List ℕ → Name
name_in flag numbers at lengths offsets = record {
  start = record { bytes = pick (is_name flag) (get_or offsets (size (get_or numbers at (pos 0))) 0) 0 };
  size = record { bytes = pick (is_name flag) (size_of lengths (size (get_or numbers at (pos 0)))) 0 };
}

-- what stands ready when the rows are laid: every named row has its number, the offsets are there, and there are places
pub record RowsReady (flags : List ℕ) (numbers lengths : List ℤ) (offsets : List ℕ) (starts sizes : ℕ) : Type 0 where
  pub good : good_rows lengths flags numbers ≡ length flags
  pub begins : (rest : List ℕ) × (offsets ≡ offsets_from 0 lengths ++ rest)
  pub in-starts : length flags ≤ starts
  pub in-sizes : length flags ≤ sizes

-- the starts and the sizes at exit
pub record RowsLaid (flags : List ℕ) (numbers lengths : List ℤ) (starts sizes starts' sizes' : List ℕ) : Type 0 where
  pub starts-are : starts' ≡ starts_of lengths flags numbers ++ drop (length flags) starts
  pub sizes-are : sizes' ≡ sizes_of lengths flags numbers ++ drop (length flags) sizes
