-- What reading and writing a varint at a place of a slice give, by the definitions of `format`.
-- Assumes nothing.
use Rattle.std.specs.Prelude.{◌≡◌, ℕ, ◌+◌, List, ◌++◌, length, take, drop, Result, Ok, Err}
use Rattle.format.specs.Fields.{varint_value, shortest}
use Rattle.format.specs.Parse.{Parsed, end, got, refused, plain, cut, cut_in, varint}
use Rattle.util.specs.declared.varint.Varint.{Varint}
use Rattle.util.specs.declared.varint.VarintError.{VarintError}
use Rattle.util.specs.declared.varint.VarintError.TheVariants.{Cut, TooLong}

-- the value with the place after it; or that the input ends in it, or that its tenth byte is above 1
abbrev pub told : ℕ → Parsed (List ℕ) → Result Varint VarintError
told at (got v rest) = Ok (record { bits = varint_value v; next = at + length v })
told at (refused (plain n)) = Err TooLong
told at (refused (cut n left)) = Err Cut
told at end = Err Cut

-- the varint at a place: a place past the end is empty input
unfoldable pub varint_at : List ℕ → ℕ → Result Varint VarintError
varint_at s at = told at (varint (cut_in 12 (drop at s)) 10 (drop at s))

-- the shortest varint of x was written at a place, and r is the place after it
pub record VarintWritten (x : ℕ) (out : List ℕ) (at : ℕ) (out' : List ℕ) (r : ℕ) : Type 0 where
  pub next : r ≡ at + length (shortest x)
  pub places : out' ≡ take at out ++ shortest x ++ drop (at + length (shortest x)) out
