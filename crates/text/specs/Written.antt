-- A text that was written into the caller's buffer.
-- Assumes nothing.
use Rattle.std.specs.Prelude.{◌≡◌, ℕ, ◌+◌, List, ◌++◌, length, take, drop}

-- the text stands at the place, r is the place after it, and the other bytes keep their content
pub record TextWritten (text out : List ℕ) (at : ℕ) (out' : List ℕ) (r : ℕ) : Type 0 where
  pub next : r ≡ at + length text
  pub places : out' ≡ (take at out ++ text) ++ drop (at + length text) out
