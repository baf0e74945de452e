-- What both delta forms begin with: the header, the first row and the base delta.
-- Assumes nothing.
use Rattle.std.specs.Prelude.{◌≡◌, ℕ, ◌+◌, ◌≤◌, List, ◌++◌, length, drop}
use Rattle.format.specs.Fields.{shortest}
use Rattle.format.specs.Runs.{head}

unfoldable pub start : ℕ → ℕ → ℕ → ℕ → List ℕ
start code rows first base = head 3 code rows ++ (shortest first ++ shortest base)

-- the bytes stand in the first places, the others are as they were, and r is the place after them
pub record Started (bytes out out' : List ℕ) (r : ℕ) : Type 0 where
  pub next : r ≡ length bytes
  pub places : out' ≡ bytes ++ drop (length bytes) out

-- its bytes, of a first row and a base delta: a varint has ten at most
pub record StartSize (first base r : ℕ) : Type 0 where
  pub bytes : r ≡ 2 + length (shortest first) + length (shortest base)
  pub few : r ≤ 22
