-- The longest run: a reader that holds one unfinished run holds at most 4,356 bytes, and no fewer would do.
-- Assumes nothing.
use Rattle.std.specs.Prelude.{◌≡◌, ◌≤◌, length}
use Rattle.format.specs.Runs.{Description, Valid, layout}

pub record Longest : Type 0 where
  pub no_longer : (d : Description) → Valid d → length (layout d) ≤ 4356
  pub reached : (d : Description) × Valid d × (length (layout d) ≡ 4356)
