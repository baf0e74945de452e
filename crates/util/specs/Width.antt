-- The code of the least table width that holds that many bits.
-- Assumes nothing.
use Rattle.std.specs.Prelude.{◌≡◌, ℕ, ◌<◌, ◌≤◌}
use Rattle.format.specs.Fields.{width, least_width}

pub record LeastCode (bits code : ℕ) : Type 0 where
  pub is_code : code < 32
  pub least : width code ≡ least_width bits
  pub lowest : (c : ℕ) → c < 32 → bits ≤ width c → code ≤ c
