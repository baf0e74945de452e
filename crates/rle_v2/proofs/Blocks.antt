-- The fields of a block that stands in a slice. Assumes nothing.
use mathlib.Core.Path.{◌≡◌, ◌∙◌}
use Prim.Native.Nat.{ℕ, ◌^◌, ◌≤◌}
use native.Mathlib.Nat.{lt_of_lt_of_le}
use mathlib.Core.List.{List, [], ◌∷◌, map}
use lib.ListN.{length, length-map}
use lib.Pow.{pow_pos, pow_mono}
use Rattle.format.specs.Digits.{AllBelow, digits}
use Rattle.format.specs.Fields.{two64, bytes_for}
use Rattle.format.proofs.Digits.{length_digits, digits-below}
use Rattle.format.specs.Fields as Fields
use Rattle.format.specs.Rows.{as_i64}
use Rattle.format.proofs.Reading.{block_at}
use Rattle.format.proofs.Widths.{IsWidth, width_is, least-is}
use Rattle.util.specs.Packed.{Width}

-- a block's fields are patterns, as many as it says
pub block-count : (s : List ℕ) (p w n : ℕ) → length (block_at s p w n).values ≡ n
block-count s p w n = length_digits (2 ^ w) n _

pub block-rows : (s : List ℕ) (p w n : ℕ) → length (map as_i64 (block_at s p w n).values) ≡ n
block-rows s p w n = length-map (block_at s p w n).values as_i64 ∙ block-count s p w n

pub block-patterns : (s : List ℕ) (p w n : ℕ) → w ≤ 64 → AllBelow two64 (block_at s p w n).values
block-patterns s p w n h = wider (digits (2 ^ w) n _) (digits-below (2 ^ w) (pow_pos w) n _)
  where
    wider : (l : List ℕ) → AllBelow (2 ^ w) l → AllBelow two64 l
    wider [] b = tt
    wider (x ∷ l) b = (lt_of_lt_of_le b.0 (pow_mono h), wider l b.1)

-- the widths of the table, as the unpacking asks for them
pub for-unpack : {w : ℕ} → IsWidth w → Width w
for-unpack h = (h.pos, h.le, h.window)

pub code-width : (code : ℕ) → Width (Fields.width code)
code-width code = for-unpack (width_is code)

pub entry-width : (bits : ℕ) → Width (Fields.least_width bits)
entry-width bits = for-unpack (least-is bits)

-- a block of a run is small
