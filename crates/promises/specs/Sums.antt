-- The user's third question: sums past 64 bits. Each row of a delta or patched run is the whole-number sum that FORMAT.md names, modulo
-- 2^64. (Rows here are numbers below 2^64; what comes out is the i64 with the same bits.)
-- Assumes nothing.
use Rattle.std.specs.Prelude.{◌≡◌, ℕ, suc, ◌+◌, ◌-◌, ◌*◌, ◌%◌, ◌^◌, ◌<◌, ◌≤◌, Bool, List, length, get_or, take}
use Rattle.format.specs.Digits.{number, sum}
use Rattle.format.specs.Fields.{two64, zigzag, row, width, Block, Varint, varint_value}
use Rattle.format.specs.Runs.{fixed, delta, patched, Valid, patches}
use Rattle.format.specs.Rows.{rows_of, base_value, patch_at}

-- the first row (zigzag if signed) and the base delta (zigzag always)
abbrev pub first_row : Bool → List ℕ → ℕ
first_row signed first = row signed (varint_value first)

abbrev pub first_step : List ℕ → ℕ
first_step base = zigzag (varint_value base)

pub record Sums : Type 0 where
  -- a varint drops no bits: its number is below 2^64
  pub varint-number : (v : List ℕ) → Varint 10 v → varint_value v < two64
  -- fixed delta: row i is first + i·delta
  pub fixed-row : (signed : Bool) (rows : ℕ) (first base : List ℕ) (i : ℕ) → Valid (fixed rows first base) → i < rows
      → get_or (rows_of signed (fixed rows first base)) i 0 ≡ (first_row signed first + i * first_step base) % two64
  -- packed delta: row 0 is first ..
  pub first-row : (signed : Bool) (code : ℕ) (first base : List ℕ) (k : Block) → Valid (delta code first base k)
      → get_or (rows_of signed (delta code first base k)) 0 0 ≡ first_row signed first
  -- .. and row i + 1 is first + base delta + the sum of the first i magnitudes, when the base delta is not below 0 ..
  pub rising-row : (signed : Bool) (code : ℕ) (first base : List ℕ) (k : Block) (i : ℕ)
      → Valid (delta code first base k) → i ≤ length k.values
      → first_step base < 2 ^ 63
      → get_or (rows_of signed (delta code first base k)) (suc i) 0
      ≡ (first_row signed first + first_step base + sum (take i k.values)) % two64
  -- .. and when it is below 0, first + base delta - that sum: the row with the sum added again is first + base delta
  pub falling-row : (signed : Bool) (code : ℕ) (first base : List ℕ) (k : Block) (i : ℕ)
      → Valid (delta code first base k) → i ≤ length k.values
      → 2 ^ 63 ≤ first_step base
      → (get_or (rows_of signed (delta code first base k)) (suc i) 0 + sum (take i k.values)) % two64
      ≡ (first_row signed first + first_step base) % two64
  -- patched: row p is base + value p + patch·2^W, the patch being 0 where no entry names p; under either flag
  pub patched-row : (signed : Bool) (code : ℕ) (base : List ℕ) (pc gw : ℕ) (k l : Block) (p : ℕ) → p < length k.values
      → get_or (rows_of signed (patched code base pc gw k l)) p 0
      ≡ (base_value base + (get_or k.values p 0 + patch_at p (patches (width pc) l.values) * 2 ^ width code)) % two64
  -- its base: the number that its bytes write, or, if the top bit is set, minus the rest
  pub base_above : (base : List ℕ) → number 256 base < 2 ^ (8 * length base - 1) → base_value base ≡ number 256 base
  pub base-below : (base : List ℕ) → 1 ≤ length base → length base ≤ 8 → 2 ^ (8 * length base - 1) ≤ number 256 base
      → (base_value base + number 256 base % 2 ^ (8 * length base - 1)) % two64 ≡ 0
