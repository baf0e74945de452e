-- The user's first question: does each bit width work, at each run length? For every width code and every length the layout of any values,
-- with any padding bits, is read back as those values, under both flags.
-- The rows of delta and patched runs are given as sums in specs/Sums.antt.
-- Assumes nothing.
use Rattle.std.specs.Prelude.{◌≡◌, ℕ, ◌+◌, ◌<◌, ◌≤◌, Bool, not, List, ◌++◌, map, length, drop, replicate, T, ℤ}
use Rattle.format.specs.Answers.{Answer, ran}
use Rattle.format.specs.Digits.{AllBelow, number}
use Rattle.format.specs.Fields.{width, row, Block, IsBlock, Varint}
use Rattle.format.specs.Runs.{Description, short, direct, fixed, delta, patched, row_count, layout, patches, too_large, out_of_place}
use Rattle.format.specs.Runs.{entry_width}
use Rattle.format.specs.Rows.{as_i64, i64_rows}
use Rattle.format.specs.Promises.{kind_of, width_of, RunRead}

-- the run is read back as these rows: wherever its bytes stand, whatever follows them, and with any places that have room for it
abbrev pub ReadBack : Description → (Bool → List ℤ) → Type 0
ReadBack d rows =
    (input : List ℕ) (at : ℕ) (signed : Bool) (out out' : List ℤ) (r : Answer) → RunRead input at signed out out' r
    → (rest : List ℕ) → drop at input ≡ layout d ++ rest → row_count d ≤ length out
    → (r ≡ ran (kind_of d) (width_of d) (row_count d) (length (layout d))) × (out' ≡ rows signed ++ drop (row_count d) out)

pub record EachWidth : Type 0 where
  -- short repeat: each size from 1 to 8 bytes, each count from 3 to 10
  pub short-runs : (count : ℕ) (value : List ℕ) → 3 ≤ count → count ≤ 10 → 1 ≤ length value → length value ≤ 8 → AllBelow 256 value
      → ReadBack (short count value) (λ signed. replicate count (as_i64 (row signed (number 256 value))))
  -- direct: each code from 0 to 31, each length from 1 to 512
  pub direct-runs : (code : ℕ) (k : Block) → code < 32 → 1 ≤ length k.values → length k.values ≤ 512
      → IsBlock (width code) (length k.values) k
      → ReadBack (direct code k) (λ signed. map (λ v. as_i64 (row signed v)) k.values)
  -- fixed delta: each length from 1 to 512
  pub fixed-runs : (rows : ℕ) (first base : List ℕ) → 1 ≤ rows → rows ≤ 512 → Varint 10 first → Varint 10 base
      → ReadBack (fixed rows first base) (λ signed. i64_rows signed (fixed rows first base))
  -- packed delta: each code from 1 to 31, each length from 2 to 512
  pub delta-runs : (code : ℕ) (first base : List ℕ) (k : Block) → 1 ≤ code → code < 32 → length k.values + 2 ≤ 512
      → Varint 10 first → Varint 10 base → IsBlock (width code) (length k.values) k
      → ReadBack (delta code first base k) (λ signed. i64_rows signed (delta code first base k))
  -- patched: each code, each length from 1 to 512, each base of 1 to 8 bytes, each patch code and gap width that refusal 2 leaves, each
  -- list of up to 31 entries whose patches fit and that is not out of place
  pub patched-runs : (code : ℕ) (base : List ℕ) (pc gw : ℕ) (k l : Block) → code < 32 → 1 ≤ length k.values → length k.values ≤ 512
      → 1 ≤ length base → length base ≤ 8 → AllBelow 256 base → pc < 32 → 1 ≤ gw → gw ≤ 8 → length l.values < 32
      → width pc + gw ≤ 64
      → IsBlock (width code) (length k.values) k → IsBlock (entry_width pc gw) (length l.values) l
      → T (not (too_large (width code) (patches (width pc) l.values)))
      → T (not (out_of_place (width pc) (length k.values) l.values))
      → ReadBack (patched code base pc gw k l) (λ signed. i64_rows signed (patched code base pc gw k l))
