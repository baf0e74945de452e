-- Packed fields, as they are read out of bytes (FORMAT.md, "Packed blocks"). Assumes nothing.
use Rattle.std.specs.Prelude.{◌≡◌, ℕ, ◌+◌, ◌*◌, ◌<◌, ◌≤◌, List, ◌++◌, map, length, take, drop, ℤ}
use Rattle.format.specs.Digits.{number, spread}
use Rattle.format.specs.Fields.{bytes_for, block_bytes}
use Rattle.format.specs.Rows.{as_i64}
use Rattle.format.specs.Parse.{unpack}

-- the n fields of width w that s begins with
abbrev pub fields : ℕ → ℕ → List ℕ → List ℕ
fields w n s = (unpack w n (number 256 (take (bytes_for (n * w)) s))).values

-- the w bits of s from bit p on, highest bit of each byte first, as a number
unfoldable pub bits : ℕ → ℕ → List ℕ → ℕ
bits p w s = number 2 (take w (drop p (spread 2 8 s)))

-- field k of width w is bits k·w to k·w+w-1
abbrev pub field_at : ℕ → ℕ → List ℕ → ℕ
field_at w k s = bits (k * w) w s

-- a width of the table is such that eight bytes hold a field wherever it starts: above 56 bits only 64 will do
abbrev pub Width : ℕ → Type 0
Width w = (0 < w) × (w ≤ 64) × (56 < w → w ≡ 64)

-- n fields of width w are there, and places for them
pub record Room (w n : ℕ) (s : List ℕ) (out : List ℤ) : Type 0 where
  pub places : n ≤ length out
  pub there : bytes_for (n * w) ≤ length s

-- the first k of the n fields that s begins with stand as rows in out, whose other places are those of o
pub record FieldsLaid (w n : ℕ) (s : List ℕ) (k : ℕ) (o out : List ℤ) : Type 0 where
  pub few : k ≤ n
  pub rows : out ≡ map as_i64 (take k (fields w n s)) ++ drop k o

-- if k fields stand in out, m stand in out'
abbrev pub Lays : ℕ → List ℕ → ℕ → ℕ → List ℤ → List ℤ → Type 0
Lays w s k m out out' = (n : ℕ) (o : List ℤ) → m ≤ n → bytes_for (n * w) ≤ length s → FieldsLaid w n s k o out → FieldsLaid w n s m o out'

-- bytes with a block of n fields of width w at `at`, with zero padding, and around it what stood there
abbrev pub packed_at : ℕ → ℕ → List ℕ → ℕ → List ℕ → List ℕ
packed_at w n vs at out = take at out ++ block_bytes w n (record { values = vs; pad = 0 }) ++ drop (at + bytes_for (n * w)) out
