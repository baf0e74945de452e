-- Positions of ORC's row index in a byte stream (FORMAT.md, "Flags and bytes in batches"): a byte where a byte run begins, how many bytes
-- of what the runs stand for to skip from there, and of booleans how many bits of the next byte. Assumes nothing.
use Rattle.std.specs.Prelude.{◌≡◌, ℕ, ◌+◌, ◌-◌, ◌*◌, ◌/◌, ◌%◌, ◌<◌, List, [], ◌∷◌, length, ltb}
use Rattle.format.specs.Fields.{pick}
use Rattle.format.specs.Booleans.{ByteRun, run_layout, byte_count}
use Rattle.boolean_rle.specs.declared.positions.BytePosition.{BytePosition}
use Rattle.boolean_rle.specs.declared.positions.FlagPosition.{FlagPosition}

abbrev pub byte_at : ℕ → ℕ → BytePosition
byte_at run bytes = record { run = record { bytes = run }; bytes = record { bytes = bytes } }

abbrev pub flag_at : BytePosition → ℕ → FlagPosition
flag_at p bits = record { run = p.run; bytes = p.bytes; bits = bits }

-- how many booleans a position skips, as a whole number
abbrev pub skipped : FlagPosition → ℕ
skipped p = 8 * p.bytes.bytes + p.bits

-- The position m bytes after the byte `at`, where the runs ds begin. It is plain: its bytes are fewer than its run stands for, and after
-- a run that is used up it is the byte after that run.
unfoldable pub past : ℕ → ℕ → List ByteRun → BytePosition
past at m [] = byte_at at m
past at m (d ∷ ds) = pick (ltb m (byte_count d)) (byte_at at m) (past (at + length (run_layout d)) (m - byte_count d) ds)

-- the same for k booleans: the whole bytes, and the bits of the next
abbrev pub past_flags : ℕ → ℕ → List ByteRun → FlagPosition
past_flags at k ds = flag_at (past at (k / 8) ds) (k % 8)

-- the bytes of a plain position, where the runs ds begin
abbrev pub Plain : ℕ → List ByteRun → Type 0
Plain m [] = m ≡ 0
Plain m (d ∷ ds) = m < byte_count d
