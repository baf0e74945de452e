-- READS, COUNTED: how often was read, and how many bytes came. No contract can name what the system read; what these say is that there was
-- a read, and how much came by it.
-- Assumes nothing.
use Rattle.std.specs.Prelude.{◌≡◌, ℕ, ◌+◌, ◌%◌, min, Bool, false, not, List, [], ◌∷◌, ◌++◌, length, ℤ, pos, negsuc}
use Rattle.blocks.specs.Blocks.{came, not_ready, Came, joined_blocks}
use Rattle.blocks.specs.declared.reading.Reads.{Reads}
use Rattle.blocks.specs.declared.reading.Read.{Read}

abbrev pub no_reads : Reads
no_reads = record { count = 0; bytes = 0; got = pos 0; error = pos 0 }

-- one more, up to the largest u64, 2^64 - 1
abbrev pub counted : ℕ → ℕ
counted n = min (n + 1) 18446744073709551615

-- a number of bytes as a u64 holds it: modulo 2^64
abbrev pub in_word : ℕ → ℕ
in_word n = n % 18446744073709551616

-- the reads with one more, that the system answered so
abbrev pub one_more : Reads → ℤ → ℤ → Reads
one_more reads got error = record { count = counted reads.count; bytes = in_word (reads.bytes + came got); got = got; error = error }

-- ONE READ MORE, that a line's beginning was left for
pub record ReadOnce (before : Reads) (line input : List ℕ) (r : Read) : Type 0 where
  pub came : Came line input r.held r.stop r.got
  pub reads : r.reads ≡ one_more before r.got r.error

-- the last read failed, and not for an input that was not ready
unfoldable pub is_broken : ℤ → ℤ → Bool
is_broken (pos n) error = false
is_broken (negsuc n) error = not (not_ready error)

-- THE BLOCKS THAT READS BROUGHT: one a read, empty where it failed or found the end, and as many bytes in all as came
pub record Brought (reads : Reads) (blocks : List (List ℕ)) : Type 0 where
  pub each : reads.count ≡ length blocks
  pub bytes : reads.bytes ≡ in_word (length (joined_blocks blocks))

-- THE WHOLE INPUT: the last read found its end
pub record BroughtAll (reads : Reads) (blocks : List (List ℕ)) : Type 0 where
  pub end : reads.got ≡ pos 0
  pub brought : Brought reads (blocks ++ ([] ∷ []))
