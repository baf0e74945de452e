-- What was written, read back by the readers in batches: whoever meets the promise of `read_bytes` or of `read_flags`, from the first
-- byte of what was written on and wherever in an input that stands, gives exactly the bytes, or the flags as 0 and 1, and the position
-- after them. Assumes nothing.
use Rattle.std.specs.Prelude.{◌≡◌, ℕ, ◌+◌, ◌≤◌, List, ◌++◌, map, length, drop, Ok}
use Rattle.format.specs.Digits.{AllBelow}
use Rattle.boolean_rle.specs.Positions.{byte_at, flag_at, past_flags}
use Rattle.boolean_rle.specs.Batches.{ByteBatch, FlagBatch, BytesGiven, FlagsGiven}
use Rattle.byte_writer.specs.Choice.{runs_of, written}
use Rattle.byte_writer.specs.Flags.{bit, flag_bytes}

-- all bytes of what was written are taken: the position after is the byte after its last
abbrev pub BytesReadBack : Type 0
BytesReadBack =
    (bs front rest out out' : List ℕ) (r : ByteBatch) → AllBelow 256 bs → length bs ≤ length out
    → BytesGiven (front ++ (written bs ++ rest)) (byte_at (length front) 0) (length bs) out out' r
    → (r ≡ Ok (record { rows = record { rows = length bs }; next = byte_at (length front + length (written bs)) 0 }))
    × (out' ≡ bs ++ drop (length bs) out)

-- the position after is that of the flag after the last: where the flags do not fill their last byte, it is in that byte
abbrev pub FlagsReadBack : Type 0
FlagsReadBack =
    (fs front rest out out' : List ℕ) (r : FlagBatch) → length fs ≤ length out
    → FlagsGiven (front ++ (written (flag_bytes fs) ++ rest)) (flag_at (byte_at (length front) 0) 0) (length fs) out out' r
    → (r ≡ Ok (record { rows = record { rows = length fs }; next = past_flags (length front) (length fs) (runs_of (flag_bytes fs)) }))
    × (out' ≡ map bit fs ++ drop (length fs) out)
