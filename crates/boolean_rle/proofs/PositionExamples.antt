-- Batches of a small column, by computation: the literal bytes 44 45, and three copies of F0. Assumes nothing.
use mathlib.Core.Path.{◌≡◌, refl}
use Prim.Native.Nat.{ℕ}
use mathlib.Core.List.{List, [], ◌∷◌}
use Rattle.format.specs.Digits.{digits}
use Rattle.format.specs.Parse.{cut, bytes}
use Rattle.format.specs.Booleans.{run_layout, run_bytes, byte_count, joined_bytes, booleans_of, repeat_run, byte_run, byte_runs, booleans}
use Rattle.boolean_rle.specs.declared.positions.BytePosition.{BytePosition}
use Rattle.boolean_rle.specs.declared.positions.FlagPosition.{FlagPosition}
use Rattle.boolean_rle.specs.Positions.{byte_at, flag_at, past}
use Rattle.boolean_rle.specs.Batches.{Batch, took, missing, bytes_from, flags_from}

abbrev small : List ℕ
small = 0xFE ∷ 0x44 ∷ 0x45 ∷ 0x00 ∷ 0xF0 ∷ []

-- the position of three numbers
abbrev at : ℕ → ℕ → ℕ → FlagPosition
at run skip bits = flag_at (byte_at run skip) bits

flags : FlagPosition → ℕ → Batch FlagPosition
unfolding flags_from booleans byte_runs byte_run repeat_run bytes byte_count run_layout booleans_of joined_bytes run_bytes digits past
flags p n = flags_from p n small

values : BytePosition → ℕ → Batch BytePosition
unfolding bytes_from byte_runs byte_run repeat_run bytes byte_count run_layout joined_bytes run_bytes past
values p n = bytes_from p n small

-- ten flags, and ten more at the position after them, which is in the next run
ten : flags (at 0 0 0) 10 ≡ took (0 ∷ 1 ∷ 0 ∷ 0 ∷ 0 ∷ 1 ∷ 0 ∷ 0 ∷ 0 ∷ 1 ∷ []) (at 0 1 2)
unfolding flags
ten = refl

ten-more : flags (at 0 1 2) 10 ≡ took (0 ∷ 0 ∷ 0 ∷ 1 ∷ 0 ∷ 1 ∷ 1 ∷ 1 ∷ 1 ∷ 1 ∷ []) (at 3 0 4)
unfolding flags
ten-more = refl

-- the same place by skips that pass the run, and the run used up
far : flags (at 0 1 12) 4 ≡ took (0 ∷ 0 ∷ 0 ∷ 0 ∷ []) (at 3 1 0)
unfolding flags
far = refl

used-up : flags (at 3 2 6) 2 ≡ took (0 ∷ 0 ∷ []) (at 5 0 0)
unfolding flags
used-up = refl

-- one too many: the next control byte is missing; and none asked for, anywhere
one_more : flags (at 3 2 6) 3 ≡ missing (cut 6 0)
unfolding flags
one_more = refl

none : flags (at 9 0 0) 0 ≡ took [] (at 9 0 0)
unfolding flags
none = refl

-- a run that is cut, though its needed byte is there
cut-run : bytes_from (byte_at 0 0) 1 (0xFE ∷ 0x44 ∷ []) ≡ missing (cut 13 1)
unfolding bytes_from byte_runs byte_run repeat_run bytes byte_count
cut-run = refl

three-bytes : values (byte_at 0 1) 3 ≡ took (0x45 ∷ 0xF0 ∷ 0xF0 ∷ []) (byte_at 3 2)
unfolding values
three-bytes = refl
