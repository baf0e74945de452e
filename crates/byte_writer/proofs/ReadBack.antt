-- The readers in batches read the runs that were chosen, since these are just what so many bytes or flags need; their values are the bytes and the flags, and
-- the position after all values of some runs is the byte after the runs. Assumes nothing.
use Rattle.format.proofs.Common.{◌≡◌, ℕ, ◌+◌, ◌-◌, ◌≤◌, arith, le_refl, List, [], ◌∷◌, ◌++◌, length, take, drop}
use Rattle.format.proofs.Common.{length-append, drop-append_seam, take_all, le-ltb}
use Rattle.format.specs.Booleans.{ByteRun, run_layout, run_bytes, byte_count, joined_bytes, joined_runs}
use Rattle.format.proofs.Booleans.{length_run}
use Rattle.boolean_rle.specs.Positions.{byte_at, flag_at, skipped, past}
use Rattle.boolean_rle.specs.Batches.{bytes_from, flags_from}
use Rattle.byte_writer.specs.Choice.{runs_of, written}
use Rattle.byte_writer.specs.Flags.{flag_bytes}
use Rattle.byte_writer.specs.ReadBack.{BytesReadBack, FlagsReadBack}
use Rattle.byte_writer.proofs.Theorems.{every-bytes, every-flags}

past_all : (at : ℕ) (ds : List ByteRun) → past at (length (joined_bytes ds)) ds ≡ byte_at (at + length (joined_runs ds)) 0
unfolding past joined_bytes joined_runs
past_all at [] = let e : at + 0 ≡ at = omega arith in rw e
past_all at (d ∷ ds) =
    let n = length-append (run_bytes d) (joined_bytes ds) in
    let more : byte_count d ≤ length (run_bytes d ++ joined_bytes ds) = omega (arith, n, length_run d) in
    let left : length (run_bytes d ++ joined_bytes ds) - byte_count d ≡ length (joined_bytes ds) = omega (arith, n, length_run d) in
    let end : at + length (run_layout d) + length (joined_runs ds) ≡ at + length (run_layout d ++ joined_runs ds) =
    omega (arith, length-append (run_layout d) (joined_runs ds)) in
    rw (le-ltb _ _ more, left, past_all (at + length (run_layout d)) ds, end)

pub bytes-read-back : BytesReadBack
unfolding bytes_from written
bytes-read-back bs front rest out out' r h l p =
    let back = every-bytes bs h in
    let here : drop (length front) (front ++ (written bs ++ rest)) ≡ written bs ++ rest = drop-append_seam front (written bs ++ rest) in
    let all : 0 + length bs ≡ length bs = omega arith in
    let whole : take (length bs) bs ≡ bs = take_all (length bs) bs (le_refl _) in
    let next : past (length front) (length bs) (runs_of bs) ≡ byte_at (length front + length (joined_runs (runs_of bs))) 0 =
    rw back.gives at (past_all (length front) (runs_of bs)) in (
      rw (here, all, back.reads rest, all, le-ltb (length out) (length bs) l, next) at p.answer,
      rw (here, all, back.reads rest, all, le-ltb (length out) (length bs) l, back.gives, whole) at p.places,
    )

pub flags-read-back : FlagsReadBack
unfolding flags_from written
flags-read-back fs front rest out out' r l p =
    let back = every-flags fs in
    let bs = written (flag_bytes fs) in
    let here : drop (length front) (front ++ (bs ++ rest)) ≡ bs ++ rest = drop-append_seam front (bs ++ rest) in
    let all : skipped (flag_at (byte_at (length front) 0) 0) + length fs ≡ length fs = omega arith in (
      rw (here, all, back.reads rest, all, le-ltb (length out) (length fs) l) at p.answer,
      rw (here, all, back.reads rest, all, le-ltb (length out) (length fs) l, back.gives) at p.places,
    )
