-- What the writer's own functions answer. Assumes nothing.
use Rattle.std.specs.Prelude.{◌≡◌, ℕ, ◌+◌, ◌≤◌, ◌<◌, Bool, false, List, ◌++◌, length, take, drop, eqb}
use Rattle.format.specs.Fields.{pick}
use Rattle.format.specs.Booleans.{ByteRun, repeat, literals, run_layout}
use Rattle.byte_writer.specs.Choice.{next_run}
use Rattle.byte_writer.specs.declared.run.Next.{Next}
use Rattle.byte_writer.specs.declared.run.Next.TheVariants as next

-- three bytes are equal
abbrev pub are_equal : ℕ → ℕ → ℕ → Bool
are_equal first second third = pick (eqb second first) (eqb third first) false

-- a run: how many bytes it stands for
abbrev pub next_of : ByteRun → Next
next_of (repeat count byte) = next.Repeat count
next_of (literals bs) = next.Literals (length bs)

abbrev pub count_in : Next → ℕ
count_in (next.Repeat count) = count
count_in (next.Literals count) = count

-- and how many its layout has
abbrev pub size_in : Next → ℕ
size_in (next.Repeat count) = 2
size_in (next.Literals count) = count + 1

-- ys stand in the places from k on, and the other places are as they were
abbrev pub Laid : List ℕ → ℕ → List ℕ → List ℕ → Type 0
Laid ys k out out' = out' ≡ (take k out ++ ys) ++ drop (k + length ys) out

-- the run that the bytes bs begin with was found, and the places have room for it from k on
pub record Ready (bs : List ℕ) (run : Next) (k : ℕ) (out : List ℕ) : Type 0 where
  pub some : 0 < length bs
  pub found : run ≡ next_of (next_run bs)
  pub room : k + length (run_layout (next_run bs)) ≤ length out
