-- The walk over a stream, as its functions are stated. Assumes nothing.
use Rattle.std.specs.Prelude.{⊤, ◌≡◌, ℕ, ◌+◌, ◌<◌, ◌≤◌, Bool, List, ◌++◌, length, take, drop}
use Rattle.std.proofs.Math.Seq.{paste}
use Rattle.format.specs.Fields.{pick}
use Rattle.format.specs.Answers.{refusing}
use Rattle.std.specs.Prelude.{Option, Some, None, Result, Err}
use Rattle.format.specs.declared.ByteOffset.{ByteOffset}
use Rattle.format.specs.declared.Refusal.{Refusal}
use Rattle.convert.specs.declared.Conversion.{Conversion}
use Rattle.convert.specs.Convert.{done, told_as, result, convert}

abbrev pub counted : Bool → ℕ
counted odd = pick odd 1 0

-- where the bytes that are laid end; none where there was no room for them
abbrev pub finished : ℕ → Option ByteOffset → Result Conversion Refusal
finished altered None = Err (refusing 8 0)
finished altered (Some end) = done altered end.bytes

abbrev pub Within : Option ByteOffset → ℕ → Type 0
Within None room = ⊤
Within (Some end) room = end.bytes ≤ room

-- a run's bytes at a place that has room for them
abbrev pub Put : List ℕ → ℕ → ℕ → List ℕ → List ℕ → Type 0
Put run n at out out' = at + n ≤ length out → out' ≡ paste out at run n

-- the bytes l, in so much room: they have it, and then an output of that length holds them in its first places; or they have not
pub record FilledTo (l : List ℕ) (room : ℕ) (out₀ out : List ℕ) (end : ByteOffset) : Type 0 where
  pub end_is : end.bytes ≡ length l
  pub end-in : end.bytes ≤ room
  pub laid : length out₀ ≡ room → out ≡ l ++ drop (length l) out₀

abbrev pub Filled : List ℕ → ℕ → List ℕ → List ℕ → Option ByteOffset → Type 0
Filled l room out₀ out None = room < length l
Filled l room out₀ out (Some end) = FilledTo l room out₀ out end

-- n bytes more, behind whatever was laid
pub record Lays (run : List ℕ) (n : ℕ) (at : Option ByteOffset) (room : ℕ) (out out' : List ℕ) (r : Option ByteOffset) : Type 0 where
  pub long : length out' ≡ length out
  pub more : (l out₀ : List ℕ) → Filled l room out₀ out at → Filled (l ++ take n run) room out₀ out' r

-- the answer in so much room, and what an output of that length holds where nothing is refused
pub record Walked (signed : Bool) (bs : List ℕ) (room : ℕ) (out out' : List ℕ) (r : Result Conversion Refusal) : Type 0 where
  pub answer : r ≡ told_as (length bs) (convert signed bs room)
  pub long : length out' ≡ length out
  pub places : length out ≡ room → (altered : ℕ) (bytes : List ℕ) → convert signed bs room ≡ result altered bytes
      → out' ≡ bytes ++ drop (length bytes) out
