-- Byte values (FORMAT.md, "Byte values"): a value of length n is the first n bytes of the rest, handed back as a part of it.
-- Assumes nothing.
use Rattle.std.specs.Prelude.{◌≡◌, ℕ, ◌-◌, List, [], length, drop, Err}
use Rattle.format.specs.declared.Kind.TheVariants.{ByteValues}
use Rattle.format.specs.Parse.{Parsed, end, got, refused, bytes}
use Rattle.format.specs.Answers.{Answer, ran, cut_at, refusal}

-- the first n bytes, or refusal 6; 0 gives an empty part, at any position
abbrev pub byte_value : ℕ → List ℕ → Parsed (List ℕ)
byte_value n bs = bytes 6 n bs

-- eight bits wide; n is both the rows and the bytes consumed; a refusal has the call's position
abbrev pub value_answer : ℕ → ℕ → ℕ → Parsed (List ℕ) → Answer
value_answer at total n end = cut_at 6 at at
value_answer at total n (got v rest) = ran ByteValues 8 n n
value_answer at total n (refused r) = Err (refusal at total r)

-- the part that is handed back: empty if the call refuses
abbrev pub value_part : Parsed (List ℕ) → List ℕ
value_part end = []
value_part (got v rest) = v
value_part (refused r) = []

-- THE BYTE VALUE READER: one call answers ..
pub record ValueRead (input : List ℕ) (at n : ℕ) (r : Answer) : Type 0 where
  pub answer : r ≡ value_answer at (length input - at) n (byte_value n (drop at input))

-- .. and a second hands back the part
pub record ValueGiven (input : List ℕ) (at n : ℕ) (part : List ℕ) : Type 0 where
  pub part-is : part ≡ value_part (byte_value n (drop at input))
