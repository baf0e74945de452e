-- The starred runs (FORMAT.md, "Sample runs") as one table. Each line is stated by the reader's promise: this answer, and these places at
-- exit, are what it allows. The lines that they leave open, and the public specification's own examples, stand in `Samples`.
-- Assumes nothing.
use Rattle.std.specs.Prelude.{ℕ, ◌-◌, Bool, true, false, List, [], ◌∷◌, ◌++◌, length, drop, replicate, ℤ, pos, negsuc, None, Ok}
use Rattle.format.specs.declared.Kind.{Kind}
use Rattle.format.specs.declared.Kind.TheVariants.{ShortRepeat, Direct, PatchedBase, Delta, Booleans}
use Rattle.format.specs.Answers.{Answer, ran, refused_at, cut_at}
use Rattle.format.specs.Promises.{RunRead}
use Rattle.format.specs.Booleans.{BooleansRead}

-- what a line says: the run's kind, its value width, its rows and the bytes consumed; or the number of a refusal;
-- or with it the byte where the cut field begins; or "end"
pub data Said (R : Type 0) : Type 0 where
  run : Kind → ℕ → List R → ℕ → Said R
  refusal : ℕ → Said R
  cut : ℕ → ℕ → Said R
  nothing : Said R

-- a line: how many places there are, the position, the flag or how many booleans are read, the bytes, and what is said of them
pub data Line : Type 0 where
  integers : ℕ → ℕ → Bool → List ℕ → Said ℤ → Line
  booleans : ℕ → ℕ → ℕ → List ℕ → Said ℕ → Line

-- an integer line that names no position begins at byte 0, and has twenty places
abbrev pub unsigned : List ℕ → Said ℤ → List Line
unsigned i s = integers 20 0 false i s ∷ []

abbrev pub signed : List ℕ → Said ℤ → List Line
signed i s = integers 20 0 true i s ∷ []

-- a line that names no flag holds under both
abbrev pub either : List ℕ → Said ℤ → List Line
either i s = unsigned i s ++ signed i s

-- n booleans, in as many places
abbrev pub bools : ℕ → List ℕ → Said ℕ → List Line
bools n i s = booleans n 0 n i s ∷ []

-- a row below 0
abbrev pub minus : ℕ → ℤ
minus n = negsuc (n - 1)

-- ---- what a line promises

abbrev pub answer_said : {R : Type 0} → ℕ → Said R → Answer
answer_said at (run kind width rows bytes) = ran kind width (length rows) bytes
answer_said at (refusal n) = refused_at n at
answer_said at (cut n byte) = cut_at n at byte
answer_said at nothing = Ok None

-- the rows in the first places; the others, and all where the run is refused, keep their content
abbrev pub places_said : {R : Type 0} → List R → Said R → List R
places_said out (run kind width rows bytes) = rows ++ drop (length rows) out
places_said out (refusal n) = out
places_said out (cut n byte) = out
places_said out nothing = out

-- the places, each with 7777 in it, or 77 in a byte
abbrev pub integer_places : ℕ → List ℤ
integer_places n = replicate n (pos 7777)

abbrev pub byte_places : ℕ → List ℕ
byte_places n = replicate n 77

abbrev pub LineHolds : Line → Type 0
LineHolds (integers room at flag input said) =
    RunRead input at flag (integer_places room) (places_said (integer_places room) said) (answer_said at said)
LineHolds (booleans room at n input said) =
    BooleansRead input at n (byte_places room) (places_said (byte_places room) said) (answer_said at said)

abbrev pub Holds : List Line → Type 0
Holds [] = Unit {0}
Holds (l ∷ ls) = LineHolds l × Holds ls

-- ---- THE STARRED LINES

abbrev pub starred : List Line
starred =
    unsigned (0x0A ∷ 0x01 ∷ 0x2C ∷ []) (run ShortRepeat 16 (pos 300 ∷ pos 300 ∷ pos 300 ∷ pos 300 ∷ pos 300 ∷ []) 3)
    ++ signed (0x0A ∷ 0x01 ∷ 0x2C ∷ []) (run ShortRepeat 16 (pos 150 ∷ pos 150 ∷ pos 150 ∷ pos 150 ∷ pos 150 ∷ []) 3)
    ++ signed (0x00 ∷ 0x01 ∷ []) (run ShortRepeat 8 (minus 1 ∷ minus 1 ∷ minus 1 ∷ []) 2)
    ++ unsigned (0x46 ∷ 0x02 ∷ 0x12 ∷ 0x30 ∷ []) (run Direct 4 (pos 1 ∷ pos 2 ∷ pos 3 ∷ []) 4)
    ++ signed (0x46 ∷ 0x02 ∷ 0x12 ∷ 0x30 ∷ []) (run Direct 4 (minus 1 ∷ pos 1 ∷ minus 2 ∷ []) 4)
    ++ unsigned (0x70 ∷ 0x00 ∷ 0x00 ∷ 0x00 ∷ 0x00 ∷ 0x40 ∷ []) (run Direct 26 (pos 1 ∷ []) 6)
    ++ unsigned (0xC0 ∷ 0x04 ∷ 0x0A ∷ 0x04 ∷ []) (run Delta 0 (pos 10 ∷ pos 12 ∷ pos 14 ∷ pos 16 ∷ pos 18 ∷ []) 4)
    ++ unsigned (0xC6 ∷ 0x03 ∷ 0x64 ∷ 0x05 ∷ 0x14 ∷ []) (run Delta 4 (pos 100 ∷ pos 97 ∷ pos 96 ∷ pos 92 ∷ []) 5)
    ++ either (0xC2 ∷ 0x00 ∷ []) (refusal 4)
    ++ either (0x86 ∷ 0x03 ∷ 0x03 ∷ 0x21 ∷ 0x64 ∷ 0x12 ∷ 0x34 ∷ 0x94 ∷ [])
    (run PatchedBase 4 (pos 101 ∷ pos 102 ∷ pos 183 ∷ pos 104 ∷ []) 8)
    ++ either (0x86 ∷ 0x03 ∷ 0x03 ∷ 0x20 ∷ 0xE4 ∷ 0x12 ∷ 0x34 ∷ []) (run PatchedBase 4 (minus 99 ∷ minus 98 ∷ minus 97 ∷ minus 96 ∷ []) 7)
    ++ either (0x86 ∷ 0x03 ∷ 0x03 ∷ 0x41 ∷ 0x64 ∷ 0x12 ∷ 0x34 ∷ 0x8A ∷ []) (refusal 7)
    ++ bools 32 (0x00 ∷ 0xFF ∷ 0xFF ∷ 0x00 ∷ []) (run Booleans 1 (replicate 24 1 ++ replicate 8 0) 4)
    -- one more than the runs hold
    ++ bools 33 (0x00 ∷ 0xFF ∷ 0xFF ∷ 0x00 ∷ []) (cut 6 4)
