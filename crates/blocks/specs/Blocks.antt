-- AN INPUT'S LINES (FORMAT.md, "The programs"), and the same for an input that comes in blocks.
-- Assumes nothing.
use Rattle.std.specs.Prelude.{◌≡◌, ℕ, suc, ◌+◌, ◌≤◌, Bool, false, ◌||◌, List, [], ◌∷◌, ◌++◌, length, take, drop, ℤ, pos, negsuc, ◌==◌}
use Prim.Native.Char.{code}
use Rattle.format.specs.Fields.{pick}

-- the lines of s that a newline ends; the first of them has begun as `line`
unfoldable pub lines_from : List ℕ → List ℕ → List (List ℕ)
lines_from line [] = []
lines_from line (c ∷ s) = pick (c == (code "\n")) (line ∷ lines_from [] s) (lines_from (line ++ (c ∷ [])) s)

-- what the line after the last newline has begun as
unfoldable pub begun_from : List ℕ → List ℕ → List ℕ
begun_from line [] = line
begun_from line (c ∷ s) = pick (c == (code "\n")) (begun_from [] s) (begun_from (line ++ (c ∷ [])) s)

-- a final newline opens no further line
unfoldable pub last_line : List ℕ → List (List ℕ)
last_line line = pick (length line == 0) [] (line ∷ [])

-- THE LINES of an input
unfoldable pub lines_in : List ℕ → List (List ℕ)
lines_in s = lines_from [] s ++ last_line (begun_from [] s)

-- ---- for the functions that cut it

-- how many bytes stand before the first newline
unfoldable pub line_length : List ℕ → ℕ
line_length [] = 0
line_length (c ∷ s) = pick (c == (code "\n")) 0 (suc (line_length s))

-- no newline stands in it: it begins a line and ends none
abbrev pub NoNewline : List ℕ → Type 0
NoNewline [] = Unit {0}
NoNewline (c ∷ s) = ((c == (code "\n")) ≡ false) × NoNewline s

-- as many characters of a line as show that it is over 8,800
abbrev pub too_long : ℕ
too_long = 8801

-- the beginning of a line, as far as it is kept
abbrev pub kept : List ℕ → List ℕ
kept line = take too_long line

-- the bytes from a place to a place
abbrev pub part : ℕ → ℕ → List ℕ → List ℕ
part from end s = drop from (take end s)

-- a line's beginning stands at the front of the input, all of it or as much
-- as shows that it is over 8,800 characters; other places keep their content
pub record Kept (line input input' : List ℕ) (n : ℕ) : Type 0 where
  pub count : n ≡ length (kept line)
  pub front : take n input' ≡ kept line
  pub rest : drop n input' ≡ drop n input

-- how many bytes came, by what the system answered: none where reading failed
abbrev pub came : ℤ → ℕ
came (pos k) = k
came (negsuc k) = 0

-- a failed read that is tried again, by the system's error: a signal broke it off (EINTR), or nothing was ready (EAGAIN)
unfoldable pub not_ready : ℤ → Bool
not_ready (pos n) = n == 4 || n == 11
not_ready (negsuc n) = false

-- AFTER A READ that a line's beginning was left for: what is kept of it
-- stands at the front of the input, and what came behind it, up to `stop`
pub record Came (line input : List ℕ) (held stop : ℕ) (got : ℤ) : Type 0 where
  pub count : held ≡ length (kept line)
  pub front : take held input ≡ kept line
  pub stop_is : stop ≡ held + came got
  pub within : stop ≤ length input

-- WHAT IS LEFT OF A TURN that a line's beginning was left for: what is kept of it stands at the front of the input; what came stands behind
-- it, up to `end`; the whole lines of both are taken, and the beginning of a line is left
pub record Carried (line input : List ℕ) (from end : ℕ) : Type 0 where
  pub front : take (length (kept line)) input ≡ kept line
  pub behind : length (kept line) ≤ end
  pub within : end ≤ length input
  pub order : from ≤ end
  pub whole : begun_from [] (take from (take end input)) ≡ []
  pub begun : NoNewline (part from end input)

-- ---- an input that comes in blocks

-- the lines of the blocks that come, with a line's beginning held: the whole lines after each block, and at the end the last line
unfoldable pub block_lines : List ℕ → List (List ℕ) → List (List ℕ)
block_lines held [] = last_line held
block_lines held (b ∷ bs) = lines_from [] (held ++ b) ++ block_lines (kept (begun_from [] (held ++ b))) bs

-- the blocks as one input
unfoldable pub joined_blocks : List (List ℕ) → List ℕ
joined_blocks [] = []
joined_blocks (b ∷ bs) = b ++ joined_blocks bs
