-- Calls by computation: a stream of two runs of three rows, at bytes 0 and 2, and the same with a run after them that is cut.
-- Assumes nothing.
use mathlib.Core.Path.{◌≡◌, refl}
use Prim.Native.Nat.{ℕ}
use mathlib.Core.Bool.{false}
use mathlib.Core.List.{List, [], ◌∷◌, ◌++◌}
use lib.IntN.{pos}
use Rattle.format.proofs.Examples.{told}
use Rattle.format.specs.Answers.{refusing, cutting}
use Rattle.format.specs.Streams as Streams
use Rattle.batches.specs.Batches.{BatchOutcome, gives, ended, refuses, position_of, batch}
use Rattle.batches.proofs.RowPositions.{position}

-- three rows 5, and three rows 7
abbrev two : List ℕ
two = 0x00 ∷ 0x05 ∷ 0x00 ∷ 0x07 ∷ []

-- .. and a short repeat of two bytes, of which one is there
abbrev hurt : List ℕ
hurt = two ++ (0x08 ∷ 0x01 ∷ [])

unfoldable said : ℕ → List ℕ → ℕ → ℕ → BatchOutcome
unfolding told Streams.stream position_of batch
said n bs run skip = batch false n bs (position run skip)

-- a batch that is cut at both ends
cut-both : said 4 two 0 1 ≡ gives (record { rows = pos 5 ∷ pos 5 ∷ pos 7 ∷ pos 7 ∷ []; next = position 2 2 })
unfolding said
cut-both = refl

-- the batch after it is the last
the_last : said 4 two 2 2 ≡ gives (record { rows = pos 7 ∷ []; next = position 4 0 })
unfolding said
the_last = refl

-- a batch that ends with a run leaves the beginning of the next one
run_end : said 3 two 0 0 ≡ gives (record { rows = pos 5 ∷ pos 5 ∷ pos 5 ∷ []; next = position 2 0 })
unfolding said
run_end = refl

-- without places the position is made plain
no-places : said 0 two 0 4 ≡ gives (record { rows = []; next = position 2 1 })
unfolding said
no-places = refl

-- the end, and past it
at-the-end : said 4 two 0 6 ≡ ended
unfolding said
at-the-end = refl

past_the_end : said 4 two 0 7 ≡ refuses (refusing 16 0)
unfolding said
past_the_end = refl

no-input : said 4 two 9 0 ≡ ended
unfolding said
no-input = refl

-- a damaged run costs none of the rows before it; the next call is refused, with the place of the run and of the field that is cut
rows-first : said 9 hurt 2 1 ≡ gives (record { rows = pos 7 ∷ pos 7 ∷ []; next = position 4 0 })
unfolding said
rows-first = refl

then-refused : said 9 hurt 4 0 ≡ refuses (cutting 6 4 5)
unfolding said
then-refused = refl

-- also if more rows are to be skipped than there are
refused-not-16 : said 9 hurt 0 99 ≡ refuses (cutting 6 4 5)
unfolding said
refused-not-16 = refl
