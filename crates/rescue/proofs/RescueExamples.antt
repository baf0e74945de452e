-- Calls by computation: a stream of two runs of three rows, at bytes 0 and 2; with a run after them that is cut; and with the first run
-- damaged. Assumes nothing.
use mathlib.Core.Path.{◌≡◌, refl}
use Prim.Native.Nat.{ℕ}
use mathlib.Core.Bool.{false}
use mathlib.Core.List.{List, [], ◌∷◌, ◌++◌}
use lib.IntN.{pos}
use Rattle.format.proofs.Examples.{told}
use Rattle.format.specs.Streams as Streams
use Rattle.batches.specs.Batches.{position_of}
use Rattle.rescue.specs.Rescue.{made_plain, paired, rising, in_order, kept, group_rows, rescued_rows, verdicts, sum}
use Rattle.rescue.specs.Rescue.{RescueOutcome, refused, rescued, rescuing}

-- three rows 5, and three rows 7
abbrev two : List ℕ
two = 0x00 ∷ 0x05 ∷ 0x00 ∷ 0x07 ∷ []

-- .. and a short repeat of two bytes, of which one is there
abbrev hurt : List ℕ
hurt = two ++ (0x08 ∷ 0x01 ∷ [])

-- .. and the two, with the first header damaged: a short repeat of nine bytes, of which four are there
abbrev torn : List ℕ
torn = 0x38 ∷ 0x05 ∷ 0x00 ∷ 0x07 ∷ []

-- by runs, skips and counts, with the fill row 9
unfoldable said : List ℕ → List ℕ → List ℕ → List ℕ → ℕ → ℕ → RescueOutcome
unfolding told Streams.stream position_of made_plain paired rising in_order kept group_rows rescued_rows verdicts sum rescuing
said bs rs ss ns places marks = rescuing false (pos 9) bs rs ss ns places marks

-- a skip that passes a run is the same position
not_plain : said two (0 ∷ 0 ∷ []) (0 ∷ 4 ∷ []) (4 ∷ 2 ∷ []) 6 2
    ≡ rescued (pos 5 ∷ pos 5 ∷ pos 5 ∷ pos 7 ∷ pos 7 ∷ pos 7 ∷ []) (1 ∷ 1 ∷ [])
unfolding said
not_plain = refl

-- a group that does not end where the next one begins is replaced
not-met : said two (0 ∷ 2 ∷ []) (0 ∷ 0 ∷ []) (2 ∷ 3 ∷ []) 5 2 ≡ rescued (pos 9 ∷ pos 9 ∷ pos 7 ∷ pos 7 ∷ pos 7 ∷ []) (0 ∷ 1 ∷ [])
unfolding said
not-met = refl

-- a damaged run costs its own group, and not the one before it
damaged : said hurt (0 ∷ 2 ∷ 4 ∷ []) (0 ∷ 0 ∷ 0 ∷ []) (3 ∷ 3 ∷ 1 ∷ []) 7 3
    ≡ rescued (pos 5 ∷ pos 5 ∷ pos 5 ∷ pos 7 ∷ pos 7 ∷ pos 7 ∷ pos 9 ∷ []) (1 ∷ 1 ∷ 0 ∷ [])
unfolding said
damaged = refl

-- .. and also a group that has no row of it, if its position passes it: that can't be made plain
passed-damaged : said torn (0 ∷ 0 ∷ []) (0 ∷ 3 ∷ []) (3 ∷ 3 ∷ []) 6 2
    ≡ rescued (pos 9 ∷ pos 9 ∷ pos 9 ∷ pos 9 ∷ pos 9 ∷ pos 9 ∷ []) (0 ∷ 0 ∷ [])
unfolding said
passed-damaged = refl

-- .. which the plain position of the same row does not
plain-undamaged : said torn (0 ∷ 2 ∷ []) (0 ∷ 0 ∷ []) (3 ∷ 3 ∷ []) 6 2
    ≡ rescued (pos 9 ∷ pos 9 ∷ pos 9 ∷ pos 7 ∷ pos 7 ∷ pos 7 ∷ []) (0 ∷ 1 ∷ [])
unfolding said
plain-undamaged = refl

-- rows of a group that is cut short are replaced too
short : said hurt (0 ∷ 2 ∷ []) (0 ∷ 0 ∷ []) (3 ∷ 4 ∷ []) 7 2
    ≡ rescued (pos 5 ∷ pos 5 ∷ pos 5 ∷ pos 9 ∷ pos 9 ∷ pos 9 ∷ pos 9 ∷ []) (1 ∷ 0 ∷ [])
unfolding said
short = refl

-- groups of no rows: one that begins where the next one does, and one that does not
no_rows : said two (0 ∷ 0 ∷ 2 ∷ []) (0 ∷ 0 ∷ 1 ∷ []) (0 ∷ 6 ∷ 0 ∷ []) 6 3
    ≡ rescued (pos 9 ∷ pos 9 ∷ pos 9 ∷ pos 9 ∷ pos 9 ∷ pos 9 ∷ []) (1 ∷ 0 ∷ 0 ∷ [])
unfolding said
no_rows = refl

-- 17 before 8
eight-later : said two (0 ∷ 1 ∷ 0 ∷ []) (0 ∷ 0 ∷ 0 ∷ []) (3 ∷ 3 ∷ 3 ∷ []) 0 0 ≡ refused 17
unfolding said
eight-later = refl

falling-skip : said two (0 ∷ 2 ∷ 2 ∷ []) (0 ∷ 2 ∷ 1 ∷ []) (3 ∷ 2 ∷ 1 ∷ []) 6 3 ≡ refused 17
unfolding said
falling-skip = refl

past_the_end : said two (0 ∷ 5 ∷ []) (0 ∷ 0 ∷ []) (6 ∷ 0 ∷ []) 6 2 ≡ refused 17
unfolding said
past_the_end = refl

unequal : said two (0 ∷ []) (0 ∷ []) [] 6 2 ≡ refused 17
unfolding said
unequal = refl

few-rows : said two (0 ∷ []) (0 ∷ []) (6 ∷ []) 5 1 ≡ refused 8
unfolding said
few-rows = refl

few-marks : said two (0 ∷ []) (0 ∷ []) (6 ∷ []) 6 0 ≡ refused 8
unfolding said
few-marks = refl

-- no groups: only of no bytes
empty : said [] [] [] [] 0 0 ≡ rescued [] []
unfolding said
empty = refl

no-groups : said two [] [] [] 6 2 ≡ refused 17
unfolding said
no-groups = refl
