-- Streams for each slip, by computation. Assumes nothing.
use Rattle.format.proofs.Common.{◌≡◌, refl, ℕ, Bool, false, List, [], ◌∷◌}
use Rattle.format.specs.Fields.{zigzagged, shortest_in, shortest}
use Rattle.format.specs.Parse.{plain}
use Rattle.format.specs.Streams.{stream}
use Rattle.format.specs.Writing.{stored, steps_of, base_delta, values_of, described}
use Rattle.format.proofs.Examples.{told}
use Rattle.format.specs.Kept.{kept_codes, among, is_kept, next_kept}
use Rattle.convert.specs.Convert.{rewritten, converted, odd_runs, Outcome, result, own, eight, convert}

unfoldable seen : Bool → List ℕ → ℕ → Outcome
unfolding told zigzagged shortest_in shortest stored steps_of base_delta values_of described kept_codes among is_kept next_kept rewritten converted odd_runs stream
    convert
seen signed bs places = convert signed bs places

-- one direct row of 26 bits: 32 bits
direct-26 : seen false (0x70 ∷ 0x00 ∷ 0x00 ∷ 0x00 ∷ 0x00 ∷ 0x40 ∷ []) 6 ≡ result 1 (0x76 ∷ 0x00 ∷ 0x00 ∷ 0x00 ∷ 0x00 ∷ 0x01 ∷ [])
unfolding seen
direct-26 = refl

-- two rows at an odd packed width have no magnitudes, and are altered too; the first row's varint comes out shortest
two-rows : seen false (0xC4 ∷ 0x01 ∷ 0xE4 ∷ 0x00 ∷ 0x05 ∷ []) 9 ≡ result 1 (0xC6 ∷ 0x01 ∷ 0x64 ∷ 0x05 ∷ [])
unfolding seen
two-rows = refl

-- runs of kept widths, padding bits and all, and a patched run of an odd width are copied
kept-padding : seen false (0x46 ∷ 0x02 ∷ 0x12 ∷ 0x37 ∷ []) 4 ≡ result 0 (0x46 ∷ 0x02 ∷ 0x12 ∷ 0x37 ∷ [])
unfolding seen
kept-padding = refl

patched-copied : seen false (0x84 ∷ 0x00 ∷ 0x00 ∷ 0x00 ∷ 0x07 ∷ 0x20 ∷ []) 6 ≡ result 0 (0x84 ∷ 0x00 ∷ 0x00 ∷ 0x00 ∷ 0x07 ∷ 0x20 ∷ [])
unfolding seen
patched-copied = refl

-- the stream's own refusal, at the refused run; and then 8
own_first : seen false (0x00 ∷ 0x01 ∷ 0xC2 ∷ 0x00 ∷ []) 0 ≡ own (plain 4) 2
unfolding seen
own_first = refl

no_room : seen false (0x70 ∷ 0x00 ∷ 0x00 ∷ 0x00 ∷ 0x00 ∷ 0x40 ∷ []) 5 ≡ eight
unfolding seen
no_room = refl

-- 17 bits: 24, not 32
next-of-17 : next_kept 16 ≡ 23
unfolding seen
next-of-17 = refl
