-- The README's five lines and others, by computation. Assumes nothing.
use Rattle.std.proofs.Common.{◌≡◌, ℕ, List, [], ◌∷◌, map, ℤ, pos, negsuc, refl, Option, None, Some}
use Rattle.format.specs.declared.Kind.TheVariants.{ShortRepeat, Direct}
use Rattle.format.proofs.Examples.{told}
use Rattle.tally.specs.Totals.{run, answered, counted, rows_over, of_all, sum_of, Tally, totals}
use Rattle.tally.specs.Wide.{wide_of, wide_value}

-- lines, bad, end, refused 1, refused 2, short, direct; rows, smallest, largest and sum
pub record Seen : Type 0 where
  pub counts : List ℕ
  pub smallest : Option ℤ
  pub largest : Option ℤ
  pub sum : ℤ

unfoldable seen : Tally → Seen
unfolding told answered counted rows_over of_all sum_of totals wide_of wide_value
seen t = record {
  counts = t.lines ∷ t.bads ∷ t.ends ∷ t.refusals 1 ∷ t.refusals 2 ∷ t.runs ShortRepeat ∷ t.runs Direct ∷ t.rows ∷ [];
  smallest = t.smallest;
  largest = t.largest;
  sum = t.sum;
}

-- `000A012C`, `0046021230`, `0086031F21`, `01`, `zz`: a bad line is no refusal, and counts as a line; so does `end`
five-lines : seen (totals
    (map answered ((0x00 ∷ 0x0A ∷ 0x01 ∷ 0x2C ∷ []) ∷ (0x00 ∷ 0x46 ∷ 0x02 ∷ 0x12 ∷ 0x30 ∷ []) ∷ (0x00 ∷ 0x86 ∷ 0x03 ∷ 0x1F ∷ 0x21 ∷ []) ∷
    (0x01 ∷ []) ∷ [] ∷ [])))
    ≡ record { counts = 5 ∷ 1 ∷ 1 ∷ 0 ∷ 1 ∷ 1 ∷ 1 ∷ 8 ∷ []; smallest = Some (pos 1); largest = Some (pos 300); sum = pos 1506 }
unfolding seen
five-lines = refl

-- rows are read by the line's flag
signed-line : seen (totals (map answered ((0x01 ∷ 0x46 ∷ 0x02 ∷ 0x12 ∷ 0x30 ∷ []) ∷ [])))
    ≡ record { counts = 1 ∷ 0 ∷ 0 ∷ 0 ∷ 0 ∷ 0 ∷ 1 ∷ 3 ∷ []; smallest = Some (negsuc 1); largest = Some (pos 1); sum = negsuc 1 }
unfolding seen
signed-line = refl

-- no rows: none, and sum 0
no_rows : seen (totals (map answered ((0x01 ∷ []) ∷ []))) ≡ record { counts = 1 ∷ 0 ∷ 1 ∷ 0 ∷ 0 ∷ 0 ∷ 0 ∷ 0 ∷ []; smallest = None; largest = None; sum = pos 0 }
unfolding seen
no_rows = refl

-- the sum passes 64 bits, either way
beyond : (totals (run Direct (pos 9223372036854775807 ∷ pos 9223372036854775807 ∷ pos 9223372036854775807 ∷ []) ∷ [])).sum ≡ pos 27670116110564327421
unfolding seen
beyond = refl

two-halves : wide_value (wide_of (negsuc 27670116110564327420)) ≡ negsuc 27670116110564327420
unfolding seen
two-halves = refl
