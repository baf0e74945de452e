-- Proposals for each slip, by computation: four rows 7, 7, 7, 9 as a short repeat and a direct run of 4 bits, or as a patched run. Assumes nothing.
use mathlib.Core.Path.{◌≡◌, refl}
use Prim.Native.Nat.{ℕ}
use mathlib.Core.Bool.{false}
use mathlib.Core.List.{List, [], ◌∷◌, ◌++◌}
use lib.ListN.{replicate}
use lib.IntN.{pos}
use Rattle.format.specs.Fields.{zigzagged, shortest_in, shortest}
use Rattle.format.specs.Kept.{kept_widths, kept_codes, among, is_kept, is_kept_width}
use Rattle.format.specs.Runs.{joined}
use Rattle.format.specs.Writing.{stored, steps_of, base_delta, values_of, described, every, have_form, fit_width, writing}
use Rattle.format.specs.PatchedWriting.{patches_above, entries_from, least_from, code_for, patch_code, gap_width, base_size, base_bytes, writing_patched}
use Rattle.format.specs.PatchedWriting as PatchedWriting
use Rattle.format.proofs.Examples.{told}
use Rattle.planner.specs.Check.{Columns, segments_from, covers, write_in, all_runs, runs, accepted, parts, wide, Column, planned, direct, eight, column}

-- which of the two, and the bytes
pub data Seen : Type 0 where
  as-planned : List ℕ → Seen
  as-direct : List ℕ → Seen
  nothing : Seen

abbrev bytes_of : Column → Seen
bytes_of (planned ds) = as-planned (joined ds)
bytes_of (direct ds) = as-direct (joined ds)
bytes_of eight = nothing

abbrev cols : List ℕ → List ℕ → List ℕ → List ℕ → Columns
cols starts counts forms widths = record { starts = starts; counts = counts; forms = forms; widths = widths; bases = 0 ∷ 0 ∷ [] }

unfoldable seen : Columns → ℕ → Seen
unfolding told zigzagged shortest_in shortest stored steps_of base_delta values_of described every have_form fit_width writing
    kept_widths kept_codes among is_kept is_kept_width patches_above entries_from least_from code_for patch_code gap_width base_size base_bytes
    PatchedWriting.parts writing_patched
    segments_from covers write_in all_runs runs accepted parts wide column
seen c room = bytes_of (column false (pos 7 ∷ pos 7 ∷ pos 7 ∷ pos 9 ∷ []) c room)

-- the four rows in a direct run of 64 bits
abbrev wide_run : List ℕ
wide_run = 0x7E ∷ 0x03 ∷ (replicate 7 0 ++ 7 ∷ replicate 7 0 ++ 7 ∷ replicate 7 0 ++ 7 ∷ replicate 7 0 ++ 9 ∷ [])

two_runs : seen (cols (0 ∷ 3 ∷ []) (3 ∷ 1 ∷ []) (0 ∷ 1 ∷ []) (1 ∷ 3 ∷ [])) 5 ≡ as-planned (0x00 ∷ 0x07 ∷ 0x46 ∷ 0x00 ∷ 0x90 ∷ [])
unfolding seen
two_runs = refl

-- base 7, values of one bit, and a patch for the last row
patched : seen (record { starts = 0 ∷ []; counts = 4 ∷ []; forms = 4 ∷ []; widths = 1 ∷ []; bases = 7 ∷ [] }) 7
    ≡ as-planned (0x80 ∷ 0x03 ∷ 0x00 ∷ 0x21 ∷ 0x07 ∷ 0x00 ∷ 0xE0 ∷ [])
unfolding seen
patched = refl

-- no room for the proposal, so neither for the direct runs
no_room : seen (cols (0 ∷ 3 ∷ []) (3 ∷ 1 ∷ []) (0 ∷ 1 ∷ []) (1 ∷ 3 ∷ [])) 4 ≡ nothing
unfolding seen
no_room = refl

-- an overlap, the last row not covered, a number that is no form, unequal columns
overlap : seen (cols (0 ∷ 2 ∷ []) (3 ∷ 2 ∷ []) (0 ∷ 1 ∷ []) (1 ∷ 3 ∷ [])) 34 ≡ as-direct wide_run
unfolding seen
overlap = refl

last_row : seen (cols (0 ∷ 2 ∷ []) (2 ∷ 1 ∷ []) (1 ∷ 1 ∷ []) (3 ∷ 3 ∷ [])) 34 ≡ as-direct wide_run
unfolding seen
last_row = refl

no-form : seen (cols (0 ∷ 3 ∷ []) (3 ∷ 1 ∷ []) (0 ∷ 5 ∷ []) (1 ∷ 3 ∷ [])) 34 ≡ as-direct wide_run
unfolding seen
no-form = refl

unequal : seen (cols (0 ∷ 3 ∷ []) (3 ∷ 1 ∷ []) (0 ∷ 1 ∷ []) (1 ∷ 3 ∷ 3 ∷ [])) 34 ≡ as-direct wide_run
unfolding seen
unequal = refl

-- a width that is none, though its low byte is one, and a segment of no rows
too_wide : seen (cols (0 ∷ 3 ∷ []) (3 ∷ 1 ∷ []) (0 ∷ 1 ∷ []) (1 ∷ 259 ∷ [])) 34 ≡ as-direct wide_run
unfolding seen
too_wide = refl

no_rows : seen (record {
  starts = 0 ∷ 3 ∷ 3 ∷ [];
  counts = 3 ∷ 0 ∷ 1 ∷ [];
  forms = 0 ∷ 1 ∷ 1 ∷ [];
  widths = 1 ∷ 3 ∷ 3 ∷ [];
  bases = 0 ∷ 0 ∷ 0 ∷ [];
}) 34 ≡ as-direct wide_run
unfolding seen
no_rows = refl
