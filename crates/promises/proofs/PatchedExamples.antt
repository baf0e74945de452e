-- OTHER ENTRIES than skips: of the rows 0, 0, 2 with base 0 and W 1, the entry (gap 2, patch 1) takes a gap width of 2. The list (gap 1, patch 0), (gap 1,
-- patch 1) has those rows too, in a gap width of 1: so a lesser gap width is denied only where rows without a patch have no entry.
-- Assumes nothing.
use Rattle.format.proofs.Common.{◌≡◌, refl, Bool, [], ◌∷◌, arith}
use Rattle.format.specs.Digits
use Rattle.format.specs.Fields
use Rattle.format.specs.Runs
use Rattle.format.specs.Rows
use Rattle.format.specs.Writing
use Rattle.format.specs.Writing.{padded}
use Rattle.format.specs.PatchedWriting
use Rattle.format.specs.PatchedWriting.{Parts, parts}
use Rattle.promises.specs.Patched.{Describes}

abbrev narrower : Parts
narrower = record { code = 0; base = 0 ∷ []; pc = 0; gw = 1; values = padded (0 ∷ 0 ∷ 0 ∷ []); list = padded (2 ∷ 3 ∷ []) }

narrower-describes : (signed : Bool) → Describes signed 0 1 (0 ∷ 0 ∷ 2 ∷ []) narrower
unfolding Digits.number Digits.digits Fields.widths Fields.width Fields.least_of Fields.least_width Fields.block_bytes Writing.every
    Runs.patches_from Runs.patches Runs.last_is_skip Runs.taken Runs.shared Runs.outside Runs.out_of_place Runs.too_large Rows.base_value
    Rows.patch_at Rows.patched_rows Rows.rows_of
narrower-describes signed = record {
  valid = record {
    head = record { code_fits = omega arith; some-rows = omega arith; rows_fit = omega arith };
    some_bytes = omega arith;
    eight = omega arith;
    bytes = (omega arith, tt);
    patch-code = omega arith;
    gap-low = omega arith;
    gap-high = omega arith;
    entries_fit = omega arith;
    not-2 = omega arith;
    block = record { count = refl; fits = (omega arith, (omega arith, (omega arith, tt))); pad_fits = omega arith };
    list = record { count = refl; fits = (omega arith, (omega arith, tt)); pad_fits = omega arith };
    not-3 = tt;
    not-7 = tt;
  };
  has_base = refl;
  has_width = refl;
  gaps = (omega arith, (omega arith, tt));
  has-rows = refl;
}

wider : (parts 0 1 (0 ∷ 0 ∷ 2 ∷ [])).gw ≡ 2
unfolding Writing.every PatchedWriting.patches_above PatchedWriting.entries_from PatchedWriting.least_from PatchedWriting.gap_width PatchedWriting.parts
wider = refl
