-- No run is longer than 4,356 bytes, and one is as long: a base of 8 bytes, 512 values and 31 entries of 64 bits, each entry with gap 1 and patch 0.
-- Assumes nothing.
use Rattle.format.proofs.Common.{◌≡◌, refl, ◌∙◌, inl, inr, ℕ, zero, suc, ◌^◌, ◌<◌, arith, replicate, get_or-replicate, pow_pos, not_T}
use Rattle.format.specs.Fields
use Rattle.format.specs.Runs.{Description, patched, Valid, patches, too_large, out_of_place}
use Rattle.format.proofs.Rows.{below-replicate, byte_count, bytes_count, byte-bounds}
use Rattle.promises.specs.PatchLists.{place_of, TooLarge, OutOfPlace}
use Rattle.promises.specs.Longest.{Longest}
use Rattle.promises.proofs.PatchCases.{too_large_lem, out-of-place}

abbrev entry : ℕ
entry = 2 ^ 56

abbrev long : Description
long = patched 31 (replicate 8 0) 30 8 (record { values = replicate 512 0; pad = 0 }) (record { values = replicate 31 entry; pad = 0 })

-- the entries name the places 1 to 31, and their patches are 0
places : (n j : ℕ) → j < n → place_of 56 (replicate n entry) j ≡ suc j
places zero j h = absurd (omega arith)
places (suc n) zero h = refl
places (suc n) (suc j) h = omega (arith, places n j (omega (arith, h)))

fitting : TooLarge 64 56 (replicate 31 entry) → ⊥
fitting (j, p, f, l) = omega (arith, rw (get_or-replicate 31 j entry 0 f.there) at l)

in_place : OutOfPlace 56 512 (replicate 31 entry) → ⊥
in_place (inl (l, s)) = s
in_place (inr (inl (i, j, p, l, f, g))) = omega (arith, places 31 i f.there, places 31 j g.there, f.here, g.here)
in_place (inr (inr (j, p, f, l))) = omega (arith, places 31 j f.there, f.here, f.there)

valid : Valid long
unfolding Fields.widths Fields.width Fields.least_of Fields.least_width
valid = record {
  head = record { code_fits = omega arith; some-rows = omega arith; rows_fit = omega arith };
  some_bytes = omega arith;
  eight = omega arith;
  bytes = below-replicate 256 8 0 (omega arith);
  patch-code = omega arith;
  gap-low = omega arith;
  gap-high = omega arith;
  entries_fit = omega arith;
  not-2 = omega arith;
  block = record { count = refl; fits = below-replicate _ 512 0 (pow_pos 64); pad_fits = omega arith };
  list = record { count = refl; fits = below-replicate _ 31 entry (omega arith); pad_fits = omega arith };
  not-3 = not_T (too_large 64 (patches 56 (replicate 31 entry))) (λ h. fitting ((too_large_lem 56 64 (replicate 31 entry)).0 h));
  not-7 = not_T (out_of_place 56 512 (replicate 31 entry)) (λ h. in_place ((out-of-place 56 512 (replicate 31 entry)).0 h));
}

as_long : byte_count long ≡ 4356
unfolding Fields.widths Fields.width Fields.least_of Fields.least_width
as_long = refl

pub longest : Longest
longest = record { no_longer = byte-bounds; reached = (long, valid, bytes_count long ∙ as_long) }
