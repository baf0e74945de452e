-- A line for each edge of the patched writer, by computation: an edit of the definitions that makes the slip is refused here, or by a law before it.
-- Assumes nothing.
use Rattle.format.proofs.Common.{◌≡◌, refl, ℕ, ◌-◌, ◌^◌, List, [], ◌∷◌, replicate}
use Rattle.format.specs.Digits
use Rattle.format.specs.Fields
use Rattle.format.specs.Runs
use Rattle.format.specs.Runs.{Patch}
use Rattle.format.specs.Writing
use Rattle.format.specs.Answers.{answer_number}
use Rattle.format.specs.Promises.{answer_of}
use Rattle.format.specs.Kept
use Rattle.format.specs.PatchedWriting
use Rattle.format.specs.PatchedWriting.{Entry, skip, entries_from, base_bytes, writing_patched}

-- (the `unfolding` line opens all that computes: whoever says `unfolding told` computes with it)
-- the refusal's number, or else the bytes
unfoldable told : ℕ → ℕ → List ℕ → ℕ → ℕ × List ℕ
unfolding Digits.number Digits.digits Fields.widths Fields.width Fields.least_of Fields.least_width Fields.block_bytes Kept.kept_widths
    Kept.among Kept.is_kept_width Runs.layout Writing.every
    PatchedWriting.patches_above PatchedWriting.entries_from PatchedWriting.least_from PatchedWriting.code_for PatchedWriting.patch_code
    PatchedWriting.gap_width PatchedWriting.base_size PatchedWriting.base_bytes PatchedWriting.parts PatchedWriting.writing_patched
told base w rs places = let m = writing_patched base w rs places in (answer_number (answer_of 0 0 m), Writing.bytes_in [] m)

-- ---- gaps: one entry up to 255, one skip up to 510, two skips from 511 on

abbrev one : ℕ → List Patch
one p = record { place = p; patch = 1 } ∷ []

abbrev entry : ℕ → Entry
entry gap = record { gap = gap; patch = 1 }

at-255 : entries_from 0 (one 255) ≡ entry 255 ∷ []
unfolding told
at-255 = refl

at-256 : entries_from 0 (one 256) ≡ skip ∷ entry 1 ∷ []
unfolding told
at-256 = refl

at-510 : entries_from 0 (one 510) ≡ skip ∷ entry 255 ∷ []
unfolding told
at-510 = refl

at-511 : entries_from 0 (one 511) ≡ skip ∷ skip ∷ entry 1 ∷ []
unfolding told
at-511 = refl

apart-256 : entries_from 0 (record { place = 3; patch = 1 } ∷ one 259) ≡ entry 3 ∷ skip ∷ entry 1 ∷ []
unfolding told
apart-256 = refl

-- ---- bases

base-0 : base_bytes 0 ≡ 0x00 ∷ []
unfolding told
base-0 = refl

base-127 : base_bytes 127 ≡ 0x7F ∷ []
unfolding told
base-127 = refl

base-128 : base_bytes 128 ≡ 0x00 ∷ 0x80 ∷ []
unfolding told
base-128 = refl

base-below : base_bytes (2 ^ 64 - 128) ≡ 0x80 ∷ 0x80 ∷ []
unfolding told
base-below = refl

-- ---- runs

-- the sample run 101, 102, 183, 104, with the patch 5 in 3 bits
four : told 100 4 (101 ∷ 102 ∷ 183 ∷ 104 ∷ []) 8 ≡ (0, 0x86 ∷ 0x03 ∷ 0x02 ∷ 0x21 ∷ 0x64 ∷ 0x12 ∷ 0x34 ∷ 0xA8 ∷ [])
unfolding told
four = refl

-- no patch: patch width 1, gap width 1, an empty list
no-patch : told 0 64 (7 ∷ []) 13 ≡ (0, 0xBE ∷ 0x00 ∷ 0x00 ∷ 0x00 ∷ 0x00 ∷ 0x00 ∷ 0x00 ∷ 0x00 ∷ 0x00 ∷ 0x00 ∷ 0x00 ∷ 0x00 ∷ 0x07 ∷ [])
unfolding told
no-patch = refl

-- a patch of 56 bits has room, one of 57 has none
patch-56 : told 0 8 (2 ^ 63 ∷ []) 20 ≡ (0, 0x8E ∷ 0x00 ∷ 0x1E ∷ 0x01 ∷ 0x00 ∷ 0x00 ∷ 0x00 ∷ 0x80 ∷ 0x00 ∷ 0x00 ∷ 0x00 ∷ 0x00 ∷ 0x00 ∷ 0x00 ∷ [])
unfolding told
patch-56 = refl

patch-57 : told 0 4 (2 ^ 60 ∷ []) 20 ≡ (10, [])
unfolding told
patch-57 = refl

-- 31 entries, and 32
entries-31 : told 0 1 (replicate 31 2) 17
    ≡ (0, 0x80 ∷ 0x1E ∷ 0x00 ∷ 0x1F ∷ 0x00 ∷ 0x00 ∷ 0x00 ∷ 0x00 ∷ 0x00 ∷ 0x7F ∷ 0xFF ∷ 0xFF ∷ 0xFF ∷ 0xFF ∷ 0xFF ∷ 0xFF ∷ 0xFC ∷ [])
unfolding told
entries-31 = refl

entries-32 : told 0 1 (replicate 32 2) 99 ≡ (10, [])
unfolding told
entries-32 = refl

-- ---- the refusals: the order is 9, 10, 8

no_rows : told (2 ^ 63) 25 [] 0 ≡ (9, [])
unfolding told
no_rows = refl

-- a base of -2^63, and a width that is none
lowest-base : told (2 ^ 63) 64 (7 ∷ []) 0 ≡ (10, [])
unfolding told
lowest-base = refl

no-width : told 0 25 (7 ∷ []) 0 ≡ (10, [])
unfolding told
no-width = refl

-- a width of the table that is not kept
odd-width : told 0 5 (7 ∷ []) 99 ≡ (10, [])
unfolding told
odd-width = refl

no_room : told 100 4 (101 ∷ 102 ∷ 183 ∷ 104 ∷ []) 7 ≡ (8, [])
unfolding told
no_room = refl
