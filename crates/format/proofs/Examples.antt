-- A run for each easy slip that concerns integer runs, and for each limit that the laws leave open, by computation: an edit of the
-- definitions that makes the slip is refused here. The starred table and the specification's examples stand in the crate `promises`.
-- Assumes nothing.
use Rattle.std.specs.Prelude.{Some, None}
use Rattle.format.proofs.Common.{◌≡◌, refl, ℕ, ◌+◌, ◌*◌, Bool, true, false, List, [], ◌∷◌, ◌++◌, length, drop, replicate, ℤ, pos}
use Rattle.format.proofs.Common.{negsuc}
use Rattle.format.specs.declared.Kind.{Kind}
use Rattle.format.specs.declared.Kind.TheVariants.{ShortRepeat, Direct, PatchedBase, Delta}
use Rattle.format.specs.Answers.{Answer, Stream, running, ran, refusing, cutting, refused_at, cut_at, read_whole, broke_at}
use Rattle.format.specs.Digits
use Rattle.format.specs.Fields
use Rattle.format.specs.Runs
use Rattle.format.specs.Runs.{patches}
use Rattle.format.specs.Rows
use Rattle.format.specs.Parse
use Rattle.format.specs.Parse.{parse, into}
use Rattle.format.specs.Streams
use Rattle.format.specs.Streams.{read_all, runs_of, joined_rows}
use Rattle.format.specs.Promises.{answer_of, run_places, stream_answer}

-- six places, each with 7 in it
abbrev lent : List ℤ
lent = replicate 6 (pos 7)

-- a run with its rows in the first places; a refusal at the position, which changes no place
abbrev run : Kind → ℕ → List ℤ → ℕ → Answer × List ℤ
run kind width rows bytes = (ran kind width (length rows) bytes, rows ++ drop (length rows) lent)

abbrev refusal : ℕ → Answer × List ℤ
refusal n = (refused_at n 5, lent)

-- the answer and the places at exit, for a run at byte 5
-- (the `unfolding` line opens all that computes: whoever says `unfolding told` computes with it)
unfoldable pub told : Bool → List ℕ → Answer × List ℤ
unfolding Digits.number Digits.digits Fields.widths Fields.width Fields.least_of Fields.least_width Fields.negative Fields.zigzag Fields.row
    Fields.block_bytes Fields.last_below
    Runs.patches_from Runs.patches Runs.last_is_skip Runs.taken Runs.shared Runs.outside Runs.out_of_place Runs.too_large Runs.layout Runs.joined
    Rows.steps Rows.walk Rows.base_value Rows.patch_at Rows.patched_rows Rows.rows_of Rows.as_i64 Rows.i64_rows
    Parse.bytes Parse.block Parse.varint Parse.short_run Parse.direct_run Parse.fixed_body Parse.delta_body Parse.delta_run Parse.patched_body
    Parse.patched_run Parse.by_kind Parse.parse Parse.into
    Streams.runs_from Streams.read_all Streams.total_rows Streams.joined_rows
told signed bs = (answer_of 5 (length bs) (into 6 (parse bs)), run_places signed lent (into 6 (parse bs)))

-- a repeat of 3 yields 3
repeat-of-three : told true (0x00 ∷ 0x01 ∷ []) ≡ run ShortRepeat 8 (negsuc 0 ∷ negsuc 0 ∷ negsuc 0 ∷ []) 2
unfolding told
repeat-of-three = refl

-- the highest bits of a byte come first
highest-first : told false (0x46 ∷ 0x02 ∷ 0x12 ∷ 0x30 ∷ []) ≡ run Direct 4 (pos 1 ∷ pos 2 ∷ pos 3 ∷ []) 4
unfolding told
highest-first = refl

-- no zigzag on patched rows when the flag says signed
patched-plain : told true (0x86 ∷ 0x03 ∷ 0x03 ∷ 0x20 ∷ 0xE4 ∷ 0x12 ∷ 0x34 ∷ []) ≡ run PatchedBase 4 (negsuc 98 ∷ negsuc 97 ∷ negsuc 96 ∷ negsuc 95 ∷ []) 7
unfolding told
patched-plain = refl

-- the gap of the second patch is counted from the first, and of a patch after a skip from the skip
gaps-from-previous : told true (0x86 ∷ 0x03 ∷ 0x03 ∷ 0x22 ∷ 0x64 ∷ 0x12 ∷ 0x34 ∷ 0x46 ∷ 0x20 ∷ [])
    ≡ run PatchedBase 4 (pos 101 ∷ pos 118 ∷ pos 103 ∷ pos 136 ∷ []) 9
unfolding told
gaps-from-previous = refl

after-a-skip : patches 2 ((255 * 4 + 0) ∷ (10 * 4 + 3) ∷ []) ≡ record { place = 265; patch = 3 } ∷ []
unfolding told
after-a-skip = refl

-- place 4 of 4 rows
place-at-rows : told false (0x86 ∷ 0x03 ∷ 0x03 ∷ 0x41 ∷ 0x64 ∷ 0x12 ∷ 0x34 ∷ 0x8A ∷ []) ≡ refusal 7
unfolding told
place-at-rows = refl

-- two patches at place 2
place-taken : told false (0x86 ∷ 0x03 ∷ 0x03 ∷ 0x22 ∷ 0x64 ∷ 0x12 ∷ 0x34 ∷ 0x94 ∷ 0x10 ∷ []) ≡ refusal 7
unfolding told
place-taken = refl

-- 30-bit values with a 40-bit patch field: the largest patch that fits, and the next; and that beats a place out of the rows
patch-fits : told false (0xB4 ∷ 0x00 ∷ 0x1C ∷ 0x01 ∷ 0x00 ∷ 0x00 ∷ 0x00 ∷ 0x00 ∷ 0x04 ∷ 0x00 ∷ 0x03 ∷ 0xFF ∷ 0xFF ∷ 0xFF ∷ 0xFF ∷ [])
    ≡ run PatchedBase 30 (negsuc 1073741822 ∷ []) 15
unfolding told
patch-fits = refl

patch-too-large : told false (0xB4 ∷ 0x00 ∷ 0x1C ∷ 0x01 ∷ 0x00 ∷ 0x00 ∷ 0x00 ∷ 0x00 ∷ 0x04 ∷ 0x00 ∷ 0x04 ∷ 0x00 ∷ 0x00 ∷ 0x00 ∷ 0x00 ∷ []) ≡ refusal 3
unfolding told
patch-too-large = refl

too-large-first : told false (0xB4 ∷ 0x00 ∷ 0x1C ∷ 0x01 ∷ 0x00 ∷ 0x00 ∷ 0x00 ∷ 0x00 ∷ 0x04 ∷ 0x01 ∷ 0x04 ∷ 0x00 ∷ 0x00 ∷ 0x00 ∷ 0x00 ∷ []) ≡ refusal 3
unfolding told
too-large-first = refl

-- the magnitudes of a falling delta run are taken away
falling : told false (0xC6 ∷ 0x03 ∷ 0x64 ∷ 0x05 ∷ 0x14 ∷ []) ≡ run Delta 4 (pos 100 ∷ pos 97 ∷ pos 96 ∷ pos 92 ∷ []) 5
unfolding told
falling = refl

-- code 0 of a delta header is a fixed delta, and not one bit
fixed-delta : told false (0xC0 ∷ 0x04 ∷ 0x0A ∷ 0x04 ∷ []) ≡ run Delta 0 (pos 10 ∷ pos 12 ∷ pos 14 ∷ pos 16 ∷ pos 18 ∷ []) 4
unfolding told
fixed-delta = refl

-- the tenth byte of a varint: 1, and 2; then ten bytes with the top bit set are refused, whatever follows
tenth-is-1 : told false (0xC0 ∷ 0x00 ∷ 0xFF ∷ 0xFF ∷ 0xFF ∷ 0xFF ∷ 0xFF ∷ 0xFF ∷ 0xFF ∷ 0xFF ∷ 0xFF ∷ 0x01 ∷ 0x00 ∷ []) ≡ run Delta 0 (negsuc 0 ∷ []) 13
unfolding told
tenth-is-1 = refl

tenth-is-2 : told false (0xC0 ∷ 0x00 ∷ 0x80 ∷ 0x80 ∷ 0x80 ∷ 0x80 ∷ 0x80 ∷ 0x80 ∷ 0x80 ∷ 0x80 ∷ 0x80 ∷ 0x02 ∷ 0x00 ∷ []) ≡ refusal 5
unfolding told
tenth-is-2 = refl

eleven-bytes : told false (0xC0 ∷ 0x04 ∷ 0x80 ∷ 0x80 ∷ 0x80 ∷ 0x80 ∷ 0x80 ∷ 0x80 ∷ 0x80 ∷ 0x80 ∷ 0x80 ∷ 0x80 ∷ 0x00 ∷ 0x00 ∷ []) ≡ refusal 5
unfolding told
eleven-bytes = refl

-- one row with a width code is refused, and no row is handed out
one-row : told false (0xC2 ∷ 0x00 ∷ 0x07 ∷ 0x00 ∷ []) ≡ refusal 4
unfolding told
one-row = refl

-- where the input ends: in a value, a varint of which not one byte is there, a varint, rows, a patched base, its values, its list
abbrev cut : ℕ → ℕ → Answer × List ℤ
cut n byte = (cut_at n 5 byte, lent)

cut-value : told false (0x0A ∷ 0x01 ∷ []) ≡ cut 6 6
unfolding told
cut-value = refl

cut-first : told false (0xC0 ∷ 0x04 ∷ []) ≡ cut 12 7
unfolding told
cut-first = refl

cut-base-delta : told false (0xC0 ∷ 0x04 ∷ 0x80 ∷ 0x01 ∷ 0x80 ∷ []) ≡ cut 12 9
unfolding told
cut-base-delta = refl

cut-rows : told false (0x46 ∷ 0x02 ∷ 0x12 ∷ []) ≡ cut 13 7
unfolding told
cut-rows = refl

cut-magnitudes : told false (0xC6 ∷ 0x04 ∷ 0x64 ∷ 0x05 ∷ 0x14 ∷ []) ≡ cut 13 9
unfolding told
cut-magnitudes = refl

cut-base : told false (0x86 ∷ 0x03 ∷ 0x23 ∷ 0x21 ∷ 0x64 ∷ []) ≡ cut 6 9
unfolding told
cut-base = refl

cut-values : told false (0x86 ∷ 0x03 ∷ 0x03 ∷ 0x21 ∷ 0x64 ∷ 0x12 ∷ []) ≡ cut 13 10
unfolding told
cut-values = refl

cut_list : told false (0x86 ∷ 0x03 ∷ 0x03 ∷ 0x22 ∷ 0x64 ∷ 0x12 ∷ 0x34 ∷ 0x46 ∷ []) ≡ cut 14 12
unfolding told
cut_list = refl

-- a stream goes on after its first run, and stops at the first refusal, where the refused run begins
abbrev streamed : List ℕ → Stream × List ℤ
streamed bs = (stream_answer 5 (read_all 6 bs), joined_rows false (runs_of (read_all 6 bs)))

two_runs : streamed (0x00 ∷ 0x01 ∷ 0x00 ∷ 0x02 ∷ []) ≡ (read_whole 6 4 (Some (running ShortRepeat 8 3 2)), pos 1 ∷ pos 1 ∷ pos 1 ∷ pos 2 ∷ pos 2 ∷ pos 2 ∷ [])
unfolding told
two_runs = refl

cut-run : streamed (0x00 ∷ 0x01 ∷ 0x46 ∷ []) ≡ (broke_at (refusing 1 7) 3 2 (Some (running ShortRepeat 8 3 2)), pos 1 ∷ pos 1 ∷ pos 1 ∷ [])
unfolding told
cut-run = refl

cut-list-later : streamed (0x00 ∷ 0x01 ∷ 0x86 ∷ 0x02 ∷ 0x03 ∷ 0x21 ∷ 0x64 ∷ 0x12 ∷ 0x34 ∷ [])
    ≡ (broke_at (cutting 14 7 14) 3 2 (Some (running ShortRepeat 8 3 2)), pos 1 ∷ pos 1 ∷ pos 1 ∷ [])
unfolding told
cut-list-later = refl

-- the last run and not the first; and none
last-of-two : streamed (0x00 ∷ 0x01 ∷ 0x46 ∷ 0x01 ∷ 0x12 ∷ []) ≡ (read_whole 5 5 (Some (running Direct 4 2 3)), pos 1 ∷ pos 1 ∷ pos 1 ∷ pos 1 ∷ pos 2 ∷ [])
unfolding told
last-of-two = refl

no_run : streamed (0x46 ∷ []) ≡ (broke_at (refusing 1 5) 0 0 None, [])
unfolding told
no_run = refl
