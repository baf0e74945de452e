-- The README's input lines and what they write, by computation. Assumes nothing.
use mathlib.Core.Path.{◌≡◌, refl}
use Prim.Native.Nat.{ℕ}
use mathlib.Core.List.{List}
use Rattle.format.specs.Digits
use Rattle.format.specs.Fields
use Rattle.format.specs.Runs
use Rattle.format.specs.Rows
use Rattle.format.specs.Parse
use Rattle.text.specs.Ascii.{ascii}
use Rattle.text.specs.Hexadecimal
use Rattle.text.specs.Decimal
use Rattle.lines.specs.Line

-- (the `unfolding` line opens all that computes: whoever says `unfolding written` computes with it)
unfoldable written : List ℕ → List ℕ
unfolding Digits.number Digits.digits Fields.widths Fields.width Fields.least_of Fields.least_width Fields.negative Fields.zigzag Fields.row Fields.block_bytes
    Fields.last_below
    Runs.patches_from Runs.patches Runs.last_is_skip Runs.taken Runs.shared Runs.outside Runs.out_of_place Runs.too_large Runs.layout
    Rows.steps Rows.walk Rows.base_value Rows.patch_at Rows.patched_rows Rows.rows_of Rows.as_i64 Rows.i64_rows
    Parse.bytes Parse.block Parse.varint Parse.short_run Parse.direct_run Parse.fixed_body Parse.delta_body Parse.delta_run Parse.patched_body Parse.patched_run
    Parse.by_kind Parse.parse Parse.into
    Hexadecimal.hex_value Hexadecimal.all_hex Hexadecimal.hex_bytes Decimal.decimal_in Decimal.decimal Decimal.row_text Decimal.rows_text
    Line.bad_line Line.reply_text Line.frame_of Line.frame_text Line.answer_text
written line = Line.answer_text line

five-rows : written (ascii "000A012C") ≡ ascii "run 5 3 300 300 300 300 300"
unfolding written
five-rows = refl

three-rows : written (ascii "0046021230") ≡ ascii "run 3 4 1 2 3"
unfolding written
three-rows = refl

no-room-for-a-gap : written (ascii "0086031F21") ≡ ascii "refused 2"
unfolding written
no-room-for-a-gap = refl

-- 30 bits and a patch field of 40, whose top bits are zero
wide-field : written (ascii "00B4001C010500000004000000000003") ≡ ascii "run 1 15 3221225478"
unfolding written
wide-field = refl

no_run : written (ascii "01") ≡ ascii "end"
unfolding written
no_run = refl

no-digits : written (ascii "zz") ≡ ascii "bad line"
unfolding written
no-digits = refl

-- either letter case; a minus sign; the ends of 64 bits
lower-case : written (ascii "010a012c") ≡ ascii "run 5 3 150 150 150 150 150"
unfolding written
lower-case = refl

past_the_end : written (ascii "01C001FEFFFFFFFFFFFFFFFF0102") ≡ ascii "run 2 13 9223372036854775807 -9223372036854775808"
unfolding written
past_the_end = refl

-- and a tenth byte that says more
tenth-byte : written (ascii "01C001FEFFFFFFFFFFFFFFFF0202") ≡ ascii "refused 5"
unfolding written
tenth-byte = refl
