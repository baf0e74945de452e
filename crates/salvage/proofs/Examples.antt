-- A call for each slip, by computation. The stream has five rows of 300 (of 150 if signed), and then a byte that is no run. Assumes nothing.
use mathlib.Core.Path.{◌≡◌, refl}
use Prim.Native.Nat.{ℕ}
use mathlib.Core.Bool.{Bool, true, false}
use mathlib.Core.List.{List, [], ◌∷◌}
use lib.IntN.{ℤ, pos, negsuc}
use Rattle.format.specs.Digits
use Rattle.format.specs.Fields
use Rattle.format.specs.Runs
use Rattle.format.specs.Parse
use Rattle.format.specs.Streams
use Rattle.format.specs.Writing
use Rattle.text.specs.Ascii.{ascii}
use Rattle.text.specs.Decimal
use Rattle.salvage.specs.Salvage.{Call, refused, written}
use Rattle.salvage.specs.Salvage as Salvage

abbrev five : List ℕ
five = 0x0A ∷ 0x01 ∷ 0x2C ∷ []

abbrev damaged : List ℕ
damaged = 0x0A ∷ 0x01 ∷ 0x2C ∷ 0xFF ∷ []

-- what a call comes to
-- (the `unfolding` line opens all that computes: whoever says `unfolding called_in` computes with it)
unfoldable called_in : ℕ → ℕ → Bool → ℤ → List ℕ → List ℕ → List ℕ → Call
unfolding Digits.number Digits.digits Fields.widths Fields.width Fields.least_of Fields.least_width Fields.negative Fields.zigzag Fields.zigzagged Fields.row
    Fields.block_bytes Fields.last_below
    Fields.shortest_in Fields.shortest Runs.patches_from Runs.patches Runs.last_is_skip Runs.taken Runs.shared Runs.outside Runs.out_of_place Runs.too_large
    Runs.layout Runs.joined
    Parse.bytes Parse.block Parse.varint Parse.short_run Parse.direct_run Parse.fixed_body Parse.delta_body Parse.delta_run Parse.patched_body Parse.patched_run
    Parse.by_kind Parse.parse Parse.into
    Streams.runs_from Streams.read_all Streams.stream Streams.total_rows Writing.stored Writing.steps_of Writing.base_delta Writing.values_of Writing.described
    Decimal.decimal_in Decimal.decimal
    Salvage.groups Salvage.rising Salvage.starts_right Salvage.kept Salvage.fill_runs Salvage.mended Salvage.salvaged Salvage.line Salvage.report
    Salvage.salvaging
called_in places lines signed fill bs starts counts = Salvage.salvaging signed fill bs starts counts places lines

-- .. with 20 bytes for the stream and 40 for the report
abbrev called : Bool → ℤ → List ℕ → List ℕ → List ℕ → Call
called signed fill bs starts counts = called_in 20 40 signed fill bs starts counts

-- one kept and one replaced, with the fill row zigzagged if signed
signed-fill : called true (negsuc 1) damaged (0 ∷ 3 ∷ []) (5 ∷ 7 ∷ [])
    ≡ written (0x0A ∷ 0x01 ∷ 0x2C ∷ 0xC0 ∷ 0x06 ∷ 0x03 ∷ 0x00 ∷ []) (ascii "kept 0 5\nreplaced 1 7\n")
unfolding called_in
signed-fill = refl

plain-fill : called false (pos 300) damaged (0 ∷ 3 ∷ []) (5 ∷ 1 ∷ [])
    ≡ written (0x0A ∷ 0x01 ∷ 0x2C ∷ 0xC0 ∷ 0x00 ∷ 0xAC ∷ 0x02 ∷ 0x00 ∷ []) (ascii "kept 0 5\nreplaced 1 1\n")
unfolding called_in
plain-fill = refl

-- the remainder last
remainder-last : called false (pos 1) (0xFF ∷ []) (0 ∷ []) (514 ∷ [])
    ≡ written (0xC1 ∷ 0xFF ∷ 0x01 ∷ 0x00 ∷ 0xC0 ∷ 0x01 ∷ 0x01 ∷ 0x00 ∷ []) (ascii "replaced 0 514\n")
unfolding called_in
remainder-last = refl

-- a whole stream of other rows is not kept
other-rows : called false (pos 1) five (0 ∷ []) (6 ∷ []) ≡ written (0xC0 ∷ 0x05 ∷ 0x01 ∷ 0x00 ∷ []) (ascii "replaced 0 6\n")
unfolding called_in
other-rows = refl

-- no rows: bytes are replaced by none, and none are kept; the last start may be the end
no_rows : called false (pos 1) damaged (0 ∷ 3 ∷ 4 ∷ []) (5 ∷ 0 ∷ 0 ∷ []) ≡ written five (ascii "kept 0 5\nreplaced 1 0\nkept 2 0\n")
unfolding called_in
no_rows = refl

-- an empty stream has no group, or one
none : called false (pos 1) [] [] [] ≡ written [] []
unfolding called_in
none = refl

one-empty : called false (pos 1) [] (0 ∷ []) (2 ∷ []) ≡ written (0xC0 ∷ 0x01 ∷ 0x01 ∷ 0x00 ∷ []) (ascii "replaced 0 2\n")
unfolding called_in
one-empty = refl

-- 17: a stream without a group, columns of unequal length, a first start other than 0, starts that do not rise, a start past the end; 8 comes after it
no-group : called false (pos 1) five [] [] ≡ refused 17
unfolding called_in
no-group = refl

unequal : called false (pos 1) five (0 ∷ []) (5 ∷ 0 ∷ []) ≡ refused 17
unfolding called_in
unequal = refl

late : called false (pos 1) five (1 ∷ []) (5 ∷ []) ≡ refused 17
unfolding called_in
late = refl

equal : called false (pos 1) five (0 ∷ 0 ∷ []) (5 ∷ 0 ∷ []) ≡ refused 17
unfolding called_in
equal = refl

past : called_in 0 0 false (pos 1) five (0 ∷ 4 ∷ []) (5 ∷ 0 ∷ []) ≡ refused 17
unfolding called_in
past = refl

-- 8: the stream lacks a byte, or the report
short-stream : called_in 2 40 false (pos 1) five (0 ∷ []) (5 ∷ []) ≡ refused 8
unfolding called_in
short-stream = refl

short-report : called_in 3 8 false (pos 1) five (0 ∷ []) (5 ∷ []) ≡ refused 8
unfolding called_in
short-report = refl

room-enough : called_in 3 9 false (pos 1) five (0 ∷ []) (5 ∷ []) ≡ written five (ascii "kept 0 5\n")
unfolding called_in
room-enough = refl
