-- Reading one run, as a function on the list of bytes, in the reading order: "end" for empty input; then refusals 1, 2, 4; then 5 and the
-- cut fields, in byte order (6 a short repeat value or patched base, 12 a varint, 13 packed rows, 14 a patch list); then 3; then 7; then 8.
-- Assumes nothing.
use Rattle.std.specs.Prelude.{ℕ, zero, suc, ◌+◌, ◌-◌, ◌*◌, ◌/◌, ◌%◌, ◌^◌, Bool, true, false, List, [], ◌∷◌, length, take, drop, leb, ltb, eqb}
use Rattle.format.specs.Digits.{number, digits}
use Rattle.format.specs.Fields.{pick, width, Block, bytes_for, pad_bits, last_below}
use Rattle.format.specs.Runs.{Description, short, direct, fixed, delta, patched, patches, too_large, out_of_place, entry_width, row_count}

-- why reading refuses: for the reason that a number names; or because the input ends in a field, with the number of that refusal and how
-- many bytes are left from the field's first on
pub data Reason : Type 0 where
  plain : ℕ → Reason
  cut : ℕ → ℕ → Reason

-- the input ends in a field: the refusal's number, and the bytes from the field's first on
abbrev pub cut_in : ℕ → List ℕ → Reason
cut_in n bs = cut n (length bs)

-- more input may turn the refusal into another answer: the input ends in the run's header (1), or in a field
abbrev pub unfinished : Reason → Bool
unfinished (plain n) = eqb n 1
unfinished (cut n left) = true

-- what reading gives: the end of the input, a thing and the bytes after it, or a refusal
pub data Parsed (A : Type 0) : Type 0 where
  end : Parsed A
  got : A → List ℕ → Parsed A
  refused : Reason → Parsed A

-- read one thing, and go on with it and the bytes after it
abbrev pub then : {A B : Type 0} → Parsed A → (A → List ℕ → Parsed B) → Parsed B
then end f = end
then (got a s) f = f a s
then (refused r) f = refused r

-- refuse with a number if the test passes, else go on
abbrev pub unless : {A : Type 0} → Bool → ℕ → Parsed A → Parsed A
unless true n m = refused (plain n)
unless false n m = m

-- n bytes; c is the number of the refusal if the input ends before them
unfoldable pub bytes : ℕ → ℕ → List ℕ → Parsed (List ℕ)
bytes c n bs = pick (leb n (length bs)) (got (take n bs) (drop n bs)) (refused (cut_in c bs))

-- a block of n fields of w bits, out of the number that its bytes write
abbrev pub unpack : ℕ → ℕ → ℕ → Block
unpack w n x = record { values = digits (2 ^ w) n (x / 2 ^ pad_bits w n); pad = x % 2 ^ pad_bits w n }

unfoldable pub block : ℕ → ℕ → ℕ → List ℕ → Parsed Block
block c w n bs = then (bytes c (bytes_for (n * w)) bs) λ s rest. got (unpack w n (number 256 s)) rest

-- a varint of at most k bytes: refusal 5 if its k-th byte is above 1 (r is the refusal if the input ends in it)
unfoldable pub varint : Reason → ℕ → List ℕ → Parsed (List ℕ)
varint r zero bs = refused (plain 5)
varint r (suc k) [] = refused r
varint r (suc k) (b ∷ bs) =
    pick (ltb b 128) (unless (leb (last_below k) b) 5 (got (b ∷ []) bs)) (then (varint r k bs) λ v rest. got (b ∷ v) rest)

-- fields of a two-byte header: the width code, and rows-1
abbrev pub code_of : ℕ → ℕ
code_of a = a % 64 / 2

abbrev pub rows_less : ℕ → ℕ → ℕ
rows_less a b = a % 2 * 256 + b

unfoldable pub short_run : ℕ → List ℕ → Parsed Description
short_run a bs = then (bytes 6 (a / 8 + 1) bs) λ value rest. got (short (a % 8 + 3) value) rest

unfoldable pub direct_run : ℕ → List ℕ → Parsed Description
direct_run a [] = refused (plain 1)
direct_run a (b ∷ bs) = then (block 13 (width (code_of a)) (rows_less a b + 1) bs) λ k rest. got (direct (code_of a) k) rest

-- the body of a delta run of `rows` rows, with code 0
unfoldable pub fixed_body : ℕ → List ℕ → Parsed Description
fixed_body rows bs =
    then (varint (cut_in 12 bs) 10 bs) λ first s.
    then (varint (cut_in 12 s) 10 s) λ base rest.
    got (fixed rows first base) rest

-- the body of a delta run of n+2 rows, with another code
unfoldable pub delta_body : ℕ → ℕ → List ℕ → Parsed Description
delta_body code n bs =
    then (varint (cut_in 12 bs) 10 bs) λ first s.
    then (varint (cut_in 12 s) 10 s) λ base t.
    then (block 13 (width code) n t) λ k rest.
    got (delta code first base k) rest

unfoldable pub delta_run : ℕ → List ℕ → Parsed Description
delta_run a [] = refused (plain 1)
delta_run a (b ∷ bs) =
    pick (eqb (code_of a) 0) (fixed_body (rows_less a b + 1) bs) (unless (eqb (rows_less a b) 0) 4 (delta_body (code_of a) (rows_less a b - 1) bs))

-- width code, rows, base bytes, patch width code, gap width, list length
unfoldable pub patched_body : ℕ → ℕ → ℕ → ℕ → ℕ → ℕ → List ℕ → Parsed Description
patched_body code rows bw pc gw len bs =
    unless (ltb 64 (width pc + gw)) 2
    (then (bytes 6 bw bs) λ base s.
    then (block 13 (width code) rows s) λ k t.
    then (block 14 (entry_width pc gw) len t) λ l rest.
    unless (too_large (width code) (patches (width pc) l.values)) 3
    (unless (out_of_place (width pc) rows l.values) 7
    (got (patched code base pc gw k l) rest)))

unfoldable pub patched_run : ℕ → List ℕ → Parsed Description
patched_run a [] = refused (plain 1)
patched_run a (b ∷ []) = refused (plain 1)
patched_run a (b ∷ c ∷ []) = refused (plain 1)
patched_run a (b ∷ c ∷ e ∷ bs) = patched_body (code_of a) (rows_less a b + 1) (c / 32 + 1) (c % 32) (e / 32 + 1) (e % 32) bs

-- the top two bits are the kind
unfoldable pub by_kind : ℕ → ℕ → List ℕ → Parsed Description
by_kind zero a bs = short_run a bs
by_kind (suc zero) a bs = direct_run a bs
by_kind (suc (suc zero)) a bs = patched_run a bs
by_kind (suc (suc (suc k))) a bs = delta_run a bs

unfoldable pub parse : List ℕ → Parsed Description
parse [] = end
parse (a ∷ bs) = by_kind (a / 64) a bs

-- refusal 8: the output has too few places
unfoldable pub into : ℕ → Parsed Description → Parsed Description
into places m = then m λ d rest. unless (ltb places (row_count d)) 8 (got d rest)
