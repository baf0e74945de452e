-- Writing patched runs (FORMAT.md, "Patched writer"): the description that rows, a base and a value width in bits stand for, and when they
-- are refused.
-- Rows and base are 64-bit patterns here, as in Writing; the promise turns i64 into them. Nothing here reads.
-- Assumes nothing.
use Rattle.std.specs.Prelude.{◌≡◌, ℕ, zero, suc, ◌+◌, ◌-◌, ◌*◌, ◌/◌, ◌%◌, ◌^◌, Bool, not, ◌&&◌, List, [], ◌∷◌, ◌++◌, map, length, replicate, leb, ltb, eqb, ℤ}
use Rattle.format.specs.Answers.{Answer}
use Rattle.format.specs.Digits.{digits}
use Rattle.format.specs.Fields.{pick, width, two64, Block}
use Rattle.format.specs.Kept.{is_kept_width}
use Rattle.format.specs.Runs.{Description, patched, Patch, layout}
use Rattle.format.specs.Rows.{as_u64}
use Rattle.format.specs.Parse.{Parsed, got, unless}
use Rattle.format.specs.Promises.{answer_of}
use Rattle.format.specs.Writing.{minus, falls, padded, every, between, bytes_in}

-- ---- VALUES AND PATCHES

-- differences row - base, modulo 2^64
abbrev pub differences : ℕ → List ℕ → List ℕ
differences base rs = map (λ r. minus r base) rs

-- they keep their low w bits ..
abbrev pub lows : ℕ → List ℕ → List ℕ
lows w ds = map (λ d. d % 2 ^ w) ds

-- .. and what is above becomes a patch: those of the rows from place p on
unfoldable pub patches_above : ℕ → ℕ → List ℕ → List Patch
patches_above w p [] = []
patches_above w p (d ∷ ds) =
    pick (eqb (d / 2 ^ w) 0) (patches_above w (suc p) ds) (record { place = p; patch = d / 2 ^ w } ∷ patches_above w (suc p) ds)

-- ---- ENTRIES

pub record Entry : Type 0 where
  pub gap : ℕ
  pub patch : ℕ

abbrev pub skip : Entry
skip = record { gap = 255; patch = 0 }

-- gaps above 255 use skips: a gap of 255·k is k-1 skips and then a gap of 255
abbrev pub skips_in : ℕ → ℕ
skips_in gap = (gap - 1) / 255

-- each patch has one entry, after the skips of its gap; `before` is the place of the patch before the list, and 0 at its start
unfoldable pub entries_from : ℕ → List Patch → List Entry
entries_from before [] = []
entries_from before (q ∷ qs) =
    let gap = q.place - before in
    replicate (skips_in gap) skip ++ (record { gap = gap - 255 * skips_in gap; patch = q.patch } ∷ entries_from q.place qs)

-- an entry as a field of the list: the patch is the low pw bits, and the gap is all bits above
abbrev pub field : ℕ → Entry → ℕ
field pw e = e.gap * 2 ^ pw + e.patch

-- ---- THE LEAST THAT WORKS

-- the least number from n up that passes the test, if k are tried; n + k if none of them does
unfoldable pub least_from : (ℕ → Bool) → ℕ → ℕ → ℕ
least_from test n zero = n
least_from test n (suc k) = pick (test n) n (least_from test (suc n) k)

abbrev pub all_fit : ℕ → List ℕ → Bool
all_fit bits l = every (λ x. ltb x (2 ^ bits)) l

-- the code of a width: 32 if it is no table width
unfoldable pub code_for : ℕ → ℕ
code_for w = least_from (λ c. eqb (width c) w) 0 32

-- the least table width for the patches, by its code: 1 bit if there is none
unfoldable pub patch_code : List Patch → ℕ
patch_code qs = least_from (λ c. all_fit (width c) (map (λ q. q.patch) qs)) 0 32

-- the least gap width, 1 to 8: 1 if there is no entry
unfoldable pub gap_width : List Entry → ℕ
gap_width es = least_from (λ g. all_fit g (map (λ e. e.gap) es)) 1 8

-- the base read as i64, without its sign
abbrev pub magnitude : ℕ → ℕ
magnitude base = pick (falls base) (two64 - base) base

-- base bytes: the top bit is the sign, the rest the magnitude. 1 to 8 of them; only -2^63 would need 9
unfoldable pub base_size : ℕ → ℕ
base_size base = least_from (λ n. ltb (magnitude base) (2 ^ (8 * n - 1))) 1 8

unfoldable pub base_bytes : ℕ → List ℕ
base_bytes base = digits 256 (base_size base) (pick (falls base) (2 ^ (8 * base_size base - 1)) 0 + magnitude base)

-- ---- WHAT IS WRITTEN

-- the fields of a patched run: width code, base bytes, patch width code, gap width, values, list of entries
pub record Parts : Type 0 where
  pub code : ℕ
  pub base : List ℕ
  pub pc : ℕ
  pub gw : ℕ
  pub values : Block
  pub list : Block

abbrev pub run : Parts → Description
run d = patched d.code d.base d.pc d.gw d.values d.list

abbrev pub patches_in : ℕ → ℕ → List ℕ → List Patch
patches_in base w rs = patches_above w 0 (differences base rs)

abbrev pub entries_of : ℕ → ℕ → List ℕ → List Entry
entries_of base w rs = entries_from 0 (patches_in base w rs)

-- zero padding
unfoldable pub parts : ℕ → ℕ → List ℕ → Parts
parts base w rs = record {
  code = code_for w;
  base = base_bytes base;
  pc = patch_code (patches_in base w rs);
  gw = gap_width (entries_of base w rs);
  values = padded (lows w (differences base rs));
  list = padded (map (field (width (patch_code (patches_in base w rs)))) (entries_of base w rs));
}

-- ---- WHEN IT IS REFUSED

-- the header has room for the fields, and refusal 2 does not apply
abbrev pub header_holds : Parts → Bool
header_holds d = ltb d.code 32 && (leb (length d.base) 8 && (leb (width d.pc + d.gw) 64 && ltb (length d.list.values) 32))

-- writing order: 9, 10, 8; a width that is not kept is refused like one that is not in the table
unfoldable pub writing_patched : ℕ → ℕ → List ℕ → ℕ → Parsed Description
writing_patched base w rs places =
    unless (not (between 1 512 (length rs))) 9
    (unless (not (is_kept_width w && header_holds (parts base w rs))) 10
    (unless (ltb places (length (layout (run (parts base w rs))))) 8
    (got (run (parts base w rs)) [])))

-- THE PROMISE: the answer, whose place is 0 if it refuses, and every place of the caller's at exit
pub record PatchedWritten (rows : List ℤ) (base : ℤ) (w : ℕ) (out out' : List ℕ) (r : Answer) : Type 0 where
  pub answer : r ≡ answer_of 0 0 (writing_patched (as_u64 base) w (map as_u64 rows) (length out))
  pub places : out' ≡ bytes_in out (writing_patched (as_u64 base) w (map as_u64 rows) (length out))
