-- A patched base header's fields are in range; the widths that it names, the parts of the body behind it, and where the input ends in these.
-- Assumes nothing.
use Rattle.std.specs.Prelude.{◌≡◌, ℕ, ◌+◌, ◌-◌, ◌*◌, ◌≤◌, ◌<◌, List, ◌++◌, map, length, take, drop, ℤ, false, ltb, Result, MatchResult}
use Rattle.format.specs.Fields.{pick, width, bytes_for}
use Rattle.format.specs.Answers.{cutting}
use Rattle.format.specs.Runs.{Description, entry_width, out_of_place}
use Rattle.format.specs.Rows.{as_i64, base_value}
use Rattle.format.specs.Parse.{Parsed, patched_body}
use Rattle.format.specs.declared.Refusal.{Refusal}
use Rattle.util.specs.Packed.{fields, Width}
use Rattle.rle_v2.specs.Pass.{based}
use Rattle.rle_v2.specs.RunAt.{Refuses}
use Rattle.rle_v2.specs.PatchList.{Listed, list_number, patch_all}
use Rattle.rle_v2.specs.declared.patched_base.Found.{Found}
use Rattle.rle_v2.specs.declared.patched_base.Header.{Header}
use Rattle.rle_v2.specs.declared.patched_base.Widths.{Widths}
use Rattle.rle_v2.specs.declared.patched_base.Parts.{Parts}

pub record InRange (h : Header) : Type 0 where
  pub code : h.code < 32
  pub rows : h.rows.rows ≤ 512
  pub some_bytes : 1 ≤ h.base
  pub eight : h.base ≤ 8
  pub patch : h.patch < 32
  pub some-gap : 1 ≤ h.gap
  pub gap : h.gap ≤ 8
  pub entries : h.entries ≤ 31

pub record IsWidths (h : Header) (w : Widths) : Type 0 where
  pub bits_is : w.bits ≡ width h.code
  pub patch-is : w.patch ≡ width h.patch
  pub entry-is : w.entry ≡ entry_width h.patch h.gap

-- the bytes of the values, and of the list
abbrev pub value_bytes : Header → ℕ
value_bytes h = bytes_for (h.rows.rows * width h.code)

abbrev pub list_bytes : Header → ℕ
list_bytes h = bytes_for (h.entries * entry_width h.patch h.gap)

pub record IsParts (at : ℕ) (h : Header) (q : Parts) : Type 0 where
  pub values-is : q.values.bytes ≡ at + 4 + h.base
  pub list-is : q.list.bytes ≡ at + 4 + h.base + value_bytes h
  pub end_is : q.end.bytes ≡ at + 4 + h.base + value_bytes h + list_bytes h

-- what stands behind the header's four bytes
abbrev pub body_at : Header → List ℕ → ℕ → Parsed Description
body_at h s at = patched_body h.code h.rows.rows h.base h.patch h.gap h.entries (drop (at + 4) s)

-- of `len` bytes, the last stand in the base; or in the values, which begin at a byte; or in the list, which begins at another
unfoldable pub cut_body : ℕ → ℕ → ℕ → ℕ → Refusal
cut_body len at values list = pick (ltb len values) (cutting 6 at (at + 4)) (pick (ltb len list) (cutting 13 at values) (cutting 14 at list))

-- the widths and parts of what was found, and the header, by its codes and its gap width
abbrev pub head_of : ℕ → ℕ → ℕ → Found → Header
head_of code patch gap f = record { code = code; rows = f.rows; base = f.base; patch = patch; gap = gap; entries = f.entries }

abbrev pub widths_of : Found → Widths
widths_of f = record { bits = f.bits; patch = f.patch; entry = f.entry }

abbrev pub parts_of : Found → Parts
parts_of f = record { values = f.values; list = f.list; end = f.end }

-- the run at `at` is all there, and these are its fields, widths and parts; m is what reading it gives
pub record Headed (s : List ℕ) (at : ℕ) (m : Parsed Description) (h : Header) (w : Widths) (q : Parts) : Type 0 where
  pub fields_fit : InRange h
  pub widths : IsWidths h w
  pub not-2 : w.patch + h.gap ≤ 64
  pub parts : IsParts at h q
  pub there : q.end.bytes ≤ length s
  pub body : m ≡ body_at h s at

abbrev pub number_of : List ℕ → Found → ℕ
number_of s f = list_number f.bits f.patch f.rows.rows (fields f.entry f.entries (drop f.list.bytes s))

-- it passed the tests of its list too
pub record Passed (s : List ℕ) (at : ℕ) (m : Parsed Description) (h : Header) (w : Widths) (q : Parts) : Type 0 where
  pub headed : Headed s at m h w q
  pub list : list_number w.bits w.patch h.rows.rows (fields w.entry h.entries (drop q.list.bytes s)) ≡ 0

pub record Heads (s : List ℕ) (at : ℕ) (m : Parsed Description) (f : Found) : Type 0 where
  pub code : ℕ
  pub patch : ℕ
  pub gap : ℕ
  pub headed : Headed s at m (head_of code patch gap f) (widths_of f) (parts_of f)

-- what was found is so
abbrev pub IsFound : List ℕ → ℕ → Parsed Description → Result Found Refusal → Type 0
IsFound s at m r = MatchResult r (Heads s at m) (Refuses s at m)

-- and its list passed
pub record Checked (s : List ℕ) (at : ℕ) (m : Parsed Description) (f : Found) : Type 0 where
  pub heads : Heads s at m f
  pub list : number_of s f ≡ 0

abbrev pub IsChecked : List ℕ → ℕ → Parsed Description → Result Found Refusal → Type 0
IsChecked s at m r = MatchResult r (Checked s at m) (Refuses s at m)

-- what laying its rows down asks for
pub record Ready (s : List ℕ) (at : ℕ) (f : Found) : Type 0 where
  pub some_bytes : 1 ≤ f.base
  pub eight : f.base ≤ 8
  pub base_there : at + 4 + f.base ≤ length s
  pub wide : Width f.bits
  pub narrow : f.bits ≤ 64
  pub rows : f.rows.rows ≤ 512
  pub values-in : f.values.bytes ≤ length s
  pub values-there : bytes_for (f.rows.rows * f.bits) ≤ length s - f.values.bytes
  pub list-in : f.list.bytes ≤ length s
  pub list-there : Listed f.entry f.patch f.entries (drop f.list.bytes s)
  pub in_place : out_of_place f.patch f.rows.rows (fields f.entry f.entries (drop f.list.bytes s)) ≡ false

-- the places after its rows: the values with the base added, and then the patches
abbrev pub patched_places : List ℕ → ℕ → Found → List ℤ → List ℤ
patched_places s at f out =
    patch_all f.bits f.patch 0
    (based (base_value (take f.base (drop (at + 4) s))) (map as_i64 (fields f.bits f.rows.rows (drop f.values.bytes s)))
    ++ drop f.rows.rows out)
    (fields f.entry f.entries (drop f.list.bytes s))
