-- What the functions of the patched writer hand to each other: the largest of some numbers, the bits that a number has, the list of
-- entries, and the header with the values and the list that it describes.
-- Assumes nothing.
use Rattle.std.specs.Prelude.{◌≡◌, ℕ, ◌+◌, ◌-◌, ◌*◌, ◌^◌, ◌<◌, ◌≤◌, true, false, List, [], ◌∷◌, ◌++◌, map, length, take, ltb}
use Rattle.format.specs.Answers.{Answer}
use Rattle.format.specs.Digits.{AllBelow, digits}
use Rattle.format.specs.Fields.{pick, width}
use Rattle.format.specs.Runs.{Description, entry_width, head, layout}
use Rattle.format.specs.Parse.{Parsed, got, unless}
use Rattle.format.specs.Promises.{answer_of}
use Rattle.format.specs.Writing.{falls, padded, every, bytes_in}
use Rattle.format.specs.PatchedWriting.{Entry, field, code_for, magnitude, Parts, run, parts, header_holds}
use Rattle.writer.specs.declared.patched_base.Header.{Header}
use Rattle.std.specs.Prelude.{Option, None, Some}

-- the numbers of a list are below a bound exactly if r is: r is the largest, or 0 if there is none
pub record Largest (l : List ℕ) (r : ℕ) : Type 0 where
  pub bounds : (b : ℕ) → 1 ≤ b → every (λ x. ltb x b) l ≡ ltb r b

-- x has n bits: n hold it, and no fewer do
pub record BitLength (x n : ℕ) : Type 0 where
  pub most : n ≤ 64
  pub holds : x < 2 ^ n
  pub least : 2 ^ n ≤ 2 * x + 1

-- the entries stand, as fields, in the first places, or there are more of them than places
abbrev pub Listed : ℕ → List Entry → List ℕ → Option ℕ → Type 0
Listed pw es list None = length list < length es
Listed pw es list (Some r) = (r ≤ length list) × (take r list ≡ map (field pw) es)

-- the code of a width, if the table has the width
abbrev pub CodeOf : ℕ → Option ℕ → Type 0
CodeOf bits None = code_for bits ≡ 32
CodeOf bits (Some code) = (code ≡ code_for bits) × (code < 32)

-- the base in that many bytes: the top bit is the sign, the rest the magnitude
abbrev pub sign_magnitude : ℕ → ℕ → ℕ
sign_magnitude base size = pick (falls base) (2 ^ (8 * size - 1)) 0 + magnitude base

-- the run that a header describes, with its values and its list
abbrev pub headed : Header → ℕ → List ℕ → List ℕ → Parts
headed h base vals list = record {
  code = h.code;
  base = digits 256 h.base.bytes (sign_magnitude base h.base.bytes);
  pc = h.patch;
  gw = h.gap;
  values = padded (take h.rows.rows vals);
  list = padded (take h.entries list);
}

-- its four bytes
abbrev pub head_bytes : Header → List ℕ
head_bytes h = head 2 h.code h.rows.rows ++ (((h.base.bytes - 1) * 32 + h.patch) ∷ ((h.gap - 1) * 32 + h.entries) ∷ [])

-- the header's fields are in range, and the values and the list fit their widths
pub record Ready (h : Header) (base : ℕ) (vals list : List ℕ) : Type 0 where
  pub code : h.code < 32
  pub some-rows : 1 ≤ h.rows.rows
  pub rows : h.rows.rows ≤ 512
  pub rows-there : h.rows.rows ≤ length vals
  pub some_bytes : 1 ≤ h.base.bytes
  pub eight : h.base.bytes ≤ 8
  pub base-fits : magnitude base < 2 ^ (8 * h.base.bytes - 1)
  pub patch : h.patch < 32
  pub some-gap : 1 ≤ h.gap
  pub gap : h.gap ≤ 8
  pub widths : width h.patch + h.gap ≤ 64
  pub entries : h.entries ≤ 31
  pub entries-there : h.entries ≤ length list
  pub values-fit : AllBelow (2 ^ width h.code) (take h.rows.rows vals)
  pub list-fits : AllBelow (2 ^ entry_width h.patch h.gap) (take h.entries list)

-- the header of the run that is written, or none if refusal 10 applies
pub record Headed (base w : ℕ) (rs vals list : List ℕ) (h : Header) : Type 0 where
  pub ready : Ready h base vals list
  pub same : headed h base vals list ≡ parts base w rs
  pub holds : header_holds (parts base w rs) ≡ true

abbrev pub HeaderOf : ℕ → ℕ → List ℕ → List ℕ → List ℕ → Option Header → Type 0
HeaderOf base w rs vals list None = header_holds (parts base w rs) ≡ false
HeaderOf base w rs vals list (Some h) = Headed base w rs vals list h

-- refusal 8, or the run
abbrev pub roomed : Parts → ℕ → Parsed Description
roomed d places = unless (ltb places (length (layout (run d)))) 8 (got (run d) [])

pub record PatchedLaid (d : Parts) (out out' : List ℕ) (r : Answer) : Type 0 where
  pub answer : r ≡ answer_of 0 0 (roomed d (length out))
  pub places : out' ≡ bytes_in out (roomed d (length out))
