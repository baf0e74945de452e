-- Writing patched runs (FORMAT.md, "Patched writer"): what is shown of it. "These rows" are 64-bit patterns, under either flag.
-- Assumes nothing.
use Rattle.std.specs.Prelude.{◌≡◌, ◌↔◌, ◌⊎◌, ℕ, ◌^◌, ◌<◌, ◌≤◌, Bool, true, List, [], ◌∷◌, ◌++◌, map, length, drop, T, ℤ}
use Rattle.std.specs.Int.{w64}
use Rattle.std.proofs.Common.{SFits}
use Rattle.format.specs.declared.Kind.TheVariants.{PatchedBase}
use Rattle.format.specs.Digits.{AllBelow, number}
use Rattle.format.specs.Fields.{two64, width}
use Rattle.format.specs.Kept.{is_kept_width}
use Rattle.format.specs.Runs.{Valid, gap_of, patch_of, is_skip, patches, layout}
use Rattle.format.specs.Rows.{base_value, rows_of, as_u64}
use Rattle.format.specs.Answers.{Answer, ran, answer_number, answer_place}
use Rattle.format.specs.Promises.{RunRead}
use Rattle.format.specs.Writing.{AllI64}
use Rattle.format.specs.PatchedWriting.{patches_in, Parts, run, parts, header_holds, PatchedWritten}

-- a valid patched description with this base and value width, each gap within its gap width, that has these rows
pub record Describes (signed : Bool) (base w : ℕ) (rs : List ℕ) (d : Parts) : Type 0 where
  pub valid : Valid (run d)
  pub has_base : base_value d.base ≡ base
  pub has_width : width d.code ≡ w
  pub gaps : AllBelow (2 ^ d.gw) (map (gap_of (width d.pc)) d.list.values)
  pub has-rows : rows_of signed (run d) ≡ rs

-- rows without a patch have no entry except skips: each entry is a skip, or its patch is not 0
abbrev pub OnlySkips : ℕ → List ℕ → Type 0
OnlySkips pw [] = Unit {0}
OnlySkips pw (e ∷ es) = (T (is_skip pw e) ⊎ (1 ≤ patch_of pw e)) × OnlySkips pw es

-- e is no better than d: not in base bytes, then not in patch width, then not in gap width, then not in entries
pub record NoBetter (d e : Parts) : Type 0 where
  pub base-bytes : length d.base ≤ length e.base
  pub patch-width : length e.base ≡ length d.base → width d.pc ≤ width e.pc
  pub gap-width : length e.base ≡ length d.base → width e.pc ≡ width d.pc → d.gw ≤ e.gw
  pub entries : length e.base ≡ length d.base → width e.pc ≡ width d.pc → e.gw ≡ d.gw
      → length d.list.values ≤ length e.list.values

-- THE RUN THAT THE RULES ASK FOR: it describes the rows, rows without a patch have no entry, a base of 0 has no sign bit, the padding is
-- zero, and each choice is the least that works
pub record Chosen (signed : Bool) (base w : ℕ) (rs : List ℕ) (d : Parts) : Type 0 where
  pub describes : Describes signed base w rs d
  pub only-skips : OnlySkips (width d.pc) d.list.values
  pub no_sign : base ≡ 0 → number 256 d.base ≡ 0
  pub values-pad : d.values.pad ≡ 0
  pub list-pad : d.list.pad ≡ 0
  pub least : (e : Parts) → Describes signed base w rs e → OnlySkips (width e.pc) e.list.values → NoBetter d e

pub record PatchedMeaning (signed : Bool) (base w : ℕ) (rs : List ℕ) : Type 0 where
  -- the run that is described is valid exactly if a header holds it (10 comes then only from a W that is not kept) ..
  pub exactly-valid : T (header_holds (parts base w rs)) ↔ Valid (run (parts base w rs))
  -- .. which is exactly where the rows have any description with that base and W and gaps within the gap width ..
  pub exactly-some : T (header_holds (parts base w rs)) ↔ ((d : Parts) × Describes signed base w rs d)
  -- .. and it is then the one that the rules ask for
  pub chosen : T (header_holds (parts base w rs)) → Chosen signed base w rs (parts base w rs)
  pub only : (d : Parts) → Chosen signed base w rs d → d ≡ parts base w rs
  -- its entries that are no skips are the patches of the rows that have one
  pub its-patches : patches (width (parts base w rs).pc) (parts base w rs).list.values ≡ patches_in base w rs
  -- No description of the rows, with other entries or not, has fewer base bytes, a lesser patch width or fewer entries; and none without
  -- other entries has a lesser gap width.
  pub least-base : (d : Parts) → Describes signed base w rs d → length (parts base w rs).base ≤ length d.base
  pub least-patch : (d : Parts) → Describes signed base w rs d → width (parts base w rs).pc ≤ width d.pc
  pub least-list : (d : Parts) → Describes signed base w rs d → length (parts base w rs).list.values ≤ length d.list.values
  pub least-gap : (d : Parts) → Describes signed base w rs d → OnlySkips (width d.pc) d.list.values → (parts base w rs).gw ≤ d.gw

abbrev pub PatchedMeaningHolds : Type 0
PatchedMeaningHolds =
    (signed : Bool) (base w : ℕ) (rs : List ℕ) → base < two64 → AllBelow two64 rs → 1 ≤ length rs → length rs ≤ 512
    → PatchedMeaning signed base w rs

-- ---- of the promise

-- W is a kept width, and there is some description of the rows
pub record Some (signed : Bool) (base : ℤ) (w : ℕ) (rows : List ℤ) : Type 0 where
  pub kept : is_kept_width w ≡ true
  pub described : Parts
  pub describes : Describes signed (as_u64 base) w (map as_u64 rows) described

abbrev pub written : ℤ → ℕ → List ℤ → List ℕ
written base w rows = layout (run (parts (as_u64 base) w (map as_u64 rows)))

-- Each refusal exactly when its line holds, in the order 9, 10, 8, with place 0 and nothing touched;
-- and else the run's bytes in the first places.
pub record PatchedTable (signed : Bool) (rows : List ℤ) (base : ℤ) (w : ℕ) (out out' : List ℕ) (r : Answer) : Type 0 where
  pub nine : (answer_number r ≡ 9) ↔ ((length rows ≡ 0) ⊎ (512 < length rows))
  -- rows 1 to 512, and W is not kept, or no valid patched description with that base and W, each gap within its gap width, has those rows
  pub ten : (answer_number r ≡ 10) ↔ ((1 ≤ length rows) × (length rows ≤ 512) × (Some signed base w rows → ⊥))
  pub eight : (answer_number r ≡ 8) ↔ (Some signed base w rows × (length out < length (written base w rows)))
  pub accepted : (answer_number r ≡ 0) ↔ (Some signed base w rows × (length (written base w rows) ≤ length out))
  pub place : answer_place r ≡ 0
  pub unchanged : (answer_number r ≡ 0 → ⊥) → out' ≡ out
  pub answer : answer_number r ≡ 0 → r ≡ ran PatchedBase w (length rows) (length (written base w rows))
  pub bytes : answer_number r ≡ 0 → out' ≡ written base w rows ++ drop (length (written base w rows)) out

abbrev pub PatchedTableHolds : Type 0
PatchedTableHolds =
    (signed : Bool) (rows : List ℤ) (base : ℤ) (w : ℕ) (out out' : List ℕ) (r : Answer) → AllI64 rows → SFits w64 base
    → PatchedWritten rows base w out out' r → PatchedTable signed rows base w out out' r

-- what is written reads back as the rows, under both flags, and the reader's answer is the writer's
abbrev pub PatchedReadsBack : Type 0
PatchedReadsBack =
    (rows : List ℤ) (base : ℤ) (w : ℕ) (out out' : List ℕ) (r : Answer) → AllI64 rows → SFits w64 base
    → PatchedWritten rows base w out out' r → answer_number r ≡ 0
    → (signed : Bool) (places places' : List ℤ) (r' : Answer) → length rows ≤ length places → RunRead out' 0 signed places places' r'
    → (r' ≡ r) × (places' ≡ rows ++ drop (length rows) places)
