-- The longest run that a writer makes: 4,108 bytes hold any, and no fewer would do. Rows and bases are any numbers here, i64 or not.
-- Assumes nothing.
use Rattle.std.specs.Prelude.{◌≡◌, ℕ, ◌≤◌, Bool, List, [], map, length, ℤ}
use Rattle.std.specs.Int.{w64}
use Rattle.std.proofs.Common.{SFits}
use Rattle.format.specs.declared.Form.{Form}
use Rattle.format.specs.Runs.{Description, layout}
use Rattle.format.specs.Rows.{as_u64}
use Rattle.format.specs.Parse.{got, refused, plain}
use Rattle.format.specs.Writing.{writing, AllI64}
use Rattle.format.specs.PatchedWriting.{writing_patched}

-- one of 4,108 bytes: i64 rows with a base and a width that are written in as many bytes, and in none fewer
pub record AsLong : Type 0 where
  pub rows : List ℤ
  pub base : ℤ
  pub w : ℕ
  pub i64-rows : AllI64 rows
  pub i64-base : SFits w64 base
  pub run : Description
  pub is-written : writing_patched (as_u64 base) w (map as_u64 rows) 4108 ≡ got run []
  pub bytes : length (layout run) ≡ 4108
  pub one_less : writing_patched (as_u64 base) w (map as_u64 rows) 4107 ≡ refused (plain 8)

pub record LongestWritten : Type 0 where
  -- of every rows, flag, form and width, in any room ..
  pub no_longer : (signed : Bool) (f : Form) (w : ℕ) (rs : List ℕ) (places : ℕ) (d : Description) (rest : List ℕ)
      → writing signed f w rs places ≡ got d rest → length (layout d) ≤ 4108
  -- .. and of every rows, base and width
  pub no-longer-patched : (base w : ℕ) (rs : List ℕ) (places : ℕ) (d : Description) (rest : List ℕ)
      → writing_patched base w rs places ≡ got d rest → length (layout d) ≤ 4108
  -- so that 4,108 places are never too few
  pub never-8 : (signed : Bool) (f : Form) (w : ℕ) (rs : List ℕ) (places : ℕ) → 4108 ≤ places
      → writing signed f w rs places ≡ refused (plain 8) → ⊥
  pub never-8-patched : (base w : ℕ) (rs : List ℕ) (places : ℕ) → 4108 ≤ places → writing_patched base w rs places ≡ refused (plain 8) → ⊥
  pub reached : AsLong
