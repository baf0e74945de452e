-- A patch list, entry by entry, as the reader walks it: the test of its places, and the patches put into rows that are already laid down.
-- Assumes nothing.
use Rattle.std.specs.Prelude.{◌≡◌, ℕ, ◌+◌, ◌*◌, ◌^◌, ◌<◌, ◌≤◌, Bool, true, false, ◌||◌, List, [], ◌∷◌, length, get_or, set, ℤ, pos, leb, ltb, Option, MatchOption}
use Rattle.format.specs.Fields.{pick, bytes_for}
use Rattle.util.specs.Packed.{Width}
use Rattle.format.specs.Runs.{is_skip, gap_of, patch_of, patches, patch_limit, too_large, out_of_place}
use Rattle.format.specs.Rows.{plus, as_i64, as_u64}

-- a list of n entries of some bits, whose patches have the width pw
pub record Listed (bits pw n : ℕ) (list : List ℕ) : Type 0 where
  pub wide : Width bits
  pub some : 0 < pw
  pub few : pw < 64
  pub entries : n ≤ 31
  pub there : bytes_for (n * bits) ≤ length list

-- an entry e, taken apart
pub record IsEntry (pw e gap patch : ℕ) (skip : Bool) : Type 0 where
  pub gap_is : gap ≡ gap_of pw e
  pub patch-is : patch ≡ patch_of pw e
  pub skip_is : skip ≡ is_skip pw e
  pub gap-lt : gap < 2 ^ 63

-- Some entry is out of place. `before` is the sum of the gaps so far, `free` the least place that no entry may name any more below it, and
-- `skip` whether the entry before was a skip. Places never fall, so two entries share one only if the later names a place below `free`.
unfoldable pub misplaced : ℕ → ℕ → ℕ → ℕ → Bool → List ℕ → Bool
misplaced pw rows before free skip [] = skip
misplaced pw rows before free skip (e ∷ es) =
    pick (is_skip pw e) (misplaced pw rows (before + gap_of pw e) free true es)
    (pick (ltb (before + gap_of pw e) free || leb rows (before + gap_of pw e)) true
    (misplaced pw rows (before + gap_of pw e) (before + gap_of pw e + 1) false es))

-- some patch is too large above values of w bits: a skip's patch is 0, and never is
unfoldable pub large : ℕ → ℕ → List ℕ → Bool
large w pw [] = false
large w pw (e ∷ es) = leb (patch_limit w) (patch_of pw e) || large w pw es

-- the number that the list is refused with, or 0: 3 comes before 7
unfoldable pub list_number : ℕ → ℕ → ℕ → List ℕ → ℕ
list_number w pw rows es = pick (too_large w (patches pw es)) 3 (pick (out_of_place pw rows es) 7 0)

-- what the walk over the list answers: that number, or none
abbrev pub IsListRefusal : ℕ → Option ℕ → Type 0
IsListRefusal number r = MatchOption r (number ≡ 0) (λ n. (n ≡ number) × (0 < n))

-- a row with a patch above its w bits
abbrev pub patched_row : ℕ → ℕ → ℤ → ℤ
patched_row w patch z = as_i64 (plus (as_u64 z) (patch * 2 ^ w))

-- the places after the patches of the entries es
unfoldable pub patch_all : ℕ → ℕ → ℕ → List ℤ → List ℕ → List ℤ
patch_all w pw before out [] = out
patch_all w pw before out (e ∷ es) =
    patch_all w pw (before + gap_of pw e)
    (pick (is_skip pw e) out (set out (before + gap_of pw e) (patched_row w (patch_of pw e) (get_or out (before + gap_of pw e) (pos 0))))) es
