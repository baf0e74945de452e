-- Row by row: a row before the first bad one has what it needs, so `label` names it, and the columns hold that name. Assumes nothing.
use mathlib.Core.Path.{◌≡◌, refl, sym, ap, ◌∙◌}
use Prim.Native.Nat.{ℕ, zero, suc, ◌<◌}
use native.Mathlib.Omega.{arith}
use native.Mathlib.Decide.{dec_lt}
use mathlib.Core.Bool.{Bool, true, false}
use mathlib.Core.List.{List, [], ◌∷◌, ◌++◌, map}
use lib.ListN.{length, take, drop, get_or, get_or-append}
use lib.Seq.{drop-cons, drop-drop}
use lib.IntN.{ℤ, pos, negsuc}
use borrow.Author.Tests.{lt-ltb, le-ltb, lt-leb}
use Rattle.format.specs.Fields.{pick}
use Rattle.format.proofs.Tests.{never}
use Rattle.present.specs.Present.{rows_for, present, spread}
use Rattle.present.proofs.Columns.{spread-length, row-at}
use Rattle.std.specs.Prelude.{Result}
use Rattle.format.specs.declared.Refusal.{Refusal}
use Rattle.labels.specs.declared.Label.{Label}
use Rattle.labels.specs.Labels.{add_up, is_name, entry_of, name_at, fallback_of, refused_with, numbered, named, label}
use Rattle.labels.specs.Column.{next_inside, has_number, good_rows, start_for, size_for}
use Rattle.labels.proofs.ColumnWalk.{next-inside, next-missing, mapped_at}

-- the number of a row, if it has one
abbrev pub number_at : List ℕ → List ℤ → ℕ → ℤ
number_at flags numbers row = get_or numbers (entry_of flags row) (pos 0)

-- the name of a number of the dictionary
abbrev pub name_for : List ℤ → ℤ → Result Label Refusal
name_for lengths z = name_at (start_for lengths z) (size_for lengths z)

-- ---- which rows have what they need

-- this row has: it has no name, or its number is there and of the dictionary
abbrev pub served : List ℤ → List ℕ → List ℤ → ℕ → Bool
served lengths flags numbers row = has_number lengths (get_or flags row 0) (drop (entry_of flags row) numbers)

served-suc : (lengths : List ℤ) (f : ℕ) (flags : List ℕ) (numbers : List ℤ) (row : ℕ)
    → served lengths (f ∷ flags) numbers (suc row) ≡ served lengths flags (drop (rows_for f) numbers) row
unfolding entry_of present
served-suc lengths f flags numbers row =
    ap (λ (l : List ℤ). has_number lengths (get_or flags row 0) l) (sym (drop-drop (present (take row flags)) (rows_for f) numbers))

-- those before the first that has not
pub good-before : (lengths : List ℤ) (flags : List ℕ) (numbers : List ℤ) (row : ℕ) → row < good_rows lengths flags numbers
    → served lengths flags numbers row ≡ true
unfolding good_rows entry_of present
good-before lengths [] numbers row h = absurd (omega arith)
good-before lengths (f ∷ flags) numbers zero h = go (has_number lengths f numbers) h
  where
    go : (t : Bool) → 0 < pick t (suc (good_rows lengths flags (drop (rows_for f) numbers))) 0 → t ≡ true
    go true h = refl
    go false h = absurd (omega arith)
good-before lengths (f ∷ flags) numbers (suc row) h =
    served-suc lengths f flags numbers row
    ∙ good-before lengths flags (drop (rows_for f) numbers) row (go (has_number lengths f numbers) h)
  where
    go : (t : Bool) → suc row < pick t (suc (good_rows lengths flags (drop (rows_for f) numbers))) 0
        → row < good_rows lengths flags (drop (rows_for f) numbers)
    go true h = omega arith
    go false h = absurd (omega arith)

-- and the first that has not
pub good-first : (lengths : List ℤ) (flags : List ℕ) (numbers : List ℤ) → good_rows lengths flags numbers < length flags
    → served lengths flags numbers (good_rows lengths flags numbers) ≡ false
unfolding good_rows entry_of present
good-first lengths [] numbers h = absurd (omega arith)
good-first lengths (f ∷ flags) numbers h =
    go (has_number lengths f numbers) refl h (λ l. good-first lengths flags (drop (rows_for f) numbers) l)
  where
    go : (t : Bool) → has_number lengths f numbers ≡ t
        → pick t (suc (good_rows lengths flags (drop (rows_for f) numbers))) 0 < suc (length flags)
        → (good_rows lengths flags (drop (rows_for f) numbers) < length flags
        → served lengths flags (drop (rows_for f) numbers) (good_rows lengths flags (drop (rows_for f) numbers)) ≡ false)
        → served lengths (f ∷ flags) numbers (pick t (suc (good_rows lengths flags (drop (rows_for f) numbers))) 0) ≡ false
    go true e h more = served-suc lengths f flags numbers _ ∙ more (omega arith)
    go false e h more = e

-- ---- what `label` says

pub named-is : (lengths numbers : List ℤ) (at : ℕ)
    → named lengths numbers at
    ≡ pick (next_inside lengths (drop at numbers)) (name_for lengths (get_or numbers at (pos 0))) (refused_with 19)
unfolding named numbered
named-is lengths numbers at = go (dec_lt at (length numbers))
  where
    by : (z : ℤ) → numbered lengths z ≡ pick (next_inside lengths (z ∷ drop (suc at) numbers)) (name_for lengths z) (refused_with 19)
    by (pos k) = refl
    by (negsuc k) = refl

    go : Dec (at < length numbers) → named lengths numbers at
        ≡ pick (next_inside lengths (drop at numbers)) (name_for lengths (get_or numbers at (pos 0))) (refused_with 19)
    go (yes h) = rw (lt-ltb at (length numbers) h, drop-cons numbers at (pos 0) h) (by (get_or numbers at (pos 0)))
    go (no h) = rw (le-ltb at (length numbers) (omega arith), next-missing lengths numbers at (omega arith))

module _ (lengths numbers : List ℤ) (flags block : List ℕ) (row : ℕ) (h : row < length flags) (a : add_up lengths block ≡ true)
    (fall : List ℕ) where
  abbrev number : ℤ
  number = number_at flags numbers row

  label_is : label lengths numbers flags block fall row
      ≡ pick (is_name (get_or flags row 0))
      (pick (next_inside lengths (drop (entry_of flags row) numbers)) (name_for lengths number)
      (refused_with 19))
      (fallback_of (length fall))
  unfolding label
  label_is = rw (lt-leb (length flags) row h, a, named-is lengths numbers (entry_of flags row))

  pub label-bad : served lengths flags numbers row ≡ false → label lengths numbers flags block fall row ≡ refused_with 19
  label-bad f = label_is ∙ go (is_name (get_or flags row 0)) (next_inside lengths (drop (entry_of flags row) numbers)) f
    where
      go : (t b : Bool) → pick t b true ≡ false
          → pick t (pick b (name_for lengths number) (refused_with 19)) (fallback_of (length fall))
          ≡ refused_with 19
      go true true f = never (cc)
      go true false f = refl
      go false b f = never (cc)

  pub label-served : served lengths flags numbers row ≡ true
      → label lengths numbers flags block fall row
      ≡ pick (is_name (get_or flags row 0)) (name_for lengths number) (fallback_of (length fall))
  label-served f = label_is ∙ go (is_name (get_or flags row 0)) (next_inside lengths (drop (entry_of flags row) numbers)) f
    where
      go : (t b : Bool) → pick t b true ≡ true
          → pick t (pick b (name_for lengths number) (refused_with 19)) (fallback_of (length fall))
          ≡ pick t (name_for lengths number) (fallback_of (length fall))
      go true true f = refl
      go true false f = never (cc)
      go false b f = refl

-- ---- what the columns hold

-- a column of the numbers, and what stands after it
pub column-at : (g : ℤ → ℕ) (lengths : List ℤ) (flags : List ℕ) (numbers : List ℤ) (rest : List ℕ) (row : ℕ) → row < length flags
    → served lengths flags numbers row ≡ true
    → get_or (spread 0 flags (map g numbers) ++ rest) row 0 ≡ pick (is_name (get_or flags row 0)) (g (number_at flags numbers row)) 0
unfolding entry_of
column-at g lengths flags numbers rest row h f =
    get_or-append (spread 0 flags (map g numbers)) rest 0 row (omega (arith, spread-length 0 flags (map g numbers)))
    ∙ row-at 0 flags (map g numbers) row 0 h
    ∙ go (is_name (get_or flags row 0)) f
  where
    go : (t : Bool) → pick t (next_inside lengths (drop (present (take row flags)) numbers)) true ≡ true
        → pick t (get_or (map g numbers) (present (take row flags)) 0) 0 ≡ pick t (g (get_or numbers (present (take row flags)) (pos 0))) 0
    go true f = mapped_at g numbers (present (take row flags)) (next-inside lengths numbers (present (take row flags)) f).here
    go false f = refl
