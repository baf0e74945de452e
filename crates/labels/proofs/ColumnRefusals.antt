-- If the lengths do not add up, `label` refuses every row with 18; if they do, the first bad row with 19 and none before it. Assumes
-- nothing.
use mathlib.Core.Path.{◌≡◌, refl, sym, ap, ◌∙◌}
use Prim.Native.Nat.{ℕ, ◌<◌, ◌≤◌}
use native.Mathlib.Omega.{arith}
use native.Mathlib.Decide.{dec_lt}
use mathlib.Core.Bool.{Bool, true, false}
use mathlib.Core.List.{List, []}
use lib.ListN.{length, get_or}
use lib.IntN.{ℤ}
use Rattle.format.specs.Fields.{pick}
use Rattle.format.proofs.Tests.{never}
use Rattle.std.specs.Prelude.{Result, Ok, Err}
use Rattle.format.specs.declared.Refusal.{Refusal}
use Rattle.labels.specs.declared.Label.{Label}
use Rattle.labels.specs.Labels.{add_up, is_name, name_at, fallback_of, refused_with}
use Rattle.labels.specs.Column.{good_rows}
use Rattle.labels.specs.ColumnLaws.{RowRefused, NoneNineteen}
use Rattle.labels.proofs.Columns.{not-added}
use Rattle.labels.proofs.ColumnRows.{served, good-before, good-first, label-bad, label-served}

-- a refusal's number: none is 0
number_of : Result Label Refusal → ℕ
number_of (Ok l) = 0
number_of (Err f) = f.number

two-numbers : (j k : ℕ) → refused_with j ≡ refused_with k → j ≡ k
unfolding number_of
two-numbers j k e = ap number_of e

module _ (flags : List ℕ) (numbers lengths : List ℤ) (block : List ℕ) where
  -- a name and a fallback are no refusals
  no-refusal : (t : Bool) (s z n k : ℕ) → pick t (name_at s z) (fallback_of n) ≡ refused_with k → ⊥
  no-refusal true s z n k e = never (cc)
  no-refusal false s z n k e = never (cc)

  pub every-18 : add_up lengths block ≡ false → (row : ℕ) → row < length flags → RowRefused flags numbers lengths block 18 row
  every-18 a row h fall = not-added lengths numbers flags block fall row h a

  module _ (a : add_up lengths block ≡ true) where
    pub bad-19 : good_rows lengths flags numbers < length flags → RowRefused flags numbers lengths block 19 (good_rows lengths flags numbers)
    bad-19 h fall = label-bad lengths numbers flags block (good_rows lengths flags numbers) h a fall (good-first lengths flags numbers h)

    -- a row before the first bad one is not refused at all
    pub never-refused : (row k : ℕ) → row < length flags → row < good_rows lengths flags numbers → RowRefused flags numbers lengths block k row → ⊥
    never-refused row k h g q =
        no-refusal (is_name (get_or flags row 0)) _ _ _ k (sym (label-served lengths numbers flags block row h a []
        (good-before lengths flags numbers row g)) ∙ q [])

    -- so none before the first bad one is refused with 19
    pub not-before : (row : ℕ) → row < length flags → RowRefused flags numbers lengths block 19 row → good_rows lengths flags numbers ≤ row
    not-before row h q = go (dec_lt row (good_rows lengths flags numbers))
      where
        go : Dec (row < good_rows lengths flags numbers) → good_rows lengths flags numbers ≤ row
        go (yes l) = absurd (never-refused row 19 h l q)
        go (no l) = omega arith

    pub all-good : NoneNineteen flags numbers lengths block → length flags ≤ good_rows lengths flags numbers
    all-good n = go (dec_lt (good_rows lengths flags numbers) (length flags))
      where
        go : Dec (good_rows lengths flags numbers < length flags) → length flags ≤ good_rows lengths flags numbers
        go (yes h) = absurd (n (good_rows lengths flags numbers) h (bad-19 h))
        go (no h) = omega arith

  -- a row that is refused with 19 has lengths that add up
  pub adds-19 : (row : ℕ) → row < length flags → RowRefused flags numbers lengths block 19 row → add_up lengths block ≡ true
  adds-19 row h q = go (add_up lengths block) refl
    where
      go : (t : Bool) → add_up lengths block ≡ t → t ≡ true
      go true e = refl
      go false e =
          let y : ◌≡◌ {A = ℕ} 18 19 = two-numbers 18 19 (sym (every-18 e row h []) ∙ q []) in
          absurd (omega arith)

  -- and a row that is refused with 18 has not
  pub adds-18 : (row : ℕ) → row < length flags → RowRefused flags numbers lengths block 18 row → add_up lengths block ≡ true → ⊥
  adds-18 row h q a = go (served lengths flags numbers row) refl
    where
      go : (t : Bool) → served lengths flags numbers row ≡ t → ⊥
      go true f = no-refusal (is_name (get_or flags row 0)) _ _ _ 18 (sym (label-served lengths numbers flags block row h a [] f) ∙ q [])
      go false f =
          let y : ◌≡◌ {A = ℕ} 19 18 = two-numbers 19 18 (sym (label-bad lengths numbers flags block row h a [] f) ∙ q []) in
          omega arith
