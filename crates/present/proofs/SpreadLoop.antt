-- A turn of the loop takes one flag, and the rows that it stands for. So the places laid, and the column of what is left of both, are
-- always the whole column. Assumes nothing.
use mathlib.Core.Path.{◌≡◌, refl, ap, ◌∙◌}
use Prim.Native.Nat.{ℕ, zero, suc, ◌+◌, ◌-◌, ◌<◌, ◌≤◌}
use borrow.Rule.Slice.PartMut.{put_mid}
use native.Mathlib.Numerals.{add-one}
use native.Mathlib.Omega.{arith}
use native.Mathlib.Decide.{dec_lt}
use mathlib.Core.Bool.{Bool, true, false}
use mathlib.Core.List.{List, [], ◌∷◌, ◌++◌, append_assoc}
use lib.ListN.{length, take, drop, get_or, set, replicate, length-set, length-drop, drop_of_length-le}
use lib.Seq.{drop-cons, drop-drop, get_or-drop}
use Rattle.format.specs.Fields.{pick}
use Rattle.util.proofs.Grow.{grow, kept, filled}
use Rattle.present.specs.Present.{is_there, rows_for, present, spread}

-- ---- one flag

pub at_most_one : (flag : ℕ) → rows_for flag ≤ 1
at_most_one flag = go (is_there flag)
  where
    go : (t : Bool) → pick t 1 0 ≤ 1
    go true = omega arith
    go false = omega arith

pub one-of-both : {A : Type 0} (flag : ℕ) (row fill d : A) → get_or (fill ∷ row ∷ []) (rows_for flag) d ≡ pick (is_there flag) row fill
one-of-both flag row fill d = go (is_there flag)
  where
    go : (t : Bool) → get_or (fill ∷ row ∷ []) (pick t 1 0) d ≡ pick t row fill
    go true = refl
    go false = refl

-- ---- the flags that are left

pub count-le : (flags : List ℕ) → present flags ≤ length flags
unfolding present
count-le [] = omega arith
count-le (f ∷ flags) = omega (arith, at_most_one f, count-le flags)

module _ (flags : List ℕ) (i : ℕ) where
  pub count_next : i < length flags → present (drop i flags) ≡ rows_for (get_or flags i 0) + present (drop (i + 1) flags)
  unfolding present
  count_next h = rw (add-one i, drop-cons flags i 0 h)

  pub count_none : length flags ≤ i → present (drop i flags) ≡ 0
  unfolding present
  count_none h = rw (drop_of_length-le flags {i = i} h)

-- ---- the column that is left

-- what stands at flag i, if `next` rows are used up
abbrev pub row_at : {A : Type 0} → A → List ℕ → List A → ℕ → ℕ → A
row_at fill flags rows next i = pick (is_there (get_or flags i 0)) (get_or rows next fill) fill

pub any-default : {A : Type 0} (l : List A) (n : ℕ) (d e : A) → n < length l → get_or l n d ≡ get_or l n e
any-default [] n d e h = absurd (omega arith)
any-default (x ∷ l) zero d e h = refl
any-default (x ∷ l) (suc n) d e h = any-default l n d e (omega arith)

-- with no row left, each place has the fill
spread-none : {A : Type 0} (fill : A) (flags : List ℕ) → spread fill flags [] ≡ replicate (length flags) fill
unfolding spread
spread-none fill [] = refl
spread-none {A} fill (f ∷ flags) = go (is_there f) (spread-none fill flags)
  where
    go : (t : Bool) → spread fill flags [] ≡ replicate (length flags) fill
        → pick t fill fill ∷ spread fill flags (drop (pick t 1 0) []) ≡ fill ∷ replicate (length flags) fill
    go true e = ap (λ (l : List A). fill ∷ l) e
    go false e = ap (λ (l : List A). fill ∷ l) e

module _ {A : Type 0} (fill : A) (flags : List ℕ) (rows : List A) (next i : ℕ) where
  pub row_read : (d : A) → next < length rows → pick (is_there (get_or flags i 0)) (get_or rows next d) fill ≡ row_at fill flags rows next i
  row_read d h = ap (λ (row : A). pick (is_there (get_or flags i 0)) row fill) (any-default rows next d fill h)

  pub spread-next : i < length flags → spread fill (drop i flags) (drop next rows)
      ≡ row_at fill flags rows next i ∷ spread fill (drop (i + 1) flags) (drop (next + rows_for (get_or flags i 0)) rows)
  unfolding spread
  spread-next h =
      let z : next + 0 ≡ next = omega arith in
      rw (
        add-one i,
        drop-cons flags i 0 h,
        get_or-drop next rows 0 fill,
        drop-drop (rows_for (get_or flags i 0)) next rows,
        z,
      )

-- ---- the loop: i places hold their rows, and `next` of the rows are used up

module _ {A : Type 0} (fill : A) (flags : List ℕ) (rows out₀ : List A) where
  pub record SpreadSoFar (out : List A) (next i : ℕ) : Type 0 where
    pub done : i ≤ length flags
    pub long : length out ≡ length out₀
    pub left : next + present (drop i flags) ≡ present flags
    pub made : take i out ++ spread fill (drop i flags) (drop next rows) ≡ spread fill flags rows
    pub rest : drop i out ≡ drop i out₀

  pub so-far-none : SpreadSoFar out₀ 0 0
  so-far-none = record { done = omega arith; long = refl; left = omega arith; made = refl; rest = refl }

  -- while a row is left, there is a flag for it
  pub flag-left : {out : List A} {next i : ℕ} → SpreadSoFar out next i → next < present flags → i < length flags
  flag-left {out} {next} {i} w h = go (dec_lt i (length flags))
    where
      go : Dec (i < length flags) → i < length flags
      go (yes l) = l
      go (no l) = absurd (omega (arith, w.left, count_none flags i (omega arith)))

  pub so-far-next : {out : List A} {next i : ℕ} → SpreadSoFar out next i → i < length flags → length flags ≤ length out₀
      → SpreadSoFar (set out i (row_at fill flags rows next i)) (next + rows_for (get_or flags i 0)) (i + 1)
  so-far-next {out} {next} {i} w h l =
      let row = row_at fill flags rows next i in
      record {
        done = omega arith;
        long = length-set out i row ∙ w.long;
        left = omega (arith, w.left, count_next flags i h);
        made = grow out i row _ _ (omega (arith, w.long)) (rw (spread-next fill flags rows next i h) at w.made);
        rest = kept out out₀ i row w.rest;
      }

  pub so-far-all : {out : List A} {next i : ℕ} → SpreadSoFar out next i → length flags ≤ i
      → out ≡ spread fill flags rows ++ drop (length flags) out₀
  unfolding spread
  so-far-all {out} {next} {i} w h =
      let d : i ≡ length flags = omega (arith, w.done) in
      filled out out₀ _ (length flags) (rw d at (rw (drop_of_length-le flags {i = i} h) at w.made)) (rw d at w.rest)

  -- once all rows are used up, the places that are left get the fill
  pub so-far-filled : {out fills : List A} {next i : ℕ} → SpreadSoFar out next i → length rows ≤ next
      → fills ≡ replicate (length flags - i) fill → put_mid i (length flags - i) out fills ≡ spread fill flags rows ++ drop (length flags) out₀
  so-far-filled {out} {fills} {next} {i} w used e =
      let k = length flags - i in
      let end : i + k ≡ length flags = omega (arith, w.done) in
      let none : drop next rows ≡ [] = drop_of_length-le rows {i = next} used in
      let made : take i out ++ replicate k fill ≡ spread fill flags rows =
      rw (none, spread-none fill (drop i flags), length-drop i flags) at w.made in
      rw (e, ← append_assoc, made, w.rest, drop-drop k i out₀, end)
