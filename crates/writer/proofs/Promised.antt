-- From the tests of a form, and what was laid down, to the promise. Assumes nothing.
use Rattle.format.proofs.Common.{◌≡◌, refl, arith, ℕ, ◌<◌, ◌≤◌, Bool, true, false, and-false, List, [], ◌++◌, map, ℤ, length, drop, lt-ltb}
use Rattle.format.proofs.Common.{le-ltb}
use Rattle.format.specs.declared.Form.{Form}
use Rattle.format.specs.Answers.{Answer, ran, refused_at}
use Rattle.format.specs.Runs.{Description, layout, row_count}
use Rattle.format.specs.Rows.{as_u64}
use Rattle.format.specs.Parse.{Parsed, got, refused, plain}
use Rattle.format.specs.Promises.{answer_of, kind_of, width_of}
use Rattle.format.specs.Writing.{count_allowed, have_form, width_allowed, described, writing, bytes_in, Written}
use Rattle.writer.specs.Sizes.{Sized, unfit, fit}

module _ (rows : List ℤ) (signed : Bool) (f : Form) (w : ℕ) (out : List ℕ) (r : Answer) where
  abbrev rs : List ℕ
  rs = map as_u64 rows

  told : (out' : List ℕ) (m : Parsed Description) → writing signed f w rs (length out) ≡ m → r ≡ answer_of 0 0 m → out' ≡ bytes_in out m
      → Written rows signed f w out out' r
  told out' m e p q = record { answer = rw e p; places = rw e q }

  pub bad-count : count_allowed f (length rs) ≡ false → r ≡ refused_at 9 0 → Written rows signed f w out out r
  unfolding writing
  bad-count e p = told out (refused (plain 9)) (rw e) p refl

  pub bad-width : count_allowed f (length rs) ≡ true → width_allowed f w ≡ false → r ≡ refused_at 10 0 → Written rows signed f w out out r
  unfolding writing
  bad-width c e p = told out (refused (plain 10)) (rw (c, e, and-false (have_form f rs))) p refl

  -- the count and the width being allowed, the other tests in their order
  module _ (c : count_allowed f (length rs) ≡ true) (s : width_allowed f w ≡ true) where
    pub bad-form : have_form f rs ≡ false → r ≡ refused_at 10 0 → Written rows signed f w out out r
    unfolding writing
    bad-form e p = told out (refused (plain 10)) (rw (c, e)) p refl

    -- .. told by the size
    pub bad-fit : {n : ℕ} → Sized signed f w rs n → n ≡ 0 → have_form f rs ≡ true → r ≡ refused_at 11 0 → Written rows signed f w out out r
    unfolding writing
    bad-fit (unfit e) z h p = told out (refused (plain 11)) (rw (c, s, h, rw h at e)) p refl
    bad-fit (fit h e l a b) z _ p = absurd (omega arith)

    pub no_room : {n : ℕ} → Sized signed f w rs n → 1 ≤ n → length out < n → r ≡ refused_at 8 0 → Written rows signed f w out out r
    unfolding writing
    no_room (unfit e) y k p = absurd (omega arith)
    no_room (fit h e l a b) y k p =
        told out (refused (plain 8)) (rw (c, s, h, e, lt-ltb (length out) (length (layout (described signed f w rs))) (rw l at k))) p refl

    pub laid : {n : ℕ} → Sized signed f w rs n → 1 ≤ n → n ≤ length out → (out' : List ℕ)
        → r ≡ ran (kind_of (described signed f w rs)) (width_of (described signed f w rs)) (row_count (described signed f w rs)) n
        → out' ≡ layout (described signed f w rs) ++ drop (length (layout (described signed f w rs))) out → Written rows signed f w out out' r
    unfolding writing
    laid (unfit e) y k out' p q = absurd (omega arith)
    laid (fit h e l a b) y k out' p q =
        told out' (got (described signed f w rs) [])
        (rw (c, s, h, e, le-ltb (length out) (length (layout (described signed f w rs))) (rw l at k))) (rw l at p) q
