-- The text that is handed over. Assumes nothing.
use mathlib.Core.Path.{◌≡◌, sym, ap, ◌∙◌}
use Prim.Native.Nat.{ℕ, ◌≤◌}
use native.Mathlib.Omega.{arith}
use mathlib.Core.Bool.{Bool, true, false}
use mathlib.Core.List.{List, ◌++◌}
use lib.ListN.{length, take, drop, length-append}
use lib.Seq.{take_at}
use borrow.Author.Tests.{le-ltb}
use Rattle.tally.specs.declared.totals.Totals.{Totals}
use Rattle.text.specs.Ascii.{ascii}
use Rattle.text.specs.Written.{TextWritten}
use Rattle.text.proofs.Texts.{then-written, from_first}
use Rattle.tally.specs.Text.{totals_text, shown_in, Shown}
use Rattle.totals.specs.Program.{written_for}

-- what `show` leaves
module _ (t : Totals) (out out' : List ℕ) (r : ℕ) (s : Shown t out out' r) where
  pub show-le : r ≤ length out'
  show-le = let x = shown_in (length out) t in omega (arith, s.count, ap length s.places, length-append x (drop (length x) out))

  -- where there is room
  module _ (room : 1024 ≤ length out) where
    shown-is : shown_in (length out) t ≡ totals_text t
    unfolding shown_in
    shown-is = rw (le-ltb (length out) 1024 room)

    pub show-take : take r out' ≡ totals_text t
    show-take =
        let x = totals_text t in
        let e : out' ≡ x ++ drop (length x) out = rw shown-is at s.places in
        ap (λ (l : List ℕ). take r l) e ∙ take_at x (drop (length x) out) r (sym (s.count ∙ ap length shown-is))

-- the lines of the totals, and the refusal after them where one stopped the reading
module _ (t : Totals) (lines out out₁ : List ℕ) (r : ℕ) (is : lines ≡ totals_text t) (w : TextWritten lines out 0 out₁ r) where
  pub text-going : (stopped : Bool) → stopped ≡ false → TextWritten (written_for t stopped) out 0 out₁ r
  unfolding written_for
  text-going stopped e = rw (e, ← is) w

  pub text-stopped : (stopped : Bool) → stopped ≡ true → (out₂ : List ℕ) (s : ℕ) → TextWritten (ascii "refused 20\n") out₁ r out₂ s → TextWritten (written_for t stopped) out 0 out₂ s
  unfolding written_for
  text-stopped stopped e out₂ s v = rw (e, ← is) (then-written (omega arith) w v)

-- a text that stands in the first bytes
pub first-text : (text out out' : List ℕ) (r : ℕ) → TextWritten text out 0 out' r → take r out' ≡ text
first-text text out out' r w = rw (from_first w).1 (take_at text (drop (length text) out) r (sym (from_first w).0))
