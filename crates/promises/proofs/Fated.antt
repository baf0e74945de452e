-- From the bytes to the line: whatever is read, the table says. Assumes nothing.
use Rattle.format.proofs.Common.{◌≡◌, refl, ℕ, zero, suc, ◌/◌, ◌<◌, ◌≤◌, dec_lt, arith, List, [], ◌∷◌, length}
use Rattle.format.specs.Digits.{AllBelow}
use Rattle.format.specs.Parse
use Rattle.format.specs.Parse.{plain, refused, parse}
use Rattle.promises.specs.Refusals.{refusal-1, by_number}
use Rattle.promises.specs.Refusals.{kind, header_of}
use Rattle.promises.proofs.Fates.{Fate, no_run, by-line}
use Rattle.promises.proofs.PatchedFate.{patched-fate}
use Rattle.promises.proofs.PlainFates.{short-fate, direct-fate}
use Rattle.promises.proofs.DeltaFate.{delta-fate}

-- ---- the header

pub header-cut : (a : ℕ) (s : List ℕ) → length (a ∷ s) < header_of (a / 64) → parse (a ∷ s) ≡ refused (plain 1)
unfolding parse Parse.by_kind Parse.direct_run Parse.patched_run Parse.delta_run
header-cut a s h = go (a / 64) s h
  where
    go : (k : ℕ) (s : List ℕ) → length (a ∷ s) < header_of k → Parse.by_kind k a s ≡ refused (plain 1)
    go zero s h = absurd (omega (arith, h))
    go (suc zero) [] h = refl
    go (suc zero) (b ∷ s) h = absurd (omega (arith, h))
    go (suc (suc zero)) [] h = refl
    go (suc (suc zero)) (b ∷ []) h = refl
    go (suc (suc zero)) (b ∷ c ∷ []) h = refl
    go (suc (suc zero)) (b ∷ c ∷ e ∷ s) h = absurd (omega (arith, h))
    go (suc (suc (suc k))) [] h = refl
    go (suc (suc (suc k))) (b ∷ s) h = absurd (omega (arith, h))

-- lists of two bytes at least, and of four
pub two : (P : List ℕ → Type 0) → ((a b : ℕ) (s : List ℕ) → P (a ∷ b ∷ s)) → (bs : List ℕ) → 2 ≤ length bs → P bs
two P f [] h = absurd (omega (arith, h))
two P f (a ∷ []) h = absurd (omega (arith, h))
two P f (a ∷ b ∷ s) h = f a b s

pub four : (P : List ℕ → Type 0) → ((a b c e : ℕ) (s : List ℕ) → P (a ∷ b ∷ c ∷ e ∷ s)) → (bs : List ℕ) → 4 ≤ length bs → P bs
four P f bs h = two (λ x. 4 ≤ length x → P x) (λ a b s l. two (λ x. P (a ∷ b ∷ x)) (λ c e t. f a b c e t) s (omega (arith, l))) bs (omega arith) h

-- ---- from the bytes to the line ..

pub fate : (places : ℕ) (bs : List ℕ) → AllBelow 256 bs → Fate places bs (parse bs)
unfolding parse
fate places [] h = no_run
fate places (a ∷ s) h = go (dec_lt (length (a ∷ s)) (header_of (a / 64)))
  where
    whole : (k : ℕ) → a / 64 ≡ k → header_of k ≤ length (a ∷ s) → Fate places (a ∷ s) (parse (a ∷ s))
    whole zero e l = short-fate places a s e
    whole (suc zero) e l = two (λ x. kind x ≡ 1 → Fate places x (parse x)) (λ a b s e. direct-fate places a b s e) (a ∷ s) l e
    whole (suc (suc zero)) e l = four (λ x. kind x ≡ 2 → Fate places x (parse x)) (λ a b c f s e. patched-fate places a b c f s e) (a ∷ s) l e
    whole (suc (suc (suc k))) e l =
        two (λ x. kind x ≡ 3 → AllBelow 256 x → Fate places x (parse x)) (λ a b s e h. delta-fate places a b s e h.1.1) (a ∷ s) l (omega (arith, h.0)) h

    go : Dec (length (a ∷ s) < header_of (a / 64)) → Fate places (a ∷ s) (parse (a ∷ s))
    go (yes l) = rw (header-cut a s l) (by-line (by_number (refusal-1 (omega arith, l))))
    go (no l) = whole (a / 64) refl (omega arith)
