-- Each promise determines the answer and every lent place: it is an equation for either. (The narrowest code is no equation: it is there, and it is one.)
-- Assumes nothing.
use Rattle.format.proofs.Common.{◌≡◌, refl, sym, ◌∙◌, ℕ, zero, suc, ◌+◌, ◌^◌, ◌<◌, ◌≤◌, arith, dec_lt}
use Rattle.format.specs.Fields.{width, widths, two64, Narrowest}
use Rattle.format.specs.Kept.{next_kept}
use Rattle.format.proofs.Kept.{narrowest-next, narrowest-kept-unique}
use Rattle.promises.specs.Outcomes.{Determines, RunDetermined, StreamDetermined, RunMeasuredDetermined, StreamMeasuredDetermined}
use Rattle.promises.specs.Outcomes.{BooleansDetermined, ValueDetermined, WriterDetermined, NarrowestDetermined, PatchedDetermined}
use Rattle.promises.specs.Outcomes.{EquationDetermined, StartDetermined, PartDetermined, ClosingDetermined}

-- a promise that says what the places and the answer are
pub determined : {P A : Type 0} (Allows : P → A → Type 0) (p₀ : P) (r₀ : A) → Allows p₀ r₀
    → ((p : P) (r : A) → Allows p r → (p ≡ p₀) × (r ≡ r₀)) → Determines P A Allows
determined Allows p₀ r₀ h f = record {
  some-outcome = (p₀, r₀, h);
  same-places = λ p p' r r' a b. (f p r a).0 ∙ sym (f p' r' b).0;
  same_answer = λ p p' r r' a b. (f p r a).1 ∙ sym (f p' r' b).1;
}

pub pair : {A B : Type 0} {a a' : A} {b b' : B} → a ≡ a' → b ≡ b' → ◌≡◌ {A = A × B} (a, b) (a', b')
pair p q = cc

pub run-determined : RunDetermined
run-determined input at signed out = determined _ _ _ (record { answer = refl; places = refl }) (λ p r a. (a.places, a.answer))

pub stream-determined : StreamDetermined
stream-determined input at signed out = determined _ _ _ (record { answer = refl; places = refl }) (λ p r a. (a.places, a.answer))

pub run-measured-determined : RunMeasuredDetermined
run-measured-determined input at = determined _ tt _ refl (λ p r a. (refl, a))

pub stream-measured-determined : StreamMeasuredDetermined
stream-measured-determined input at = determined _ tt _ refl (λ p r a. (refl, a))

pub booleans-determined : BooleansDetermined
booleans-determined input at n out = determined _ _ _ (record { answer = refl; places = refl }) (λ p r a. (a.places, a.answer))

pub value-determined : ValueDetermined
value-determined input at n = determined _ _ _ (record { part-is = refl }, record { answer = refl }) (λ p r a. (a.0.part-is, a.1.answer))

pub writer-determined : WriterDetermined
writer-determined rows signed form width out = determined _ _ _ (record { answer = refl; places = refl }) (λ p r a. (a.places, a.answer))

pub patched-determined : PatchedDetermined
patched-determined rows base width out = determined _ _ _ (record { answer = refl; places = refl }) (λ p r a. (a.places, a.answer))

pub equation-determined : EquationDetermined
equation-determined A a = determined _ tt a refl (λ p r e. (refl, e))

-- no code below c holds x
abbrev NoneBelow : ℕ → ℕ → Type 0
NoneBelow x c = (d : ℕ) → d < c → x < 2 ^ width d → ⊥

none-at : (x c : ℕ) → NoneBelow x c → (x < 2 ^ width c → ⊥) → NoneBelow x (c + 1)
none-at x c f n d b g = by (dec_lt d c)
  where
    by : Dec (d < c) → ⊥
    by (yes l) = f d l g
    by (no l) =
        let q : c ≡ d = omega arith in
        n (rw q g)

first_holds : (x c : ℕ) → c < 32 → NoneBelow x c → x < 2 ^ width c → Narrowest x c
first_holds x c b f g = record { is_code = b; holds = g; least = λ d l h. by d h (dec_lt d c) }
  where
    by : (d : ℕ) → x < 2 ^ width d → Dec (d < c) → c ≤ d
    by d h (yes l) = absurd (f d l h)
    by d h (no l) = omega arith

-- the first code from c on that holds x: code 31, the last, holds 64 bits
narrowest-from : (x k c : ℕ) → x < two64 → c + k ≡ 31 → NoneBelow x c → (r : ℕ) × Narrowest x r
unfolding width widths
narrowest-from x zero c h e f =
    let q : c ≡ 31 = omega arith in
    (c, first_holds x c (omega arith) f (rw q h))
narrowest-from x (suc k) c h e f = by (dec_lt x (2 ^ width c)) (λ n. narrowest-from x k (c + 1) h (omega arith) (none-at x c f n))
  where
    by : Dec (x < 2 ^ width c) → ((x < 2 ^ width c → ⊥) → (r : ℕ) × Narrowest x r) → (r : ℕ) × Narrowest x r
    by (yes g) m = (c, first_holds x c (omega arith) f g)
    by (no n) m = m n

pub narrowest-determined : NarrowestDetermined
narrowest-determined x h =
    let n = narrowest-from x 31 0 h refl (λ d l g. omega arith) in
    let k = narrowest-next x n.0 n.1 in
    determined _ tt (next_kept n.0) k (λ p r a. (refl, narrowest-kept-unique x r (next_kept n.0) a k))

pub start-determined : StartDetermined
start-determined = equation-determined _ _

pub part-determined : PartDetermined
part-determined s part buffer signed out =
    determined _ _ _ (record { step = refl; lent = refl; places = refl }) (λ p r a. (pair a.lent a.places, a.step))

pub closing-determined : ClosingDetermined
closing-determined s buffer signed out = determined _ _ _ (record { step = refl; places = refl }) (λ p r a. (a.places, a.step))
