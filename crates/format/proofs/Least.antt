-- `least_from` gives the least number that passes the test. Assumes nothing.
use Rattle.format.proofs.Common.{◌≡◌, refl, sym, subst, ℕ, zero, suc, ◌+◌, ◌<◌, ◌≤◌, arith, dec_lt, Bool, true, false, T}
use Rattle.format.specs.Fields.{pick}
use Rattle.format.specs.PatchedWriting.{least_from}

module _ (test : ℕ → Bool) where
  pub least-low : (n k : ℕ) → n ≤ least_from test n k
  unfolding least_from
  least-low n zero = omega arith
  least-low n (suc k) = by (test n) (least-low (suc n) k)
    where
      by : (t : Bool) → suc n ≤ least_from test (suc n) k → n ≤ pick t n (least_from test (suc n) k)
      by true h = omega arith
      by false h = omega arith

  -- it passes, if any did
  pub least-passes : (n k : ℕ) → least_from test n k < n + k → T (test (least_from test n k))
  unfolding least_from
  least-passes n zero h = absurd (omega arith)
  least-passes n (suc k) h = by (test n) refl h (least-passes (suc n) k)
    where
      by : (t : Bool) → test n ≡ t → pick t n (least_from test (suc n) k) < n + suc k
          → (least_from test (suc n) k < suc n + k → T (test (least_from test (suc n) k)))
          → T (test (pick t n (least_from test (suc n) k)))
      by true e h ih = rw e tt
      by false e h ih = ih (omega arith)

  -- none that passes is less
  pub least-least : (n k j : ℕ) → n ≤ j → j < n + k → T (test j) → least_from test n k ≤ j
  unfolding least_from
  least-least n zero j h l t = absurd (omega arith)
  least-least n (suc k) j h l t = by (test n) refl (least-least (suc n) k j)
    where
      by : (u : Bool) → test n ≡ u → (suc n ≤ j → j < suc n + k → T (test j) → least_from test (suc n) k ≤ j) → pick u n (least_from test (suc n) k) ≤ j
      by true e ih = h
      by false e ih = ih (omega (arith, ne)) (omega arith) t
        where
          ne : n ≡ j → ⊥
          ne z = subst T e (subst (λ (i : ℕ). T (test i)) (sym z) t)

  pub least-high : (n k : ℕ) → least_from test n k ≤ n + k
  unfolding least_from
  least-high n zero = omega arith
  least-high n (suc k) = by (test n) (least-high (suc n) k)
    where
      by : (t : Bool) → least_from test (suc n) k ≤ suc n + k → pick t n (least_from test (suc n) k) ≤ n + suc k
      by true h = omega arith
      by false h = omega arith

  -- so a number that passes, where none below it does, is the least; and it is n + k where none does
  pub the-least : (n k j : ℕ) → n ≤ j → j < n + k → T (test j) → ((i : ℕ) → n ≤ i → i < j → T (test i) → ⊥) → least_from test n k ≡ j
  the-least n k j h l t none = by (dec_lt (least_from test n k) j)
    where
      by : Dec (least_from test n k < j) → least_from test n k ≡ j
      by (yes m) = absurd (none (least_from test n k) (least-low n k) m (least-passes n k (omega arith)))
      by (no m) = omega (arith, least-least n k j h l t)

  pub least-none : (n k : ℕ) → ((i : ℕ) → n ≤ i → i < n + k → T (test i) → ⊥) → least_from test n k ≡ n + k
  least-none n k none = by (dec_lt (least_from test n k) (n + k))
    where
      by : Dec (least_from test n k < n + k) → least_from test n k ≡ n + k
      by (yes m) = absurd (none (least_from test n k) (least-low n k) m (least-passes n k m))
      by (no m) = omega (arith, least-high n k)

-- equal tests find the same number
pub least-same : (f g : ℕ → Bool) → ((i : ℕ) → f i ≡ g i) → (n k : ℕ) → least_from f n k ≡ least_from g n k
unfolding least_from
least-same f g e n zero = refl
least-same f g e n (suc k) = rw (e n, least-same f g e (suc n) k)
