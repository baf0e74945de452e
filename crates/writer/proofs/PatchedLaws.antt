-- The numbers of a patched run as its functions come by them: the largest value bounds every patch, and the largest entry every gap.
-- Assumes nothing.
use Rattle.format.proofs.Common.{◌≡◌, refl, sym, ◌∙◌, ℕ, suc, ◌+◌, ◌-◌, ◌*◌, ◌/◌, ◌^◌, ◌<◌, ◌≤◌, div-lt_iff_lt-mul, lt_of_lt_of_le, dec_lt}
use Rattle.format.proofs.Common.{arith, Bool, true, false, ◌&&◌, List, [], ◌∷◌, map, T, ltb, eqb, ltb→lt, lt→ltb, eqb→eq, eqb_refl, pow_pos}
use Rattle.format.proofs.Common.{pow-add, pow_mono, shr_lt, high, lt-ltb, le-ltb, eqb-true}
use Rattle.format.specs.Digits.{AllBelow}
use Rattle.format.specs.Fields.{pick, width, Narrowest}
use Rattle.format.specs.Writing.{every}
use Rattle.format.specs.PatchedWriting.{patches_above, Entry, field, least_from, all_fit, code_for, patch_code, gap_width, magnitude, base_size}
use Rattle.format.proofs.Least.{the-least, least-none, least-same}
use Rattle.format.proofs.Widths.{least-holds}
use Rattle.format.proofs.Tests.{below-every, every-below}
use Rattle.format.proofs.PatchedWriting.{width-mono}
use Rattle.util.specs.Width.{LeastCode}
use Rattle.util.proofs.Widths.{bits-le}
use Rattle.writer.specs.PatchedBase.{Largest, BitLength}

-- ---- tests

-- a number fits w bits more exactly if what is above them fits
above-test : (x a w : ℕ) → ltb x (2 ^ (a + w)) ≡ ltb (x / 2 ^ w) (2 ^ a)
above-test x a w = by (dec_lt (x / 2 ^ w) (2 ^ a))
  where
    by : Dec (x / 2 ^ w < 2 ^ a) → ltb x (2 ^ (a + w)) ≡ ltb (x / 2 ^ w) (2 ^ a)
    by (yes h) = rw (lt-ltb (x / 2 ^ w) (2 ^ a) h) (lt-ltb x (2 ^ (a + w)) (rw (pow-add 2 a w) ((div-lt_iff_lt-mul (pow_pos w)).0 h)))
    by (no h) = rw (le-ltb (x / 2 ^ w) (2 ^ a) (omega arith)) (not-below (dec_lt x (2 ^ (a + w))))
      where
        not-below : Dec (x < 2 ^ (a + w)) → ltb x (2 ^ (a + w)) ≡ false
        not-below (yes l) = absurd (h (shr_lt a w l))
        not-below (no l) = le-ltb x (2 ^ (a + w)) (omega arith)

-- ---- PATCHES: each fits exactly if its whole number does

patches-test : (a w p : ℕ) (ds : List ℕ) → every (λ x. ltb x (2 ^ a)) (map (λ q. q.patch) (patches_above w p ds)) ≡ every (λ x. ltb x (2 ^ (a + w))) ds
unfolding every patches_above
patches-test a w p [] = refl
patches-test a w p (d ∷ ds) = rw (above-test d a w) (by (eqb (d / 2 ^ w) 0) refl (patches-test a w (suc p) ds))
  where
    by : (t : Bool) → eqb (d / 2 ^ w) 0 ≡ t
        → every (λ x. ltb x (2 ^ a)) (map (λ q. q.patch) (patches_above w (suc p) ds)) ≡ every (λ x. ltb x (2 ^ (a + w))) ds
        → every (λ x. ltb x (2 ^ a))
        (map (λ q. q.patch) (pick t (patches_above w (suc p) ds) (record { place = p; patch = d / 2 ^ w } ∷ patches_above w (suc p) ds)))
        ≡ ltb (d / 2 ^ w) (2 ^ a) && every (λ x. ltb x (2 ^ (a + w))) ds
    by true e ih = rw (eqb-true (d / 2 ^ w) 0 e, lt-ltb 0 (2 ^ a) (pow_pos a)) ih
    by false e ih = rw ih

module _ (w m code : ℕ) (ds : List ℕ) (l : Largest ds m) where
  pub patch-code-is : Narrowest (m / 2 ^ w) code → code ≡ patch_code (patches_above w 0 ds)
  unfolding patch_code
  patch-code-is n =
      sym (least-same (λ c. all_fit (width c) (map (λ q. q.patch) (patches_above w 0 ds))) (λ c. ltb (m / 2 ^ w) (2 ^ width c)) test 0 32
      ∙ the-least (λ c. ltb (m / 2 ^ w) (2 ^ width c)) 0 32 code (omega arith) n.is_code (lt→ltb _ _ n.holds)
      (λ i a b t. absurd (omega (arith, n.least i (omega (arith, n.is_code)) (ltb→lt _ _ t)))))
    where
      test : (c : ℕ) → all_fit (width c) (map (λ q. q.patch) (patches_above w 0 ds)) ≡ ltb (m / 2 ^ w) (2 ^ width c)
      test c = patches-test (width c) w 0 ds ∙ l.bounds (2 ^ (width c + w)) (pow_pos (width c + w)) ∙ above-test m (width c) w

  -- so the values have no more than patch width and value width together
  pub values-held : (pw : ℕ) → m / 2 ^ w < 2 ^ pw → AllBelow (2 ^ (pw + w)) ds
  values-held pw h =
      every-below (2 ^ (pw + w)) ds
      (rw (l.bounds (2 ^ (pw + w)) (pow_pos (pw + w)), above-test m pw w) (lt→ltb _ _ h))

-- ---- GAPS: each fits exactly if its whole entry does

gaps-test : (g pw : ℕ) (es : List Entry) → AllBelow (2 ^ pw) (map (λ e. e.patch) es)
    → every (λ x. ltb x (2 ^ g)) (map (λ e. e.gap) es) ≡ every (λ x. ltb x (2 ^ (g + pw))) (map (field pw) es)
unfolding every
gaps-test g pw [] b = refl
gaps-test g pw (e ∷ es) b = rw (above-test (field pw e) g pw, high e.gap pw b.0, gaps-test g pw es b.1)

module _ (pw m : ℕ) (es : List Entry) (b : AllBelow (2 ^ pw) (map (λ e. e.patch) es)) (l : Largest (map (field pw) es) m) where
  gap-test : (g : ℕ) → all_fit g (map (λ e. e.gap) es) ≡ ltb (m / 2 ^ pw) (2 ^ g)
  gap-test g = gaps-test g pw es b ∙ l.bounds (2 ^ (g + pw)) (pow_pos (g + pw)) ∙ above-test m g pw

  pub gap-width-is : least_from (λ g. ltb (m / 2 ^ pw) (2 ^ g)) 1 8 ≡ gap_width es
  unfolding gap_width
  gap-width-is = sym (least-same (λ g. all_fit g (map (λ e. e.gap) es)) (λ g. ltb (m / 2 ^ pw) (2 ^ g)) gap-test 1 8)

  pub gap-small : AllBelow 256 (map (λ e. e.gap) es) → m / 2 ^ pw < 256
  gap-small h = ltb→lt (m / 2 ^ pw) (2 ^ 8) (rw (gap-test 8) at (below-every 256 (map (λ e. e.gap) es) h))

-- ---- BITS that a number has

module _ (x n : ℕ) (k : BitLength x n) where
  holds-from : (m : ℕ) → n ≤ m → T (ltb x (2 ^ m))
  holds-from m h = lt→ltb _ _ (lt_of_lt_of_le k.holds (pow_mono {j = m} h))

  holds-only : (m : ℕ) → T (ltb x (2 ^ m)) → n ≤ m
  holds-only m t = bits-le x n m (ltb→lt _ _ t) k.least

  pub gap_bits : x < 256 → 1 ≤ n → n ≡ least_from (λ g. ltb x (2 ^ g)) 1 8
  gap_bits h p =
      let top : n ≤ 8 = holds-only 8 (lt→ltb _ _ h) in
      sym (the-least (λ g. ltb x (2 ^ g)) 1 8 n p (omega arith) (holds-from n (omega arith)) (λ i a b t. absurd (omega (arith, holds-only i t))))

  pub gap-none : n ≡ 0 → 1 ≡ least_from (λ g. ltb x (2 ^ g)) 1 8
  gap-none e = sym (the-least (λ g. ltb x (2 ^ g)) 1 8 1 (omega arith) (omega arith) (holds-from 1 (omega arith)) (λ i a b t. absurd (omega arith)))

-- n bytes have a sign and 8n - 1 bits
pub base-bytes : (base n : ℕ) → BitLength (magnitude base) n → n / 8 + 1 ≡ base_size base
unfolding base_size
base-bytes base n k = by (dec_lt n 64)
  where
    test : ℕ → Bool
    test i = ltb (magnitude base) (2 ^ (8 * i - 1))

    none : (i : ℕ) → 1 ≤ i → i < n / 8 + 1 → T (test i) → ⊥
    none i a b t = omega (arith, holds-only (magnitude base) n k (8 * i - 1) t)

    by : Dec (n < 64) → n / 8 + 1 ≡ least_from test 1 8
    by (yes h) = sym (the-least test 1 8 (n / 8 + 1) (omega arith) (omega arith) (holds-from (magnitude base) n k (8 * (n / 8 + 1) - 1) (omega arith)) none)
    by (no h) =
        let e : n ≡ 64 = omega (arith, k.most) in
        rw e (sym (least-none test 1 8 (λ i a b t. none i a (rw e (omega arith)) t)))

-- ---- the code of a width

pub code_is : (w code : ℕ) → LeastCode w code → width code ≡ w → code ≡ code_for w
unfolding code_for
code_is w code k e =
    sym (the-least (λ c. eqb (width c) w) 0 32 code (omega arith) k.is_code (rw e (eqb_refl w))
    (λ i a b t. absurd (omega (arith, k.lowest i (omega (arith, k.is_code)) (omega (arith, eqb→eq (width i) w t))))))

pub code-none : (w code : ℕ) → w ≤ 64 → LeastCode w code → (width code ≡ w → ⊥) → 32 ≡ code_for w
unfolding code_for
code-none w code h k n = sym (least-none (λ c. eqb (width c) w) 0 32 (λ i a b t. n (same i b (eqb→eq (width i) w t))))
  where
    same : (i : ℕ) → i < 32 → width i ≡ w → width code ≡ w
    same i b e = omega (arith, width-mono code i (k.lowest i b (omega arith)) b, k.least, least-holds w h)

pub code-wide : (w : ℕ) → 64 < w → ((c : ℕ) → width c ≤ 64) → 32 ≡ code_for w
unfolding code_for
code-wide w h f = sym (least-none (λ c. eqb (width c) w) 0 32 (λ i a b t. omega (arith, f i, eqb→eq (width i) w t)))
