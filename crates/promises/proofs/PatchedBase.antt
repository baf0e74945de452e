-- The base: its bytes have its value, and no fewer do. Assumes nothing.
use Rattle.format.proofs.Common.{◌≡◌, refl, sym, ◌∙◌, ℕ, ◌+◌, ◌-◌, ◌*◌, ◌%◌, ◌^◌, ◌<◌, ◌≤◌, mod-lt, zero-lt-suc, one-mul, zero-add}
use Rattle.format.proofs.Common.{mod-eq_of_lt, arith, ℕ_discrete, Bool, true, false, List, length, leb, ltb, ltb→lt, lt→ltb, pow_pos}
use Rattle.format.proofs.Common.{pow_mono, pow-add, low, le-leb, lt-leb, leb-true, leb-false}
use lib.Arith.{digits_mod}
use Rattle.format.specs.Digits.{AllBelow, number, digits}
use Rattle.format.specs.Fields.{pick, two64, negative}
use Rattle.format.specs.Rows.{base_value}
use Rattle.format.specs.Writing.{falls}
use Rattle.format.proofs.Digits.{number_digits, digits_number, number_lt, length_digits, pow-pow}
use Rattle.format.specs.PatchedWriting.{least_from, magnitude, base_size, base_bytes}
use Rattle.format.proofs.Least.{least-passes, least-least}
use Rattle.format.proofs.PatchedWriting.{size_low}

-- n bytes have a sign and 8n - 1 bits
sign-bits : (n : ℕ) → 1 ≤ n → 256 ^ n ≡ 2 ^ (8 * n - 1) + 2 ^ (8 * n - 1)
sign-bits n h =
    let e : n * 8 ≡ 1 + (8 * n - 1) = omega arith in
    pow-pow 2 8 n ∙ rw (e, pow-add 2 1 (8 * n - 1)) (omega arith)

-- by its sign, in any number of bytes that hold it
value : (n base : ℕ) (t : Bool) → falls base ≡ t → 1 ≤ n → base < two64 → pick t (two64 - base) base < 2 ^ (8 * n - 1)
    → base_value (digits 256 n (pick t (2 ^ (8 * n - 1)) 0 + pick t (two64 - base) base)) ≡ base
unfolding base_value negative
value n base true e h l f =
    let p : ℕ = 2 ^ (8 * n - 1) in
    let m : ℕ = two64 - base in
    let small : p + m < 256 ^ n = rw (sign-bits n h) (omega arith) in
    let lo : (p + m) % p ≡ m = rw (one-mul p) at (low 1 (8 * n - 1) f) in
    rw (length_digits 256 n (p + m), number_digits 256 (zero-lt-suc 255) n (p + m) small, le-leb p (p + m) (omega arith), lo)
    (omega (arith, leb-true (2 ^ 63) base e))
value n base false e h l f =
    let p : ℕ = 2 ^ (8 * n - 1) in
    let small : base < 256 ^ n = rw (sign-bits n h) (omega arith) in
    rw (zero-add base, length_digits 256 n base, number_digits 256 (zero-lt-suc 255) n base small, lt-leb p base f)

pub base-value : (base : ℕ) → base < two64 → base_size base ≤ 8 → base_value (base_bytes base) ≡ base
unfolding base_size base_bytes
base-value base h l =
    value (base_size base) base (falls base) refl (size_low base) h (ltb→lt _ _ (least-passes (λ n. ltb (magnitude base) (2 ^ (8 * n - 1))) 1 8 (omega arith)))

-- the value of any bytes is held by as many
held-above : (n p : ℕ) → n < p → p ≤ 2 ^ 63 → magnitude n < p
held-above n p h l = rw (lt-leb (2 ^ 63) n (omega arith)) h

held_below : (m p : ℕ) → m < p → p ≤ 2 ^ 63 → magnitude (negative m) < p
unfolding negative
held_below m p h l = by (ℕ_discrete m 0)
  where
    by : Dec (m ≡ 0) → magnitude (negative m) < p
    by (yes e) = rw e (omega arith)
    by (no n) = rw (mod-eq_of_lt {n = two64 - m} {m = two64} (omega (arith, n)), le-leb (2 ^ 63) (two64 - m) (omega arith)) (omega arith)

magnitude-held : (bs : List ℕ) → 1 ≤ length bs → length bs ≤ 8 → magnitude (base_value bs) < 2 ^ (8 * length bs - 1)
unfolding base_value
magnitude-held bs h l = by (leb p (number 256 bs)) refl
  where
    p : ℕ
    p = 2 ^ (8 * length bs - 1)

    wide : p ≤ 2 ^ 63
    wide = pow_mono {j = 63} (omega arith)

    by : (t : Bool) → leb p (number 256 bs) ≡ t → magnitude (pick t (negative (number 256 bs % p)) (number 256 bs)) < p
    by true e = held_below (number 256 bs % p) p (mod-lt (number 256 bs) (pow_pos (8 * length bs - 1))) wide
    by false e = held-above (number 256 bs) p (leb-false p (number 256 bs) e) wide

pub base-least : (bs : List ℕ) → 1 ≤ length bs → length bs ≤ 8 → base_size (base_value bs) ≤ length bs
unfolding base_size
base-least bs h l =
    least-least (λ n. ltb (magnitude (base_value bs)) (2 ^ (8 * n - 1))) 1 8 (length bs) h (omega arith) (lt→ltb _ _ (magnitude-held bs h l))

-- and these bytes alone, with no sign bit for 0
signed-number : (n p : ℕ) (t : Bool) → leb p n ≡ t → n < p + p → p ≤ 2 ^ 63 → 0 < p → (pick t (negative (n % p)) n ≡ 0 → n ≡ 0)
    → pick (falls (pick t (negative (n % p)) n)) p 0 + magnitude (pick t (negative (n % p)) n) ≡ n
unfolding negative
signed-number n p true e h l z s = by (ℕ_discrete n p)
  where
    rest : n % p ≡ n - p
    rest =
        let k : 1 * p + (n - p) ≡ n = omega (arith, leb-true p n e) in
        rw k at (digits_mod 1 {m = p} {r = n - p} (omega arith))

    by : Dec (n ≡ p) → pick (falls (negative (n % p))) p 0 + magnitude (negative (n % p)) ≡ n
    by (yes d) =
        let k : n % p ≡ 0 = omega (arith, rest) in
        absurd (omega (arith, s (rw k)))
    by (no d) =
        rw (rest, mod-eq_of_lt {n = two64 - (n - p)} {m = two64} (omega (arith, d, leb-true p n e)), le-leb (2 ^ 63) (two64 - (n - p)) (omega arith))
        (omega (arith, leb-true p n e))
signed-number n p false e h l z s = rw (lt-leb (2 ^ 63) n (omega (arith, leb-false p n e))) (omega arith)

pub same_base : (bs : List ℕ) → 1 ≤ length bs → length bs ≤ 8 → AllBelow 256 bs → (base_value bs ≡ 0 → number 256 bs ≡ 0) → length bs ≤ base_size (base_value bs)
    → bs ≡ base_bytes (base_value bs)
unfolding base_bytes base_value
same_base bs h l b s m =
    let n : base_size (base_value bs) ≡ length bs = omega (arith, base-least bs h l) in
    let p : ℕ = 2 ^ (8 * length bs - 1) in
    let small : number 256 bs < p + p = rw (sign-bits (length bs) h) at (number_lt 256 bs b) in
    rw (n, signed-number (number 256 bs) p _ refl small (pow_mono {j = 63} (omega arith)) (pow_pos _) s) (sym (digits_number 256 bs b))

pub base-zero : number 256 (base_bytes 0) ≡ 0
unfolding base_bytes base_size least_from digits number
base-zero = refl
