-- The code of the least width: what a computed test over all codes says of it.
-- Assumes nothing.
use Rattle.format.proofs.Common.{Bool, ◌&&◌, ◌||◌, not, ℕ, ◌+◌, ◌*◌, ◌^◌, ◌<◌, ◌≤◌, arith, dec_lt, lt_of_lt_of_le, T, leb}
use Rattle.format.proofs.Common.{ltb, eqb, eqb→eq, ltb→lt, leb→le, pow-add, pow_mono, le-leb}
use Rattle.format.specs.Fields.{width, least_width, Narrowest}
use Rattle.format.proofs.Widths.{all_b, all-at, least-holds}
use Rattle.format.proofs.Tests.{and_left, and_right}
use Rattle.util.specs.Width.{LeastCode}

abbrev lowest_at : ℕ → ℕ → ℕ → Bool
lowest_at n code c = not (leb n (width c)) || leb code c

abbrev pub code_test : ℕ → ℕ → Bool
code_test n code = ltb code 32 && (eqb (width code) (least_width n) && all_b 32 (lowest_at n code))

pub least-code : {n code : ℕ} → T (code_test n code) → LeastCode n code
least-code {n} {code} t =
    let u : T (eqb (width code) (least_width n) && all_b 32 (lowest_at n code)) = and_right (ltb code 32) _ t in
    record {
      is_code = ltb→lt code 32 (and_left (ltb code 32) _ t);
      least = eqb→eq (width code) (least_width n) (and_left (eqb (width code) (least_width n)) _ u);
      lowest = λ c g l.
          leb→le code c (simp (le-leb n (width c) l) at (all-at 32 (lowest_at n code) (and_right (eqb (width code) (least_width n)) _ u) c g));
    }

-- a number that w bits hold has no more than w bits
pub bits-le : (x m w : ℕ) → x < 2 ^ w → 2 ^ m ≤ 2 * x + 1 → m ≤ w
bits-le x m w h g = by (dec_lt w m)
  where
    by : Dec (w < m) → m ≤ w
    by (yes l) = absurd (omega (arith, pow-add 2 w 1, pow_mono {i = w + 1} {j = m} (omega arith)))
    by (no l) = omega arith

-- so the narrowest code for a number of m bits is that of m bits
pub narrowest-is : (x m code : ℕ) → m ≤ 64 → x < 2 ^ m → 2 ^ m ≤ 2 * x + 1 → LeastCode m code → Narrowest x code
narrowest-is x m code l h g k = record {
  is_code = k.is_code;
  holds = lt_of_lt_of_le h (pow_mono {i = m} {j = width code} (omega (arith, k.least, least-holds m l)));
  least = λ c b f. k.lowest c b (bits-le x m (width c) f g);
}
