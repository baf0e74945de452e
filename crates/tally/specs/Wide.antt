-- THE SUM IN TWO WORDS of 64 bits: two's complement, so that sums are added word by word, modulo 2^64, with the low words' carry.
-- Assumes nothing.
use Rattle.std.specs.Prelude.{◌≡◌, ℕ, ◌+◌, ◌-◌, ◌*◌, ◌/◌, ◌%◌, ◌^◌, Bool, true, false, ℤ, pos, negsuc, nat_lt}
use Rattle.format.specs.Fields.{pick, two64}
use Rattle.tally.specs.declared.sums.Wide.{Wide}

-- 64 bits turned over
abbrev pub turned : ℕ → ℕ
turned x = two64 - 1 - x

-- -(n + 1) has the bits of n, turned over
unfoldable pub wide_of : ℤ → Wide
wide_of (pos n) = record { high = n / two64; low = n % two64 }
wide_of (negsuc n) = record { high = turned (n / two64); low = turned (n % two64) }

-- the whole number that two words stand for: below 0 where the top bit is set
unfoldable pub wide_value : Wide → ℤ
wide_value w = pick (nat_lt w.high (2 ^ 63)) (pos (w.high * two64 + w.low)) (negsuc (turned w.high * two64 + turned w.low))

abbrev pub add_wide : Wide → Wide → Wide
add_wide v w = record {
  high = (v.high + w.high + (v.low + w.low) / two64) % two64;
  low = (v.low + w.low) % two64;
}

-- ---- IN DECIMAL: two words as a number that is not below 0, and its last digit

abbrev pub size_of : Wide → ℕ
size_of w = w.high * two64 + w.low

abbrev pub is_negative : ℤ → Bool
is_negative (pos n) = false
is_negative (negsuc n) = true

pub record IsTenth (n quotient digit : ℕ) : Type 0 where
  pub quotient_is : quotient ≡ n / 10
  pub digit-is : digit ≡ n % 10
