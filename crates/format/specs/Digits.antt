-- Numbers and their digits. A list of bytes is a number in base 256, and a packed block is one in base 2^w: one pair of functions serves
-- both.
-- Assumes nothing.
use Rattle.std.specs.Prelude.{ℕ, zero, suc, ◌+◌, ◌*◌, ◌/◌, ◌%◌, ◌^◌, ◌<◌, List, [], ◌∷◌, ◌++◌, length}

-- each of the numbers is below b
abbrev pub AllBelow : ℕ → List ℕ → Type 0
AllBelow b [] = Unit {0}
AllBelow b (d ∷ ds) = (d < b) × AllBelow b ds

-- the sum of the numbers, as a whole number
abbrev pub sum : List ℕ → ℕ
sum [] = 0
sum (n ∷ ns) = n + sum ns

-- the number that the digits ds write in base b, most significant first
unfoldable pub number : ℕ → List ℕ → ℕ
number b [] = 0
number b (d ∷ ds) = d * b ^ length ds + number b ds

-- the n lowest digits of x in base b, most significant first
unfoldable pub digits : ℕ → ℕ → ℕ → List ℕ
digits b zero x = []
digits b (suc n) x = x / b ^ n % b ∷ digits b n x

-- the n lowest bytes of x, lowest first
unfoldable pub lowest_first : ℕ → ℕ → List ℕ
lowest_first zero x = []
lowest_first (suc n) x = x % 256 ∷ lowest_first n (x / 256)

-- the w digits in base b of each of the numbers, one after another: the bits of a list of bytes are `spread 2 8`
abbrev pub spread : ℕ → ℕ → List ℕ → List ℕ
spread b w [] = []
spread b w (v ∷ vs) = digits b w v ++ spread b w vs
