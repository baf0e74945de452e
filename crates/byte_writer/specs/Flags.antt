-- Flags as bytes: eight to a byte, highest bit first, padding bits zero. Assumes nothing.
use Rattle.std.specs.Prelude.{ℕ, zero, suc, Bool, true, false, List, [], ◌∷◌, length, get_or, drop, eqb}
use Rattle.format.specs.Digits.{number}
use Rattle.format.specs.Fields.{pick, bytes_for}

-- a flag other than 0 is true
abbrev pub bit : ℕ → ℕ
bit flag = pick (eqb flag 0) 0 1

-- the first eight flags as bits; past the last flag stands padding
abbrev pub eight : List ℕ → List ℕ
eight fs =
    bit (get_or fs 0 0) ∷ bit (get_or fs 1 0) ∷ bit (get_or fs 2 0) ∷ bit (get_or fs 3 0)
    ∷ bit (get_or fs 4 0) ∷ bit (get_or fs 5 0) ∷ bit (get_or fs 6 0) ∷ bit (get_or fs 7 0) ∷ []

unfoldable pub first_byte : List ℕ → ℕ
first_byte fs = number 2 (eight fs)

unfoldable pub bytes_in : ℕ → List ℕ → List ℕ
bytes_in zero fs = []
bytes_in (suc m) fs = first_byte fs ∷ bytes_in m (drop 8 fs)

-- n flags take n / 8 bytes, rounded up
unfoldable pub flag_bytes : List ℕ → List ℕ
flag_bytes fs = bytes_in (bytes_for (length fs)) fs

-- what is to be written: the bytes that the flags make, or the bytes themselves
abbrev pub source : Bool → List ℕ → List ℕ
source true s = flag_bytes s
source false s = s
