-- Hexadecimal, either letter case: the value of a digit, the bytes that a line of digits writes, and what `hexadecimal::bytes` promises.
-- Assumes nothing.
use Rattle.std.specs.Prelude.{◌≡◌, ℕ, ◌+◌, ◌-◌, ◌*◌, Bool, true, ◌&&◌, List, [], ◌∷◌, ◌++◌, length, drop, ltb, leb}
use Prim.Native.Char.{code}
use Rattle.format.specs.Fields.{pick}

-- the value of a digit, 0 to 9, A to F, a to f; and 16 for a character that is no digit
unfoldable pub hex_value : ℕ → ℕ
hex_value c =
    pick (ltb c (code "0")) 16
    (pick (leb c (code "9")) (c - code "0")
    (pick (ltb c (code "A")) 16
    (pick (leb c (code "F")) (c - code "A" + 10)
    (pick (ltb c (code "a")) 16
    (pick (leb c (code "f")) (c - code "a" + 10) 16)))))

-- each character is a digit
unfoldable pub all_hex : List ℕ → Bool
all_hex [] = true
all_hex (c ∷ cs) = ltb (hex_value c) 16 && all_hex cs

-- the bytes, two digits each, the high one first
unfoldable pub hex_bytes : List ℕ → List ℕ
hex_bytes [] = []
hex_bytes (c ∷ []) = []
hex_bytes (c ∷ e ∷ cs) = (hex_value c * 16 + hex_value e) ∷ hex_bytes cs

-- the bytes of the pairs before the first pair that is not two digits; on a line of digits, all (`Begun-all` in `proofs/HexDigits.antt`)
unfoldable pub hex_begun : List ℕ → List ℕ
hex_begun [] = []
hex_begun (c ∷ []) = []
hex_begun (c ∷ e ∷ cs) = pick (ltb (hex_value c) 16 && ltb (hex_value e) 16) ((hex_value c * 16 + hex_value e) ∷ hex_begun cs) []

-- WHAT `hexadecimal::bytes` PROMISES: the answer is whether each character is a digit; the bytes before the first pair that is not two
-- digits stand in the first places, and the other places keep their content
pub record HexRead (line frame frame' : List ℕ) (r : Bool) : Type 0 where
  pub answer : r ≡ all_hex line
  pub places : frame' ≡ hex_begun line ++ drop (length (hex_begun line)) frame
