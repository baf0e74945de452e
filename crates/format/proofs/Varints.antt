-- A varint's number is below 2^64. The shortest varint of a number is a varint with that number as its value whose last byte is not 0
-- (unless it is the only byte), and there is no other such.
-- Assumes nothing.
use Rattle.format.proofs.Common.{◌≡◌, sym, ℕ, zero, suc, ◌+◌, ◌-◌, ◌*◌, ◌/◌, ◌%◌, ◌^◌, ◌<◌, ◌≤◌, arith, dec_lt, lt_of_lt_of_le}
use Rattle.format.proofs.Common.{pow-suc, pow-zero, one-le-pow, zero-lt-suc, Bool, true, false, List, [], ◌∷◌, length, ltb, lt-ltb}
use Rattle.format.proofs.Common.{le-ltb}
use Rattle.format.specs.Fields.{pick, two64, last_below, Varint, last, more, varint_value, shortest_in, shortest, last_byte, Shortest}
use Rattle.format.proofs.Fields.{last-le}

-- how long a varint of at most k bytes is
pub varint-length : (k : ℕ) (v : List ℕ) → Varint k v → (1 ≤ length v) × (length v ≤ k)
varint-length k v (last h) = (omega arith, omega arith)
varint-length k v (more {k = j} {bs = bs} _ _ r) = let l = varint-length j bs r in (omega arith, omega arith)

-- and how large its number is: ten bytes, the tenth at most 1, hold 64 bits
number_lt : (k : ℕ) (v : List ℕ) → Varint (suc k) v → varint_value v < 2 * 128 ^ k
unfolding last_below
number_lt zero v (last h) = omega (arith, h)
number_lt zero v (more {bs = bs} _ _ r) = absurd (omega (arith, varint-length 0 bs r))
number_lt (suc k) v (last h) = omega (arith, h, pow-suc 128 k, one-le-pow k 128 (zero-lt-suc 127))
number_lt (suc k) v (more {bs = bs} _ _ r) = omega (arith, number_lt k bs r, pow-suc 128 k)

pub varint-lt : (v : List ℕ) → Varint 10 v → varint_value v < two64
varint-lt v h = number_lt 9 v h

-- ---- one turn of writing: the last byte, or one byte more

pub shortest-last : (k x : ℕ) → 1 ≤ k → x < 128 → shortest_in k x ≡ x ∷ []
unfolding shortest_in
shortest-last zero x k h = absurd (omega arith)
shortest-last (suc j) x k h = rw (lt-ltb x 128 h)

pub record More (k x : ℕ) : Type 0 where
  pub bytes : 2 ≤ k
  pub below : x / 128 < 128 ^ (k - 1)
  pub bytes_of : shortest_in k x ≡ (x % 128 + 128) ∷ shortest_in (k - 1) (x / 128)

pub shortest-more : (k x : ℕ) → 128 ≤ x → x < 128 ^ k → More k x
unfolding shortest_in
shortest-more zero x h l = absurd (omega (arith, pow-zero 128))
shortest-more (suc zero) x h l = absurd (omega (arith, l))
shortest-more (suc (suc j)) x h l =
    let e : suc (suc j) - 1 ≡ suc j = omega arith in
    record { bytes = omega arith; below = rw e (omega (arith, pow-suc 128 (suc j))); bytes_of = rw (le-ltb x 128 h, e) }

-- ---- it is a varint, with the number as its value

pub record Stands (k x : ℕ) (v : List ℕ) : Type 0 where
  pub varint : Varint k v
  pub value : varint_value v ≡ x
  pub least : Shortest v

stands-more : (k x : ℕ) (v : List ℕ) → 128 ≤ x → Stands k (x / 128) v → Stands (suc k) x ((x % 128 + 128) ∷ v)
stands-more k x [] h s = absurd (omega (arith, varint-length k [] s.varint))
stands-more k x (c ∷ v) h s = record {
  varint = more {b = x % 128 + 128} (omega arith) (omega arith) s.varint;
  value = omega (arith, s.value);
  least = λ l. by v s.value s.least;
}
  where
    by : (v : List ℕ) → varint_value (c ∷ v) ≡ x / 128 → Shortest (c ∷ v) → 1 ≤ last_byte (c ∷ v)
    by [] e f = omega (arith, e)
    by (d ∷ v) e f = f (omega arith)

shortest_in-stands : (k x : ℕ) → x < 2 * 128 ^ k → Stands (suc k) x (shortest_in (suc k) x)
unfolding shortest_in last_below
shortest_in-stands zero x l =
    rw (lt-ltb x 128 (omega arith))
    (record { varint = last {k = 0} {b = x} (omega arith); value = omega arith; least = λ t. absurd (omega (arith, t)) })
shortest_in-stands (suc j) x l = by (dec_lt x 128) (shortest_in-stands j (x / 128))
  where
    by : Dec (x < 128) → (x / 128 < 2 * 128 ^ j → Stands (suc j) (x / 128) (shortest_in (suc j) (x / 128))) → Stands (suc (suc j)) x (shortest_in (suc (suc j)) x)
    by (yes a) r = rw (lt-ltb x 128 a) (record { varint = last {k = suc j} {b = x} a; value = omega arith; least = λ t. absurd (omega (arith, t)) })
    by (no a) r = rw (le-ltb x 128 (omega arith)) (stands-more (suc j) x _ (omega arith) (r (omega (arith, l, pow-suc 128 j))))

pub shortest_in-pos : (k x : ℕ) → 1 ≤ k → x < 128 ^ k → 1 ≤ length (shortest_in k x)
unfolding shortest_in
shortest_in-pos zero x h l = absurd (omega arith)
shortest_in-pos (suc j) x h l = by (ltb x 128)
  where
    by : (t : Bool) → 1 ≤ length (pick t (x ∷ []) ((x % 128 + 128) ∷ shortest_in j (x / 128)))
    by true = omega arith
    by false = omega arith

module _ (x : ℕ) (h : x < two64) where
  pub shortest-stands : Stands 10 x (shortest x)
  unfolding shortest
  shortest-stands = shortest_in-stands 9 x h

  pub shortest-varint : Varint 10 (shortest x)
  shortest-varint = shortest-stands.varint

  pub shortest-value : varint_value (shortest x) ≡ x
  shortest-value = shortest-stands.value

  pub shortest-length : (1 ≤ length (shortest x)) × (length (shortest x) ≤ 10)
  shortest-length = varint-length 10 (shortest x) shortest-varint

-- ---- and the only one

-- a last byte that is not 0 leaves a number that is not 0
value_pos : (k : ℕ) (v : List ℕ) → Varint k v → 1 ≤ last_byte v → 1 ≤ varint_value v
value_pos k v (last {k = j} h) l = omega (arith, l, last-le j)
value_pos k v (more {k = j} {bs = []} _ _ r) l = absurd (omega (arith, varint-length j [] r))
value_pos k v (more {k = j} {bs = c ∷ bs} _ _ r) l = omega (arith, value_pos j (c ∷ bs) r l)

shortest_in-unique : (k : ℕ) (v : List ℕ) → Varint k v → Shortest v → shortest_in k (varint_value v) ≡ v
unfolding shortest_in
shortest_in-unique k v (last {k = j} {b = b} h) s =
    let e : b % 128 + 128 * 0 ≡ b = omega (arith, last-le j) in
    rw (e, lt-ltb b 128 (lt_of_lt_of_le h (last-le j)))
shortest_in-unique k v (more {k = j} {b = b} {bs = []} _ _ r) s = absurd (omega (arith, varint-length j [] r))
shortest_in-unique k v (more {k = j} {b = b} {bs = c ∷ bs} h g r) s =
    let p : 1 ≤ varint_value (c ∷ bs) = value_pos j (c ∷ bs) r (s (omega arith)) in
    let x = b % 128 + 128 * varint_value (c ∷ bs) in
    let e : x % 128 + 128 ≡ b = omega arith in
    let f : x / 128 ≡ varint_value (c ∷ bs) = omega arith in
    rw (le-ltb x 128 (omega arith), e, f, shortest_in-unique j (c ∷ bs) r (λ l. s (omega arith)))

pub shortest-unique : (v : List ℕ) → Varint 10 v → Shortest v → v ≡ shortest (varint_value v)
unfolding shortest
shortest-unique v h s = sym (shortest_in-unique 10 v h s)
