-- What is written of the last i bytes of a stretch and of what follows. From three on it is two bytes a repeat, and what is written with one
-- byte of it or none. Of two it is no less, since they cost themselves. So a repeat in front never saves more than its two bytes.
-- Assumes nothing.
use Rattle.format.proofs.Common.{◌≡◌, ◌∙◌, ℕ, zero, suc, ◌+◌, ◌-◌, ◌*◌, ◌/◌, ◌<◌, ◌≤◌, arith, le_refl, List, length, drop, drop-drop}
use Rattle.byte_writer.specs.Choice.{stretch, alone}
use Rattle.byte_writer.proofs.Stretches.{stretch-le}
use Rattle.byte_writer.proofs.Cuts.{Alone, is-alone, alone-le}
use Rattle.byte_writer.proofs.Fronts.{size, stretch-drop, whole}
use Rattle.byte_writer.proofs.Open.{opens, front}

abbrev pub left : List ℕ → ℕ → ℕ
left bs i = size (drop (stretch bs - i) bs)

-- two bytes for each repeat that i bytes take
abbrev pub repeat_bytes : ℕ → ℕ
repeat_bytes i = 2 * ((i + 128) / 130)

module _ (bs : List ℕ) where
  -- the last i, and what is left without the first j of them
  left-drop : (i j : ℕ) → j ≤ i → i ≤ stretch bs → size (drop j (drop (stretch bs - i) bs)) ≡ left bs (i - j)
  left-drop i j l h =
      let e : stretch bs - i + j ≡ stretch bs - (i - j) = omega arith in
      rw (drop-drop j (stretch bs - i) bs, e)

  pub left-costs : (i : ℕ) → 1 ≤ i → i ≤ 2 → i ≤ stretch bs → (1 + left bs (i - 1) ≤ left bs i) × (left bs i ≤ 2 + left bs (i - 1))
  left-costs i l m h =
      let part = drop (stretch bs - i) bs in
      let s : stretch part ≡ i = stretch-drop (stretch bs - i) bs (omega arith) ∙ omega arith in
      let n : 0 < length part = omega (arith, stretch-le part) in
      rw (left-drop i 1 l h) at (front part n (omega arith) (opens part) (opens (drop 1 part)))

  pub left-many : (i : ℕ) → 3 ≤ i → i ≤ stretch bs → left bs i ≡ repeat_bytes i + left bs (alone i)
  left-many i l h =
      let part = drop (stretch bs - i) bs in
      let s : stretch part ≡ i = stretch-drop (stretch bs - i) bs (omega arith) ∙ omega arith in
      let e : i - (i - alone i) ≡ alone i = omega (arith, (alone-le i).1) in
      rw (s, left-drop i (i - alone i) (omega arith) h, e) at (whole part (omega arith))

  pub left-least : (i : ℕ) → i ≤ stretch bs → repeat_bytes i + left bs (alone i) ≤ left bs i
  unfolding alone
  left-least zero h = omega arith
  left-least (suc zero) h = omega arith
  left-least (suc (suc zero)) h =
      let two = left-costs 2 (omega arith) (omega arith) h in
      let one = left-costs 1 (omega arith) (omega arith) (omega arith) in
      omega (arith, two.0, one.0)
  left-least (suc (suc (suc i))) h = omega (arith, left-many (suc (suc (suc i))) (omega arith) h)

-- ---- a repeat of k bytes of a stretch

-- what is written of a stretch, and what its last bytes take at least
module _ (bs : List ℕ) (h : 3 ≤ stretch bs) where
  pub whole-left : size bs ≡ repeat_bytes (stretch bs) + left bs (alone (stretch bs))
  whole-left =
      let z : stretch bs - stretch bs ≡ 0 = omega arith in
      rw z at (left-many bs (stretch bs) h (le_refl _))

  pub without : (k : ℕ) → k ≤ stretch bs → repeat_bytes (stretch bs - k) + left bs (alone (stretch bs - k)) ≤ size (drop k bs)
  without k l =
      let z : stretch bs - (stretch bs - k) ≡ k = omega arith in
      rw z at (left-least bs (stretch bs - k) (omega arith))

  pub one_left : (1 + left bs 0 ≤ left bs 1) × (left bs 1 ≤ 2 + left bs 0)
  one_left = left-costs bs 1 (omega arith) (omega arith) (omega arith)

pub repeat-left : (bs : List ℕ) (k : ℕ) → 3 ≤ k → k ≤ 130 → k ≤ stretch bs → size bs ≤ 2 + size (drop k bs)
repeat-left bs k l m h = by (is-alone (stretch bs)) (is-alone (stretch bs - k))
  where
    three : 3 ≤ stretch bs
    three = omega arith

    by : Alone (stretch bs) → Alone (stretch bs - k) → size bs ≤ 2 + size (drop k bs)
    by (Alone.one p e) (Alone.one q f) = omega (arith, rw e at (whole-left bs three), rw f at (without bs three k h))
    by (Alone.one p e) (Alone.none q f) =
        omega (arith, rw e at (whole-left bs three), rw f at (without bs three k h), (one_left bs three).1)
    by (Alone.none p e) (Alone.one q f) =
        omega (arith, rw e at (whole-left bs three), rw f at (without bs three k h), (one_left bs three).0)
    by (Alone.none p e) (Alone.none q f) = omega (arith, rw e at (whole-left bs three), rw f at (without bs three k h))
