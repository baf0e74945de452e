-- A line's beginning moved to the front of the input. Assumes nothing.
use Rattle.std.proofs.Common.{◌≡◌, ℕ, ◌+◌, ◌-◌, ◌<◌, ◌≤◌, min, List, length, take, drop, sym, ap, ◌∙◌, arith, length-drop, drop_of_length-le, length-take, length-take-le, take_all, take-take, take-add, drop_at}
use Rattle.std.specs.List.{copy_within}
use Rattle.std.proofs.Math.Seq.{paste}
use Rattle.std.proofs.lemmas.List.Edits.{take-paste, drop-paste}
use native.Mathlib.Decide.{dec_lt}
use Rattle.format.proofs.Parts.{take_min}
use Rattle.blocks.specs.Blocks.{too_long, kept, part, Kept}

-- the bytes from a place on, copied to the front: the others are as they were
module _ (x x' : List ℕ) (from n : ℕ) (h : from + n ≤ length x) (e : x' ≡ copy_within x from (from + n) 0) where
  zero : 0 + n ≡ n
  zero = omega arith

  room : n ≤ length (drop from x)
  room = rw length-drop (omega arith)

  pasted : x' ≡ paste x 0 (drop from x) n
  pasted =
      let m : from + n - from ≡ n = omega arith in
      e ∙ ap (λ (k : ℕ). paste x 0 (drop from x) k) m

  pub moved_front : take n x' ≡ take n (drop from x)
  moved_front =
      ap (λ (l : List ℕ). take n l) pasted
      ∙ ap (λ (k : ℕ). take k (paste x 0 (drop from x) n)) (sym zero)
      ∙ take-paste x 0 (drop from x) n (omega arith) room

  pub unmoved : drop n x' ≡ drop n x
  unmoved =
      ap (λ (l : List ℕ). drop n l) pasted
      ∙ ap (λ (k : ℕ). drop k (paste x 0 (drop from x) n)) (sym zero)
      ∙ drop-paste x 0 (drop from x) n (omega arith) room
      ∙ ap (λ (k : ℕ). drop k x) zero

-- the bytes from a place on, as many as there are to another place
pub slice_is : (from m : ℕ) (s : List ℕ) → from + m ≤ length s → part from (from + m) s ≡ take m (drop from s)
slice_is from m s h = rw (take-add from m s) (drop_at (take from s) (take m (drop from s)) from (length-take-le from s (omega arith)))

-- as many of them as are kept
module _ (from end n : ℕ) (s : List ℕ) (h : from ≤ end) (l : end ≤ length s) (is : n ≡ min (end - from) too_long) where
  line-is : part from end s ≡ take (end - from) (drop from s)
  line-is =
      let z : from + (end - from) ≡ end = omega arith in
      rw z at (slice_is from (end - from) s (omega arith))

  pub kept-count : n ≡ length (kept (part from end s))
  kept-count = rw (line-is, length-take, length-take, length-drop) (omega arith)

  pub kept-front : take n (drop from s) ≡ kept (part from end s)
  kept-front = rw line-is (by (dec_lt (end - from) 8802))
    where
      by : Dec (end - from < 8802) → take n (drop from s) ≡ kept (take (end - from) (drop from s))
      by (yes q) =
          let e : n ≡ end - from = omega arith in
          rw (e, take_all 8801 (take (end - from) (drop from s)) (rw length-take (omega arith)))
      by (no q) =
          let e : n ≡ 8801 = omega arith in
          rw (e, take-take 8801 (end - from) (drop from s) (omega arith))

-- ---- places behind the input have nothing in them

drop-within : (from : ℕ) (s : List ℕ) → drop (min from (length s)) s ≡ drop from s
drop-within from s = by (dec_lt from (length s))
  where
    by : Dec (from < length s) → drop (min from (length s)) s ≡ drop from s
    by (yes q) =
        let e : min from (length s) ≡ from = omega arith in
        rw e
    by (no q) = drop_of_length-le s {i = min from (length s)} (omega arith) ∙ sym (drop_of_length-le s {i = from} (omega arith))

pub clamped : (from end : ℕ) (s : List ℕ) → part (min from (min end (length s))) (min end (length s)) s ≡ part from end s
clamped from end s =
    rw (take_min end s) (ap (λ (n : ℕ). drop (min from n) (take end s)) (sym (length-take end s)) ∙ drop-within from (take end s))

pub part-le : (from end : ℕ) (s : List ℕ) → length (part from end s) ≤ length s
part-le from end s = rw (length-drop, length-take) (omega arith)

pub kept-clamped : (from end a b : ℕ) (s : List ℕ) {s' : List ℕ} {n : ℕ} → a ≡ min from b → b ≡ min end (length s) → Kept (part a b s) s s' n
    → Kept (part from end s) s s' n
kept-clamped from end a b s {s' = s'} {n = n} f e k =
    let g : part a b s ≡ part from end s = rw (f, e) (clamped from end s) in
    rw g at k
