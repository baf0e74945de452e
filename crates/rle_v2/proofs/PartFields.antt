-- Fields of a block from one on whose number is a multiple of eight begin with a byte: they are the fields that the bytes from there on begin
-- with. Assumes nothing.
use mathlib.Core.Path.{◌≡◌, sym, ap, ◌∙◌}
use Prim.Native.Nat.{ℕ, ◌+◌, ◌-◌, ◌*◌, ◌/◌, ◌%◌, ◌≤◌, ◌<◌}
use native.Mathlib.Nat.{mul-le-mul_right}
use native.Mathlib.Omega.{arith}
use mathlib.Core.List.{List, ◌++◌, map, map-append, append_assoc}
use lib.ListN.{length, take, drop, length-drop, length-map, take-append-drop}
use lib.Seq.{ext_get_or, get_or-take, get_or-drop, drop-append-add, length-take-le, take-add, take_at, drop_at, drop-drop}
use lib.IntN.{ℤ}
use Rattle.format.specs.Digits.{AllBelow, number, spread}
use Rattle.format.specs.Fields.{bytes_for}
use Rattle.format.specs.Rows.{as_i64}
use Rattle.format.proofs.Digits.{length-spread, spread-append}
use Rattle.format.proofs.Below.{below-drop}
use Rattle.util.specs.Packed.{fields, bits}
use Rattle.util.proofs.Grow.{back_is}
use Rattle.util.proofs.Window.{field-at, length_fields}
use Rattle.rle_v2.specs.Part.{PartThere, PartPut}

-- bits after b whole bytes
bits-after : (b p w : ℕ) (s : List ℕ) → b ≤ length s → bits (8 * b + p) w s ≡ bits p w (drop b s)
unfolding bits
bits-after b p w s h =
    let e : 8 * b + p ≡ length (spread 2 8 (take b s)) + p = rw (length-spread, length-take-le b s h) (omega arith) in
    ap (λ (t : List ℕ). number 2 (take w (drop (8 * b + p) (spread 2 8 t)))) (sym (take-append-drop b s))
    ∙ ap (λ (n : ℕ). number 2 (take w (drop n (spread 2 8 (take b s ++ drop b s))))) e
    ∙ rw (spread-append 2 8 (take b s), drop-append-add (spread 2 8 (take b s)))

module _ (w n q m : ℕ) (s : List ℕ) (h : 8 * q + m ≤ n) (l : bytes_for (n * w) ≤ length s) where
  pub bytes-before : q * w ≤ length s
  bytes-before = omega (arith, mul-le-mul_right w h)

  pub bytes_after : bytes_for (m * w) ≤ length s - q * w
  bytes_after = omega (arith, mul-le-mul_right w h)

  pub fields-from : AllBelow 256 s → fields w m (drop (q * w) s) ≡ take m (drop (8 * q) (fields w n s))
  fields-from d =
      ext_get_or 0 (fields w m (drop (q * w) s)) (take m (drop (8 * q) (fields w n s)))
      (length_fields w m (drop (q * w) s) ∙ sym (length-take-le m (drop (8 * q) (fields w n s)) (rw (length-drop, length_fields w n s) (omega arith))))
      λ i k.
      let j : i < m = rw (length_fields w m (drop (q * w) s)) at k in
      field-at w m i (drop (q * w) s) (below-drop 256 (q * w) s d) j (rw length-drop bytes_after)
      ∙ sym (bits-after (q * w) (i * w) w s bytes-before)
      ∙ ap (λ (p : ℕ). bits p w s) (omega arith)
      ∙ sym (field-at w n (8 * q + i) s d (omega arith) l)
      ∙ sym (get_or-take m (drop (8 * q) (fields w n s)) i 0 j ∙ get_or-drop (8 * q) (fields w n s) i 0)

module _ {w count skip n : ℕ} {s : List ℕ} {out : List ℤ} (y : PartThere w count skip n s out) (d : AllBelow 256 s) where
  -- all fields of the block
  abbrev all : List ℕ
  all = fields w count s

  part_count : (m : ℕ) → m ≤ n → length (map as_i64 (take m (drop skip all))) ≡ m
  part_count m h = length-map (take m (drop skip all)) as_i64 ∙ length-take-le m (drop skip all) (rw (length-drop, length_fields w count s) (omega (arith, y.within)))

  -- ---- an eight that was unpacked aside

  abbrev begun : ℕ
  begun = skip % 8

  eight-within : 8 * (skip / 8) + (begun + n) ≤ count
  eight-within = omega (arith, y.within)

  pub eight-before : skip / 8 * w ≤ length s
  eight-before = bytes-before w count (skip / 8) (begun + n) s eight-within y.there

  pub eight-after : bytes_for ((begun + n) * w) ≤ length s - skip / 8 * w
  eight-after = bytes_after w count (skip / 8) (begun + n) s eight-within y.there

  pub in-eight : (held rest out' : List ℤ) → held ≡ map as_i64 (fields w (begun + n) (drop (skip / 8 * w) s)) ++ rest
      → out' ≡ take n (drop begun held) ++ drop n out → PartPut w count skip n s out out'
  in-eight held rest out' e f =
      let z = drop (8 * (skip / 8)) all in
      let p = map as_i64 (take begun z) in
      let r = map as_i64 (take n (drop begun z)) in
      let whole : 8 * (skip / 8) + begun ≡ skip = omega arith in
      let from : drop begun z ≡ drop skip all = drop-drop begun (8 * (skip / 8)) all ∙ ap (λ (k : ℕ). drop k all) whole in
      let g : held ≡ p ++ (r ++ rest)
      = e ∙ rw (fields-from w count (skip / 8) (begun + n) s eight-within y.there d, take-add begun n z, map-append, append_assoc) in
      let lp : length p ≡ begun = length-map (take begun z) as_i64 ∙ length-take-le begun z (rw (length-drop, length_fields w count s) (omega (arith, y.within))) in
      let lr : length r ≡ n = ap (λ (x : List ℕ). length (map as_i64 (take n x))) from ∙ part_count n (omega arith) in
      f ∙ rw (g, drop_at p (r ++ rest) begun lp, take_at r rest n lr) (ap (λ (x : List ℕ). map as_i64 (take n x) ++ drop n out) from)

  -- ---- the fields after some that are laid, from an eight on

  module _ (head : ℕ) (few : head ≤ n) (even : (skip + head) % 8 ≡ 0) where
    abbrev next : ℕ
    next = (skip + head) / 8

    next-within : 8 * next + (n - head) ≤ count
    next-within = omega (arith, y.within)

    pub next-before : next * w ≤ length s
    next-before = bytes-before w count next (n - head) s next-within y.there

    pub next-after : bytes_for ((n - head) * w) ≤ length s - next * w
    next-after = bytes_after w count next (n - head) s next-within y.there

    pub then_next : (one part : List ℤ) → PartPut w count skip head s out one
        → part ≡ map as_i64 (fields w (n - head) (drop (next * w) s)) ++ drop (n - head) (drop head one)
        → PartPut w count skip n s out (take head one ++ (part ++ drop (length one - head) (drop head one)))
    then_next one part e f =
        let z = drop skip all in
        let a = map as_i64 (take head z) in
        let b = map as_i64 (fields w (n - head) (drop (next * w) s)) in
        let la : length a ≡ head = part_count head few in
        let sum : head + (n - head) ≡ n = omega arith in
        let eights : 8 * next ≡ skip + head = omega (arith, even) in
        let from : drop (8 * next) all ≡ drop head z = ap (λ (k : ℕ). drop k all) eights ∙ sym (drop-drop head skip all) in
        let joined : a ++ b ≡ map as_i64 (take n z)
        = ap (λ (x : List ℕ). a ++ map as_i64 x) (fields-from w count next (n - head) s next-within y.there d ∙ ap (take (n - head)) from)
        ∙ sym (map-append as_i64 (take head z) (take (n - head) (drop head z))) ∙ ap (map as_i64) (sym (take-add head (n - head) z) ∙ ap (λ (k : ℕ). take k z) sum) in
        let kept : drop (head + (n - head)) one ≡ drop n out
        = sym (drop-drop (n - head) head one)
        ∙ ap (drop (n - head)) (ap (drop head) e ∙ drop_at a (drop head out) head la)
        ∙ drop-drop (n - head) head out ∙ ap (λ (k : ℕ). drop k out) sum in
        back_is one part b head (n - head) f
        ∙ ap (λ (x : List ℤ). (x ++ b) ++ drop (head + (n - head)) one) (ap (take head) e ∙ take_at a (drop head out) head la)
        ∙ rw (joined, kept)
