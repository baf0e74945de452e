-- What two blocks that differ in one byte have in common: by the law that field i of a block is bits i·w to i·w+w-1 of its bytes.
-- Assumes nothing.
use Rattle.format.proofs.Common.{◌≡◌, sym, ap, ◌∙◌, inl, inr, ℕ, suc, ◌+◌, ◌-◌, ◌*◌, ◌^◌, ◌<◌, ◌≤◌, zero-lt-suc, arith, List, ◌∷◌, ◌++◌}
use Rattle.format.proofs.Common.{append_assoc, length, get_or, take, drop, length-append, length-drop, take-append-le, drop-append-le}
use Rattle.format.proofs.Common.{drop-append-add, take-append-add, take-append_seam, pow_pos}
use Rattle.format.specs.Digits.{AllBelow, number, digits, spread}
use Rattle.format.specs.Fields.{Block, IsBlock, block_bytes, bytes_for}
use Rattle.format.specs.Runs.{Description, Valid, ValidHead, layout, head₀, head₁}
use Rattle.format.specs.Parse.{got, parse}
use Rattle.format.proofs.Digits.{length_digits, number_digits, length-spread, spread-append}
use Rattle.format.proofs.Posts.{Took}
use Rattle.format.proofs.Below.{below-getD, below-drop}
use Rattle.format.proofs.FieldBits.{block-field}
use Rattle.format.proofs.Fields.{length-block}
use Rattle.format.proofs.Runs.{Outcome, run, outcome}
use Rattle.promises.specs.FlippedByte.{HoldsRun, Outside}

-- ---- the bits of a list of bytes

-- w of them from the a-th on, all before byte j, or all behind it
bits-before : (w a : ℕ) (s t : List ℕ) → a + w ≤ length s * 8 → take w (drop a (spread 2 8 (s ++ t))) ≡ take w (drop a (spread 2 8 s))
bits-before w a s t h =
    let l = length-spread 2 8 s in
    rw (spread-append 2 8 s t, drop-append-le a (spread 2 8 s) (spread 2 8 t) (omega arith))
    (take-append-le w (drop a (spread 2 8 s)) (spread 2 8 t) (rw length-drop (omega arith)))

bits-behind : (w a : ℕ) (s t : List ℕ) (x : ℕ) → length s * 8 + 8 ≤ a
    → take w (drop a (spread 2 8 (s ++ (x ∷ t)))) ≡ take w (drop (a - (length s * 8 + 8)) (spread 2 8 t))
bits-behind w a s t x h =
    let p : List ℕ = spread 2 8 s ++ digits 2 8 x in
    let e : a ≡ length p + (a - (length s * 8 + 8)) = omega (arith, length-append (spread 2 8 s) (digits 2 8 x), length-spread 2 8 s, length_digits 2 8 x) in
    ap (λ (n : ℕ). take w (drop n (spread 2 8 (s ++ (x ∷ t))))) e
    ∙ rw (spread-append 2 8 s (x ∷ t), ← (append_assoc (spread 2 8 s) (digits 2 8 x) (spread 2 8 t)), drop-append-add p (spread 2 8 t) (a - (length s * 8 + 8)))

-- THE LAW: fields of two blocks whose bytes differ in one byte
pub field-same : (w n : ℕ) (k k' : Block) → IsBlock w n k → IsBlock w n k' → (s t : List ℕ) (x y : ℕ) → block_bytes w n k ≡ s ++ (x ∷ t)
    → block_bytes w n k' ≡ s ++ (y ∷ t) → 1 ≤ w → (i : ℕ) → i < n → Outside w i (length s) → get_or k.values i 0 ≡ get_or k'.values i 0
field-same w n k k' v v' s t x y e e' p i l o =
    sym (number_digits 2 (zero-lt-suc 1) w (get_or k.values i 0) (below-getD (2 ^ w) k.values i 0 v.fits (pow_pos w)))
    ∙ ap (number 2) (sym (block-field w n k v i l) ∙ go o ∙ block-field w n k' v' i l)
    ∙ number_digits 2 (zero-lt-suc 1) w (get_or k'.values i 0) (below-getD (2 ^ w) k'.values i 0 v'.fits (pow_pos w))
  where
    go : Outside w i (length s) → take w (drop (i * w) (spread 2 8 (block_bytes w n k))) ≡ take w (drop (i * w) (spread 2 8 (block_bytes w n k')))
    go (inl h) =
        let b : i * w + w ≤ length s * 8 = omega arith in
        rw (e, e') (bits-before w (i * w) s (x ∷ t) b ∙ sym (bits-before w (i * w) s (y ∷ t) b))
    go (inr h) =
        let b : length s * 8 + 8 ≤ i * w = omega arith in
        rw (e, e') (bits-behind w (i * w) s t x b ∙ sym (bits-behind w (i * w) s t y b))

-- ---- where the byte stands

-- of a list that begins with p, an element behind p's beginning and within p
pub split-in : (p q s t : List ℕ) (x : ℕ) → p ++ q ≡ s ++ (x ∷ t) → length s < length p → p ≡ s ++ (x ∷ take (length p - suc (length s)) t)
split-in p q s t x e h =
    let l : length p ≡ length s + suc (length p - suc (length s)) = omega arith in
    sym (take-append_seam p q) ∙ ap (take (length p)) e ∙ ap (λ (n : ℕ). take n (s ++ (x ∷ t))) l ∙ take-append-add s (x ∷ t) (suc (length p - suc (length s)))

took : (bs : List ℕ) (d : Description) (rest : List ℕ) → AllBelow 256 bs → parse bs ≡ got d rest → Took bs layout Valid d rest
took bs d rest h e = go (rw e at (outcome bs h))
  where
    go : Outcome bs (got d rest) → Took bs layout Valid d rest
    go (run t) = t

-- an accepted run is valid, and its layout stands in front of the bytes
pub record FlippedLayout (front : List ℕ) (x : ℕ) (back follows rest : List ℕ) (d : Description) : Type 0 where
  pub ok : Valid d
  pub split : front ++ (x ∷ (back ++ follows)) ≡ layout d ++ rest

pub laid : {input front back : List ℕ} {at x : ℕ} {d : Description} → (h : HoldsRun input at front x back d)
    → FlippedLayout front x back h.follows h.rest d
laid {input} {at} {d} h =
    let t = took (drop at input) d h.rest (below-drop 256 at input h.bytes) h.accepted in
    record { ok = t.ok; split = sym h.split ∙ t.split }

-- a header has one meaning
pub head-same : (kind code code' n n' : ℕ) → ValidHead code n → ValidHead code' n' → head₀ kind code n ≡ head₀ kind code' n'
    → head₁ n ≡ head₁ n' → (code ≡ code') × (n ≡ n')
head-same kind code code' n n' v v' e f = omega arith

-- two blocks of one size, whose bytes lie in lists that differ in one place as far as the first block goes
pub values_same : (w w' n n' : ℕ) (k k' : Block) → w ≡ w' → n ≡ n' → IsBlock w n k → IsBlock w' n' k' → (q q' s t r r' : List ℕ) (x y : ℕ)
    → block_bytes w n k ++ q ≡ s ++ (x ∷ (t ++ r)) → block_bytes w' n' k' ++ q' ≡ s ++ (y ∷ (t ++ r'))
    → length s < bytes_for (n * w) → bytes_for (n * w) ≤ length s + 1 + length t → 1 ≤ w
    → (i : ℕ) → i < n → Outside w i (length s) → get_or k.values i 0 ≡ get_or k'.values i 0
values_same w w' n n' k k' ew en v v' q q' s t r r' x y e e' l m =
    field-same w n k k' v (rw (← ew, ← en) at v') s (take size t) x y
    (block-split k q r x e) (block-split k' q' r' y (rw (← ew, ← en) at e'))
  where
    size : ℕ
    size = bytes_for (n * w) - suc (length s)

    block-split : (k : Block) (q r : List ℕ) (x : ℕ) → block_bytes w n k ++ q ≡ s ++ (x ∷ (t ++ r)) → block_bytes w n k ≡ s ++ (x ∷ take size t)
    block-split k q r x e =
        rw (length-block w n k) at (split-in (block_bytes w n k) q s (t ++ r) x e (rw (length-block w n k) l))
        ∙ ap (λ (u : List ℕ). s ++ (x ∷ u)) (take-append-le size t r (omega arith))
