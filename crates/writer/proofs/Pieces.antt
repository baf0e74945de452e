-- Bytes written one piece after another, the size of a block, and what a form allows. Assumes nothing.
use Rattle.format.proofs.Common.{◌≡◌, refl, sym, ◌∙◌, ℕ, ◌+◌, ◌≤◌, arith, Bool, true, ◌&&◌, List, [], ◌∷◌, ◌++◌, leb, leb→le}
use Rattle.format.proofs.Common.{eqb-true, length, drop, take, set, length-append, take_at, drop-append-add, drop-drop}
use Rattle.format.specs.declared.Form.{Form}
use Rattle.format.specs.declared.Form.TheVariants.{ShortRepeat, Direct, FixedDelta, PackedDelta}
use Rattle.format.specs.Fields.{width}
use Rattle.format.specs.Kept.{is_kept}
use Rattle.format.specs.Writing.{between, count_allowed, width_allowed}
use Rattle.format.proofs.Kept.{kept-code}
use Rattle.format.proofs.Tests.{between_le, T_true, and_left, and_right}
use Rattle.format.proofs.Widths.{IsWidth, width_is}

-- ---- bytes written one piece after another

pub one_set : (l : List ℕ) (a : ℕ) → 1 ≤ length l → set l 0 a ≡ a ∷ drop 1 l
one_set [] a h = absurd (omega arith)
one_set (x ∷ l) a h = refl

pub two-set : (l : List ℕ) (a b : ℕ) → 2 ≤ length l → set (set l 0 a) 1 b ≡ a ∷ b ∷ drop 2 l
two-set [] a b h = absurd (omega arith)
two-set (x ∷ []) a b h = absurd (omega arith)
two-set (x ∷ y ∷ l) a b h = refl

-- two more bytes, behind two that stand in front
pub four-set : (p before out : List ℕ) (c d : ℕ) → length p ≡ 2 → 4 ≤ length before → out ≡ p ++ drop 2 before
    → set (set out 2 c) 3 d ≡ p ++ (c ∷ d ∷ drop 4 before)
four-set (a ∷ b ∷ []) (x ∷ y ∷ z ∷ w ∷ l) out c d n h e = rw e
four-set (a ∷ b ∷ []) [] out c d n h e = absurd (omega arith)
four-set (a ∷ b ∷ []) (x ∷ []) out c d n h e = absurd (omega arith)
four-set (a ∷ b ∷ []) (x ∷ y ∷ []) out c d n h e = absurd (omega arith)
four-set (a ∷ b ∷ []) (x ∷ y ∷ z ∷ []) out c d n h e = absurd (omega arith)
four-set [] l out c d n h e = absurd (omega arith)
four-set (a ∷ []) l out c d n h e = absurd (omega arith)
four-set (a ∷ b ∷ c' ∷ p) l out c d n h e = absurd (omega arith)

-- a piece of k bytes, written behind what stands in front
pub behind : (p q before out out' : List ℕ) (at k : ℕ) → at ≡ length p → length q ≡ k → out ≡ p ++ drop (length p) before
    → out' ≡ take at out ++ q ++ drop (at + k) out → out' ≡ (p ++ q) ++ drop (length (p ++ q)) before
behind p q before out out' at k n l e f =
    let front : take at out ≡ p = rw e (take_at p (drop (length p) before) at (sym n)) in
    let back : drop (at + k) out ≡ drop (length (p ++ q)) before =
    rw (e, n, drop-append-add p (drop (length p) before) k, drop-drop k (length p) before, length-append p q, l) in
    f ∙ rw (front, back)

-- ---- the size of a block

pub width-known : {bits : ℕ} (code : ℕ) → bits ≡ width code → IsWidth bits
width-known code e = rw e (width_is code)

-- ---- what a form allows, in numbers

pub within : (low high n : ℕ) → between low high n ≡ true → (low ≤ n) × (n ≤ high)
within low high n e = between_le low high n (rw e tt)

-- a packed delta's code
packed-kept : (w : ℕ) → leb 1 w && is_kept w ≡ true → (1 ≤ w) × (w ≤ 31) × (is_kept w ≡ true)
packed-kept w e =
    let k : is_kept w ≡ true = T_true (is_kept w) (and_right (leb 1 w) (is_kept w) (rw e tt)) in
    (leb→le 1 w (and_left (leb 1 w) (is_kept w) (rw e tt)), omega (arith, kept-code w k), k)

-- .. by the two tests
pub record Allowed (f : Form) (n w : ℕ) : Type 0 where
  pub count : count_allowed f n ≡ true
  pub width : width_allowed f w ≡ true

pub allowed : {f : Form} {n w : ℕ} {a b : Bool} → a ≡ count_allowed f n → a ≡ true → b ≡ width_allowed f w → b ≡ true → Allowed f n w
allowed c y d z = record { count = sym c ∙ y; width = sym d ∙ z }

module _ {f : Form} {n w : ℕ} (a : Allowed f n w) where
  pub short-allowed : f ≡ ShortRepeat → (3 ≤ n) × (n ≤ 10) × (1 ≤ w) × (w ≤ 8)
  short-allowed e =
      let p = within 3 10 n (rw e at a.count) in
      let q = within 1 8 w (rw e at a.width) in
      (p.0, p.1, q.0, q.1)

  pub direct-allowed : f ≡ Direct → ((1 ≤ n) × (n ≤ 512) × (w ≤ 31)) × (is_kept w ≡ true)
  direct-allowed e =
      let p = within 1 512 n (rw e at a.count) in
      let k : is_kept w ≡ true = rw e at a.width in
      ((p.0, p.1, omega (arith, kept-code w k)), k)

  pub fixed-allowed : f ≡ FixedDelta → (1 ≤ n) × (n ≤ 512) × (w ≡ 0)
  fixed-allowed e =
      let p = within 1 512 n (rw e at a.count) in
      (p.0, p.1, eqb-true w 0 (rw e at a.width))

  pub packed-allowed : f ≡ PackedDelta → ((2 ≤ n) × (n ≤ 512) × (1 ≤ w) × (w ≤ 31)) × (is_kept w ≡ true)
  packed-allowed e =
      let p = within 2 512 n (rw e at a.count) in
      let q = packed-kept w (rw e at a.width) in
      ((p.0, p.1, q.0, q.1), q.2)
