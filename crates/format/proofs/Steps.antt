-- One value, and the steps between rows: what is stored of them comes back, and what was stored is stored again. Assumes nothing.
use Rattle.format.proofs.Common.{◌≡◌, refl, ap, ℕ, zero, suc, ◌+◌, ◌<◌, ◌≤◌, mod-lt, arith, Bool, true, false, List, [], ◌∷◌, map}
use Rattle.format.proofs.Common.{length, drop, replicate, pow_pos}
use Rattle.format.specs.Digits.{AllBelow}
use Rattle.format.specs.Fields.{pick, two64, negative, row}
use Rattle.format.specs.Rows
use Rattle.format.specs.Rows.{plus, walk}
use Rattle.format.specs.Writing.{stored, step_to, steps_of}
use Rattle.format.proofs.Patterns.{zigzag-zigzagged, zigzagged-zigzag, zigzagged-lt}

-- ---- one value

pub row-stored : (signed : Bool) (b : ℕ) → b < two64 → row signed (stored signed b) ≡ b
unfolding row stored
row-stored true b h = zigzag-zigzagged b h
row-stored false b h = refl

pub stored_row : (signed : Bool) (u : ℕ) → u < two64 → stored signed (row signed u) ≡ u
unfolding row stored
stored_row true u h = zigzagged-zigzag u h
stored_row false u h = refl

pub stored-lt : (signed : Bool) (b : ℕ) → b < two64 → stored signed b < two64
unfolding stored
stored-lt true b h = zigzagged-lt b h
stored-lt false b h = h

-- what is undone of each number is undone of a list
pub map_back : {B : Type 0} (g : B → ℕ) (f : ℕ → B) (b : ℕ) → ((x : ℕ) → x < b → g (f x) ≡ x) → (l : List ℕ) → AllBelow b l → map g (map f l) ≡ l
map_back g f b h [] p = refl
map_back g f b h (x ∷ l) p = rw (h x p.0, map_back g f b h l p.1)

-- ---- steps

abbrev onward : Bool → ℕ → ℕ → ℕ
onward falling x m = plus x (pick falling (negative m) m)

pub step-there : (falling : Bool) (x y : ℕ) → x < two64 → y < two64 → onward falling x (step_to falling x y) ≡ y
unfolding negative
step-there true x y hx hy = omega arith
step-there false x y hx hy = omega arith

pub step_back : (falling : Bool) (x m : ℕ) → x < two64 → m < two64 → step_to falling x (onward falling x m) ≡ m
unfolding negative
step_back true x m hx hm = omega arith
step_back false x m hx hm = omega arith

onward-lt : (falling : Bool) (x m : ℕ) → onward falling x m < two64
onward-lt falling x m = mod-lt _ (pow_pos 64)

-- the rows after the first, from their steps; and the steps of such rows
pub walk_steps : (falling : Bool) (x : ℕ) (ys : List ℕ) → AllBelow two64 (x ∷ ys) → walk falling x (steps_of falling (x ∷ ys)) ≡ ys
unfolding walk steps_of
walk_steps falling x [] h = refl
walk_steps falling x (y ∷ ys) h =
    rw (step-there falling x y h.0 h.1.0) (ap (λ (l : List ℕ). y ∷ l) (walk_steps falling y ys h.1))

pub steps-walk : (falling : Bool) (x : ℕ) (ms : List ℕ) → x < two64 → AllBelow two64 ms → steps_of falling (x ∷ walk falling x ms) ≡ ms
unfolding walk steps_of
steps-walk falling x [] hx h = refl
steps-walk falling x (m ∷ ms) hx h =
    rw (step_back falling x m hx h.0) (ap (λ (l : List ℕ). m ∷ l) (steps-walk falling (onward falling x m) ms (onward-lt falling x m) h.1))

-- equal steps are steps all the same
pub steps-even : (n x d : ℕ) → Rows.steps (suc n) x d ≡ x ∷ walk false x (replicate n d)
unfolding Rows.steps walk
steps-even zero x d = refl
steps-even (suc n) x d = ap (λ (l : List ℕ). x ∷ l) (steps-even n (plus x d) d)

pub length-steps : (falling : Bool) (x : ℕ) (ys : List ℕ) → length (steps_of falling (x ∷ ys)) ≡ length ys
unfolding steps_of
length-steps falling x [] = refl
length-steps falling x (y ∷ ys) = ap suc (length-steps falling y ys)

pub later-steps : (falling : Bool) (rs : List ℕ) → 2 ≤ length rs → length (steps_of falling (drop 1 rs)) + 2 ≡ length rs
later-steps falling [] h = absurd (omega arith)
later-steps falling (x ∷ []) h = absurd (omega arith)
later-steps falling (x ∷ y ∷ rs) h = omega (arith, length-steps falling y rs)

pub steps-lt : (falling : Bool) (rs : List ℕ) → AllBelow two64 (steps_of falling rs)
unfolding steps_of
steps-lt falling [] = tt
steps-lt falling (x ∷ []) = tt
steps-lt true (x ∷ y ∷ rs) = (mod-lt _ (pow_pos 64), steps-lt true (y ∷ rs))
steps-lt false (x ∷ y ∷ rs) = (mod-lt _ (pow_pos 64), steps-lt false (y ∷ rs))
