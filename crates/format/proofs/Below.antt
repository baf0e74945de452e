-- Lists of numbers that are all below a bound: their parts, and what they are made of. Assumes nothing.
use Rattle.format.proofs.Common.{ℕ, zero, suc, ◌<◌, List, [], ◌∷◌, ◌++◌, get_or, take, drop}
use Rattle.format.specs.Digits.{AllBelow}

-- ---- lists of bytes

-- from what a slice of bytes is known to hold, index by index
pub below_all : (b : ℕ) (s : List ℕ) → ((i : ℕ) → get_or s i 0 < b) → AllBelow b s
below_all b [] h = tt
below_all b (x ∷ s) h = (h 0, below_all b s (λ i. h (suc i)))

-- and back: any of them, or what stands for one that is not there
pub below-getD : (b : ℕ) (l : List ℕ) (i d : ℕ) → AllBelow b l → d < b → get_or l i d < b
below-getD b [] i d h hd = hd
below-getD b (x ∷ l) zero d h hd = h.0
below-getD b (x ∷ l) (suc i) d h hd = below-getD b l i d h.1 hd

pub below-append : (b : ℕ) (s t : List ℕ) → AllBelow b s → AllBelow b t → AllBelow b (s ++ t)
below-append b [] t p q = q
below-append b (x ∷ s) t p q = (p.0, below-append b s t p.1 q)

pub append-below : (b : ℕ) (s t : List ℕ) → AllBelow b (s ++ t) → AllBelow b s
append-below b [] t p = tt
append-below b (x ∷ s) t p = (p.0, append-below b s t p.1)

pub behind-below : (b : ℕ) (s t : List ℕ) → AllBelow b (s ++ t) → AllBelow b t
behind-below b [] t p = p
behind-below b (x ∷ s) t p = behind-below b s t p.1

pub below-take : (b n : ℕ) (s : List ℕ) → AllBelow b s → AllBelow b (take n s)
below-take b zero s p = tt
below-take b (suc n) [] p = tt
below-take b (suc n) (x ∷ s) p = (p.0, below-take b n s p.1)

pub below-drop : (b n : ℕ) (s : List ℕ) → AllBelow b s → AllBelow b (drop n s)
below-drop b zero s p = p
below-drop b (suc n) [] p = tt
below-drop b (suc n) (x ∷ s) p = below-drop b n s p.1
