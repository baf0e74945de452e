-- What a line has begun as, over two parts of an input, and where no newline stands. Assumes nothing.
use Rattle.std.proofs.Common.{◌≡◌, ℕ, zero, suc, ◌+◌, Bool, true, false, eqb, List, [], ◌∷◌, ◌++◌, take, drop, sym, refl, ◌∙◌, append_assoc, append-nil, take-add}
use Prim.Native.Char.{code}
use Rattle.format.specs.Fields.{pick}
use Rattle.blocks.specs.Blocks.{begun_from, NoNewline}

pub begun-append : (line a b : List ℕ) → begun_from line (a ++ b) ≡ begun_from (begun_from line a) b
unfolding begun_from
begun-append line [] b = refl
begun-append line (c ∷ a) b = by (eqb c (code "\n")) (begun-append [] a b) (begun-append (line ++ (c ∷ [])) a b)
  where
    by : (t : Bool) → begun_from [] (a ++ b) ≡ begun_from (begun_from [] a) b
        → begun_from (line ++ (c ∷ [])) (a ++ b) ≡ begun_from (begun_from (line ++ (c ∷ [])) a) b
        → pick t (begun_from [] (a ++ b)) (begun_from (line ++ (c ∷ [])) (a ++ b)) ≡ begun_from (pick t (begun_from [] a) (begun_from (line ++ (c ∷ [])) a)) b
    by true e f = e
    by false e f = f

-- whole lines, and whole lines after them
pub whole-more : (n m : ℕ) (s : List ℕ) → begun_from [] (take n s) ≡ [] → begun_from [] (take m (drop n s)) ≡ [] → begun_from [] (take (n + m) s) ≡ []
whole-more n m s h k = rw (take-add n m s, begun-append [] (take n s) (take m (drop n s)), h, k)

-- ---- a line has no newline in it

pub no-take : (n : ℕ) (s : List ℕ) → NoNewline s → NoNewline (take n s)
no-take zero s h = tt
no-take (suc n) [] h = tt
no-take (suc n) (c ∷ s) h = (h.0, no-take n s h.1)

no_more : (s : List ℕ) (c : ℕ) → NoNewline s → eqb c (code "\n") ≡ false → NoNewline (s ++ (c ∷ []))
no_more [] c h e = (e, tt)
no_more (d ∷ s) c h e = (h.0, no_more s c h.1 e)

pub no-begun : (line s : List ℕ) → NoNewline line → NoNewline (begun_from line s)
unfolding begun_from
no-begun line [] h = h
no-begun line (c ∷ s) h = by (eqb c (code "\n")) refl (no-begun [] s tt) (no-begun (line ++ (c ∷ [])) s)
  where
    by : (t : Bool) → eqb c (code "\n") ≡ t → NoNewline (begun_from [] s) → (NoNewline (line ++ (c ∷ [])) → NoNewline (begun_from (line ++ (c ∷ [])) s))
        → NoNewline (pick t (begun_from [] s) (begun_from (line ++ (c ∷ [])) s))
    by true e f g = f
    by false e f g = g (no_more line c h e)

-- it goes on as the line that has begun
pub begun-open : (line s : List ℕ) → NoNewline s → begun_from line s ≡ line ++ s
unfolding begun_from
begun-open line [] h = sym (append-nil line)
begun-open line (c ∷ s) h = rw h.0 (begun-open (line ++ (c ∷ [])) s h.1 ∙ append_assoc line (c ∷ []) s)
