-- The starts one after another, and group i of those that starts and counts list. Assumes nothing.
use mathlib.Core.Path.{◌≡◌, refl, sym, ap, ◌∙◌}
use mathlib.Core.Logic.{◌≢◌}
use Prim.Native.Nat.{ℕ, zero, suc, ◌-◌, ◌<◌, ◌≤◌}
use native.Mathlib.Omega.{arith}
use mathlib.Core.Bool.{false, ◌&&◌}
use mathlib.Core.List.{List, [], ◌∷◌}
use lib.ListN.{length, drop, get_or, length-drop, drop_of_length-le}
use lib.Seq.{drop-cons, take_all}
use lib.Dec.{T, ltb, eqb, leb, ltb→lt, leb→le}
use borrow.Author.Tests.{ne_eqb, lt-ltb, le-ltb}
use Rattle.salvage.specs.Salvage.{groups, rising, starts_right}
use Rattle.salvage.specs.Steps.{stop_of, bytes_of, group}
use Rattle.salvage.proofs.Starting.{groups_none, groups-last, groups-cons}
use Rattle.format.proofs.Tests.{and-e}

-- ---- the starts

module _ (starts : List ℕ) (end : ℕ) where
  pub right-none : length starts ≡ 0 → eqb end 0 ≡ starts_right end starts
  unfolding starts_right
  right-none h = go starts h
    where
      go : (l : List ℕ) → length l ≡ 0 → eqb end 0 ≡ starts_right end l
      go [] h = refl
      go (s ∷ l) h = absurd (omega arith)

  module _ (last i : ℕ) where
    next_start : i < length starts → rising end last (drop i starts) ≡ (ltb last (get_or starts i 0) && rising end (get_or starts i 0) (drop (suc i) starts))
    unfolding rising
    next_start h = ap (rising end last) (drop-cons starts i 0 h)

    pub rising-on : i < length starts → last < get_or starts i 0 → rising end last (drop i starts) ≡ rising end (get_or starts i 0) (drop (suc i) starts)
    rising-on h l = next_start h ∙ rw (lt-ltb last (get_or starts i 0) l)

    pub rising-stops : i < length starts → get_or starts i 0 ≤ last → rising end last (drop i starts) ≡ false
    rising-stops h l = next_start h ∙ rw (le-ltb last (get_or starts i 0) l)

    pub rising-end : length starts ≤ i → rising end last (drop i starts) ≡ leb last end
    unfolding rising
    rising-end h = ap (rising end last) (drop_of_length-le starts h)

pub right-late : (end first : ℕ) (more : List ℕ) → first ≢ 0 → false ≡ starts_right end (first ∷ more)
unfolding starts_right
right-late end first more n = rw (ne_eqb first 0 n)

pub right-first : (end first : ℕ) (more : List ℕ) → first ≡ 0 → starts_right end (first ∷ more) ≡ rising end 0 more
unfolding starts_right
right-first end first more n = rw n

-- ---- group i lies in the stream

rises-to : (end s : ℕ) (ss : List ℕ) → T (rising end s ss) → s ≤ end
unfolding rising
rises-to end s [] t = leb→le s end t
rises-to end s (u ∷ ss) t =
    let c = and-e (ltb s u) (rising end u ss) t in
    omega (arith, ltb→lt s u c.0, rises-to end u ss c.1)

rises-inside : (end s : ℕ) (ss : List ℕ) → T (rising end s ss) → (i : ℕ) → i < suc (length ss)
    → (get_or (s ∷ ss) i 0 ≤ stop_of end (s ∷ ss) i) × (stop_of end (s ∷ ss) i ≤ end)
unfolding rising
rises-inside end s [] t zero h = (leb→le s end t, omega arith)
rises-inside end s [] t (suc i) h = absurd (omega arith)
rises-inside end s (u ∷ ss) t zero h =
    let c = and-e (ltb s u) (rising end u ss) t in
    (omega (arith, ltb→lt s u c.0), rises-to end u ss c.1)
rises-inside end s (u ∷ ss) t (suc i) h = rises-inside end u ss (and-e (ltb s u) (rising end u ss) t).1 i (omega arith)

pub inside : (end : ℕ) (starts : List ℕ) (i : ℕ) → T (starts_right end starts) → i < length starts
    → (get_or starts i 0 ≤ stop_of end starts i) × (stop_of end starts i ≤ end)
unfolding starts_right
inside end [] i t h = absurd (omega arith)
inside end (s ∷ ss) i t h = rises-inside end s ss (and-e (eqb s 0) (rising end s ss) t).1 i h

-- ---- the groups from i on

pub groups-at : (bs starts ns : List ℕ) (i : ℕ) → i < length starts → length starts ≡ length ns
    → drop i (groups bs starts ns) ≡ group (bytes_of bs starts i) (get_or ns i 0) ∷ drop (suc i) (groups bs starts ns)
groups-at bs [] ns i h e = absurd (omega arith)
groups-at bs (s ∷ ss) [] i h e = absurd (omega arith)
groups-at bs (s ∷ []) (n ∷ ns) (suc i) h e = absurd (omega arith)
groups-at bs (s ∷ []) (n ∷ ns) zero h e =
    rw (groups-last bs s n ns)
    (ap (λ (b : List ℕ). group b n ∷ []) (sym (take_all (length bs - s) (drop s bs) (omega (arith, length-drop s bs)))))
groups-at bs (s ∷ t ∷ ss) (n ∷ ns) zero h e = rw (groups-cons bs s t n ss ns)
groups-at bs (s ∷ t ∷ ss) (n ∷ ns) (suc i) h e = rw (groups-cons bs s t n ss ns) (groups-at bs (t ∷ ss) ns i (omega arith) (omega arith))

groups-short : (bs : List ℕ) (s : ℕ) (ss : List ℕ) → groups bs (s ∷ ss) [] ≡ []
unfolding groups
groups-short bs s ss = refl

pub groups-end : (bs starts ns : List ℕ) (i : ℕ) → length starts ≤ i → drop i (groups bs starts ns) ≡ []
groups-end bs [] ns i h = rw (groups_none bs ns) (drop_of_length-le [] {i = i} (omega arith))
groups-end bs (s ∷ ss) ns zero h = absurd (omega arith)
groups-end bs (s ∷ ss) [] (suc i) h = rw (groups-short bs s ss) (drop_of_length-le [] {i = suc i} (omega arith))
groups-end bs (s ∷ []) (n ∷ ns) (suc i) h = rw (groups-last bs s n ns) (drop_of_length-le [] {i = i} (omega arith))
groups-end bs (s ∷ t ∷ ss) (n ∷ ns) (suc i) h = rw (groups-cons bs s t n ss ns) (groups-end bs (t ∷ ss) ns i (omega arith))
