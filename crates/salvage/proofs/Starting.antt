-- Groups by starts and counts: right starts cut a stream into groups that make it up, and damage stays in its group. Assumes nothing.
use mathlib.Core.Path.{◌≡◌, refl, sym, ap, ◌∙◌}
use Prim.Native.Nat.{ℕ, suc, ◌+◌, ◌-◌}
use native.Mathlib.Omega.{arith}
use mathlib.Core.List.{List, [], ◌∷◌, ◌++◌, append_assoc, append-nil}
use lib.ListN.{length, take, drop, length-append, take-append-drop}
use lib.Seq.{take-append_seam, drop-append_seam, drop-drop}
use lib.Dec.{T, ltb, eqb, eqb→eq, ltb→lt}
use Rattle.format.specs.Digits.{AllBelow}
use Rattle.format.proofs.Below.{below-take, below-drop}
use Rattle.format.proofs.Tests.{and-e}
use Rattle.salvage.specs.Salvage.{Group, groups, rising, starts_right}
use Rattle.salvage.specs.Laws.{AllBytes, counts, joined_groups, starts_from, RightStarts}

pub groups_none : (bs ns : List ℕ) → groups bs [] ns ≡ []
unfolding groups
groups_none bs ns = refl

pub groups-last : (bs : List ℕ) (s n : ℕ) (ns : List ℕ) → groups bs (s ∷ []) (n ∷ ns) ≡ record { bytes = drop s bs; rows = n } ∷ []
unfolding groups
groups-last bs s n ns = refl

pub groups-cons : (bs : List ℕ) (s t n : ℕ) (ss ns : List ℕ)
    → groups bs (s ∷ t ∷ ss) (n ∷ ns) ≡ record { bytes = take (t - s) (drop s bs); rows = n } ∷ groups bs (t ∷ ss) ns
unfolding groups
groups-cons bs s t n ss ns = refl

same-group : {b c : List ℕ} (n : ℕ) {gs hs : List Group} → b ≡ c → gs ≡ hs → record { bytes = b; rows = n } ∷ gs ≡ record { bytes = c; rows = n } ∷ hs
same-group n e f = rw (e, f)

back_from : (p : List ℕ) (gs : List Group) → groups (p ++ joined_groups gs) (starts_from (length p) gs) (counts gs) ≡ gs
unfolding joined_groups starts_from
back_from p [] = groups_none (p ++ []) []
back_from p (g ∷ []) = groups-last _ _ _ _ ∙ same-group g.rows (drop-append_seam p (g.bytes ++ []) ∙ append-nil g.bytes) refl
back_from p (g ∷ h ∷ gs) =
    let bs : List ℕ = p ++ (g.bytes ++ joined_groups (h ∷ gs)) in
    let l : length p + length g.bytes - length p ≡ length g.bytes = omega arith in
    let first : take (length p + length g.bytes - length p) (drop (length p) bs) ≡ g.bytes =
    rw (l, drop-append_seam p (g.bytes ++ joined_groups (h ∷ gs))) (take-append_seam g.bytes (joined_groups (h ∷ gs))) in
    let rest : groups bs (starts_from (length p + length g.bytes) (h ∷ gs)) (counts (h ∷ gs)) ≡ h ∷ gs =
    rw (append_assoc p g.bytes (joined_groups (h ∷ gs)), length-append p g.bytes) at (back_from (p ++ g.bytes) (h ∷ gs)) in
    groups-cons _ _ _ _ _ _ ∙ same-group g.rows first rest

pub back : (gs : List Group) → groups (joined_groups gs) (starts_from 0 gs) (counts gs) ≡ gs
back gs = back_from [] gs

starts-same : (s : ℕ) (before behind : List Group) (g k : Group) → length g.bytes ≡ length k.bytes
    → starts_from s (before ++ (g ∷ behind)) ≡ starts_from s (before ++ (k ∷ behind))
unfolding starts_from
starts-same s [] behind g k e = rw e
starts-same s (h ∷ before) behind g k e = ap (λ (l : List ℕ). s ∷ l) (starts-same (s + length h.bytes) before behind g k e)

counts_same : (before behind : List Group) (g k : Group) → g.rows ≡ k.rows → counts (before ++ (g ∷ behind)) ≡ counts (before ++ (k ∷ behind))
counts_same [] behind g k e = ap (λ (n : ℕ). n ∷ counts behind) e
counts_same (h ∷ before) behind g k e = ap (λ (l : List ℕ). h.rows ∷ l) (counts_same before behind g k e)

pub damage : (before behind : List Group) (g : Group) (b : List ℕ) → length b ≡ length g.bytes
    → groups (joined_groups (before ++ (record { bytes = b; rows = g.rows } ∷ behind))) (starts_from 0 (before ++ (g ∷ behind)))
    (counts (before ++ (g ∷ behind)))
    ≡ before ++ (record { bytes = b; rows = g.rows } ∷ behind)
damage before behind g b e =
    let k : Group = record { bytes = b; rows = g.rows } in
    rw (← (starts-same 0 before behind k g e), ← (counts_same before behind k g refl)) (back (before ++ (k ∷ behind)))

-- the bytes from a start on are made up of the groups from it on
make-from : (bs : List ℕ) (s : ℕ) (ss ns : List ℕ) → T (rising (length bs) s ss) → suc (length ss) ≡ length ns
    → (joined_groups (groups bs (s ∷ ss) ns) ≡ drop s bs) × (counts (groups bs (s ∷ ss) ns) ≡ ns)
unfolding rising joined_groups
make-from bs s ss [] r e = absurd (omega arith)
make-from bs s [] (n ∷ ns) r e = rw (groups-last bs s n ns) (append-nil (drop s bs), ap (λ (l : List ℕ). n ∷ l) (none ns (omega arith)))
  where
    none : (ns : List ℕ) → length ns ≡ 0 → [] ≡ ns
    none [] e = refl
    none (n ∷ ns) e = absurd (omega arith)
make-from bs s (t ∷ ss) (n ∷ ns) r e =
    let c = and-e (ltb s t) (rising (length bs) t ss) r in
    let ih = make-from bs t ss ns c.1 (omega arith) in
    let l : t ≡ s + (t - s) = omega (arith, ltb→lt s t c.0) in
    let d : drop t bs ≡ drop (t - s) (drop s bs) = ap (λ (m : ℕ). drop m bs) l ∙ sym (drop-drop (t - s) s bs) in
    rw (groups-cons bs s t n ss ns)
    (ap (λ (x : List ℕ). take (t - s) (drop s bs) ++ x) (ih.0 ∙ d) ∙ take-append-drop (t - s) (drop s bs), ap (λ (x : List ℕ). n ∷ x) ih.1)

pub make-up : (bs starts ns : List ℕ) → RightStarts bs starts ns → (joined_groups (groups bs starts ns) ≡ bs) × (counts (groups bs starts ns) ≡ ns)
unfolding starts_right joined_groups
make-up [] [] [] r = rw (groups_none [] []) (refl, refl)
make-up (b ∷ bs) [] [] r = absurd (omega (arith, eqb→eq (suc (length bs)) 0 r.right))
make-up bs [] (n ∷ ns) r = absurd (omega (arith, r.lengths))
make-up bs (s ∷ ss) ns r =
    let c = and-e (eqb s 0) (rising (length bs) s ss) r.right in
    let m = make-from bs s ss ns c.1 r.lengths in
    (m.0 ∙ ap (λ (n : ℕ). drop n bs) (eqb→eq s 0 c.0), m.1)

pub of-bytes : (bs starts ns : List ℕ) → AllBelow 256 bs → AllBytes (groups bs starts ns)
unfolding groups
of-bytes bs [] ns h = tt
of-bytes bs (s ∷ ss) [] h = tt
of-bytes bs (s ∷ []) (n ∷ ns) h = (below-drop 256 s bs h, tt)
of-bytes bs (s ∷ t ∷ ss) (n ∷ ns) h = (below-take 256 (t - s) (drop s bs) (below-drop 256 s bs h), of-bytes bs (t ∷ ss) ns h)
