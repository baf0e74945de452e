-- The laws of one run: nothing but a valid layout parses (`parse-sound`), and no two runs have the same bytes. Assumes nothing.
use Rattle.format.proofs.Common.{◌≡◌, refl, sym, ap, ◌∙◌, ℕ, ◌≤◌, arith, List, [], ◌∷◌, ◌++◌, append_assoc, append-nil, cons≢nil}
use Rattle.format.proofs.Common.{length, ◌≢◌}
use Rattle.format.specs.Digits.{AllBelow}
use Rattle.format.specs.Fields.{width, block_bytes}
use Rattle.format.specs.Runs.{Description, short, direct, fixed, delta, patched, Valid, layout, entry_width}
use Rattle.format.specs.Parse.{Reason, Parsed, end, got, refused, parse}
use Rattle.format.proofs.Fields
use Rattle.format.proofs.Posts
use Rattle.format.proofs.Below
use Rattle.format.proofs.RunComplete.{parse-complete}
use Rattle.format.proofs.RunSound.{Sound, append-empty, parse-post}

-- ---- THE LAWS OF ONE RUN

pub parse-empty : parse [] ≡ end
unfolding parse
parse-empty = refl

-- Each outcome for a list of bytes: "end" for the empty list only, a valid description whose layout stands in front, or a refusal.
pub data Outcome (bs : List ℕ) : Parsed Description → Type 0 where
  nothing : bs ≡ [] → Outcome bs end
  run : {d : Description} {rest : List ℕ} → Posts.Took bs layout Valid d rest → Outcome bs (got d rest)
  refusal : {r : Reason} → bs ≢ [] → Outcome bs (refused r)

pub outcome : (bs : List ℕ) → AllBelow 256 bs → Outcome bs (parse bs)
unfolding parse
outcome [] h = nothing refl
outcome (a ∷ bs) h = go (parse-post a bs h)
  where
    go : {m : Parsed Description} → Sound (a ∷ bs) m → Outcome (a ∷ bs) m
    go (Posts.at-got t) = run t
    go Posts.at-refused = refusal cons≢nil

of-run : {bs : List ℕ} {d : Description} {rest : List ℕ} → Outcome bs (got d rest) → Posts.Took bs layout Valid d rest
of-run (run t) = t

pub parse-sound : (bs : List ℕ) (d : Description) (rest : List ℕ) → AllBelow 256 bs → parse bs ≡ got d rest → Posts.Took bs layout Valid d rest
parse-sound bs d rest h e = of-run (rw e at (outcome bs h))

-- one reading only: of two valid descriptions whose layouts begin the same bytes, the rest is the same too
pub got-inj : {A : Type 0} {a b : A} {s t : List ℕ} → got a s ≡ got b t → (a ≡ b) × (s ≡ t)
got-inj e = (cc, cc)

pub layout-unique : (d d' : Description) (s s' : List ℕ) → Valid d → Valid d' → layout d ++ s ≡ layout d' ++ s' → (d ≡ d') × (s ≡ s')
layout-unique d d' s s' v v' e = got-inj (sym (parse-complete d s v) ∙ ap parse e ∙ parse-complete d' s' v')

-- layouts are bytes, one at least
pub layout-below : (d : Description) → Valid d → AllBelow 256 (layout d)
unfolding layout
layout-below (short count value) v = (omega (arith, v), v.bytes)
layout-below (direct code k) v = (omega (arith, v.head), (omega arith, Fields.block-below (width code) (length k.values) k v.block))
layout-below (fixed rows first base) v = (
  omega (arith, v.head),
  (
    omega arith,
    Below.below-append 256 first base (Fields.varint-below 10 first v.first-varint) (Fields.varint-below 10 base v.base-varint),
  ),
)
layout-below (delta code first base k) v = (
  omega (arith, v.head),
  (
    omega arith,
    Below.below-append 256 first _ (Fields.varint-below 10 first v.first-varint)
        (Below.below-append 256 base _ (Fields.varint-below 10 base v.base-varint) (Fields.block-below (width code) (length k.values) k v.block)),
  ),
)
layout-below (patched code base pc gw k l) v = (
  omega (arith, v.head),
  (
    omega arith,
    (
      omega (arith, v),
      (
        omega (arith, v),
        Below.below-append 256 base _ v.bytes
            (Below.below-append 256 (block_bytes (width code) (length k.values) k) (block_bytes (entry_width pc gw) (length l.values) l)
            (Fields.block-below (width code) (length k.values) k v.block)
            (Fields.block-below (entry_width pc gw) (length l.values) l v.list)),
      ),
    ),
  ),
)

pub layout-pos : (d : Description) → 1 ≤ length (layout d)
unfolding layout
layout-pos (short count value) = omega arith
layout-pos (direct code k) = omega arith
layout-pos (fixed rows first base) = omega arith
layout-pos (delta code first base k) = omega arith
layout-pos (patched code base pc gw k l) = omega arith

-- A run that is cut is not taken for a shorter good one: a proper part of a layout, from its start and not empty, is refused.
pub cut-refused : (d : Description) (p q : List ℕ) → Valid d → layout d ≡ p ++ q → p ≢ [] → q ≢ [] → (r : Reason) × (parse p ≡ refused r)
cut-refused d p q v e pe qe = go (parse p) refl (outcome p below)
  where
    below : AllBelow 256 p
    below = Below.append-below 256 p q (rw e at (layout-below d v))

    go : (m : Parsed Description) → parse p ≡ m → Outcome p m → (r : Reason) × (parse p ≡ refused r)
    go m g (nothing z) = absurd (pe z)
    go m g (run {d = d'} {rest = rest} t) =
        let same : layout d ++ [] ≡ layout d' ++ (rest ++ q) =
        append-nil (layout d) ∙ e ∙ ap (λ (x : List ℕ). x ++ q) t.split ∙ append_assoc (layout d') rest q in
        absurd (qe (append-empty rest q (sym (layout-unique d d' [] (rest ++ q) v t.ok same).1)))
    go m g (refusal {r} _) = (r, g)
