-- More input: what was read stays read, and a refusal stays a refusal unless it is one for input that ended too soon (in a header: 1, or in a field).
-- So a run that is cut is refused with one of these. (The reader in parts rests on this law.) Assumes nothing.
use Rattle.format.proofs.Common.{◌≡◌, refl, sym, ap, ◌∙◌, ◌≢◌, ℕ, zero, suc, ◌+◌, ◌-◌, ◌*◌, ◌/◌, ◌%◌, ◌≤◌, arith, Bool, true, false}
use Rattle.format.proofs.Common.{not, List, [], ◌∷◌, ◌++◌, append-nil, length, take, drop, length-append, take-append-le}
use Rattle.format.proofs.Common.{drop-append-le, T, T_not, leb, ltb, eqb, leb→le, le-leb}
use Rattle.format.specs.Fields.{pick, width, bytes_for, last_below}
use Rattle.format.specs.Runs.{Description, Valid, layout, patches, too_large, out_of_place, entry_width}
use Rattle.format.specs.Parse
use Rattle.format.specs.Parse.{Reason, cut_in, unfinished, Parsed, got, refused, then, unless, bytes, block, varint, code_of, rows_less}
use Rattle.format.specs.Parse.{parse}
use Rattle.format.proofs.Runs.{parse-empty, cut-refused}
use Rattle.format.proofs.RunComplete.{parse-complete}
use Rattle.format.proofs.Tests.{never}

-- what reading gives with the bytes q behind the input, by what it gave without them
pub data Extends {A : Type 0} (q : List ℕ) : Parsed A → Parsed A → Type 0 where
  ext-got : {a : A} {s : List ℕ} → Extends q (got a s) (got a (s ++ q))
  ext-refused : {n : Reason} → Extends q (refused n) (refused n)
  ext_cut : {n : Reason} {m : Parsed A} → T (unfinished n) → Extends q (refused n) m

of_cut : {A : Type 0} {q : List ℕ} {n : Reason} {a : A} {s : List ℕ} → Extends q (refused n) (got a s) → T (unfinished n)
of_cut (ext_cut c) = c

then-ext : {A B : Type 0} {q : List ℕ} {m m' : Parsed A} {f : A → List ℕ → Parsed B}
    → Extends q m m' → ((a : A) (s : List ℕ) → Extends q (f a s) (f a (s ++ q))) → Extends q (then m f) (then m' f)
then-ext (ext-got {a} {s}) h = h a s
then-ext ext-refused h = ext-refused
then-ext (ext_cut c) h = ext_cut c

unless-ext : {A : Type 0} {q : List ℕ} {m m' : Parsed A} (b : Bool) (n : ℕ) → Extends q m m' → Extends q (unless b n m) (unless b n m')
unless-ext true n h = ext-refused
unless-ext false n h = h

pick-ext : {A : Type 0} {q : List ℕ} {m m' l l' : Parsed A} (t : Bool) → Extends q m m' → Extends q l l' → Extends q (pick t m l) (pick t m' l')
pick-ext true h k = h
pick-ext false h k = k

module _ (q : List ℕ) (c : ℕ) where
  bytes-ext : (n : ℕ) (bs : List ℕ) → Extends q (bytes c n bs) (bytes c n (bs ++ q))
  unfolding bytes
  bytes-ext n bs = go (leb n (length bs)) refl
    where
      go : (t : Bool) → leb n (length bs) ≡ t
          → Extends q (pick t (got (take n bs) (drop n bs)) (refused (cut_in c bs))) (bytes c n (bs ++ q))
      go true e =
          let l : n ≤ length bs = leb→le n (length bs) (rw e tt) in
          rw (le-leb n (length (bs ++ q)) (omega (arith, length-append bs q)), take-append-le n bs q l, drop-append-le n bs q l) ext-got
      go false e = ext_cut tt

  block-ext : (w n : ℕ) (bs : List ℕ) → Extends q (block c w n bs) (block c w n (bs ++ q))
  unfolding block
  block-ext w n bs = then-ext (bytes-ext (bytes_for (n * w)) bs) λ v s. ext-got

module _ (q : List ℕ) (r r' : Reason) (c : T (unfinished r)) where
  varint-ext : (k : ℕ) (bs : List ℕ) → Extends q (varint r k bs) (varint r' k (bs ++ q))
  unfolding varint
  varint-ext zero bs = ext-refused
  varint-ext (suc k) [] = ext_cut c
  varint-ext (suc k) (b ∷ bs) = pick-ext (ltb b 128) (unless-ext (leb (last_below k) b) 5 ext-got) (then-ext (varint-ext k bs) λ v s. ext-got)

module _ (q : List ℕ) where
  delta-ext : (a : ℕ) (bs : List ℕ) → Extends q (Parse.delta_run a bs) (Parse.delta_run a (bs ++ q))
  unfolding Parse.delta_run Parse.fixed_body Parse.delta_body
  delta-ext a [] = ext_cut tt
  delta-ext a (b ∷ bs) =
      pick-ext (eqb (code_of a) 0)
      (then-ext (varint-ext q _ _ tt 10 bs) λ first s. then-ext (varint-ext q _ _ tt 10 s) λ base rest. ext-got)
      (unless-ext (eqb (rows_less a b) 0) 4
      (then-ext (varint-ext q _ _ tt 10 bs) λ first s. then-ext (varint-ext q _ _ tt 10 s) λ base t.
      then-ext (block-ext q _ (width (code_of a)) (rows_less a b - 1) t) λ k rest. ext-got))

  patched-ext : (a : ℕ) (bs : List ℕ) → Extends q (Parse.patched_run a bs) (Parse.patched_run a (bs ++ q))
  unfolding Parse.patched_run Parse.patched_body
  patched-ext a [] = ext_cut tt
  patched-ext a (b ∷ []) = ext_cut tt
  patched-ext a (b ∷ c ∷ []) = ext_cut tt
  patched-ext a (b ∷ c ∷ e ∷ bs) =
      unless-ext (ltb 64 (width (c % 32) + (e / 32 + 1))) 2
      (then-ext (bytes-ext q _ (c / 32 + 1) bs) λ base s.
      then-ext (block-ext q _ (width (code_of a)) (rows_less a b + 1) s) λ k t.
      then-ext (block-ext q _ (entry_width (c % 32) (e / 32 + 1)) (e % 32) t) λ l rest.
      unless-ext (too_large (width (code_of a)) (patches (width (c % 32)) l.values)) 3
      (unless-ext (out_of_place (width (c % 32)) (rows_less a b + 1) l.values) 7 ext-got))

  direct-ext : (a : ℕ) (bs : List ℕ) → Extends q (Parse.direct_run a bs) (Parse.direct_run a (bs ++ q))
  unfolding Parse.direct_run
  direct-ext a [] = ext_cut tt
  direct-ext a (b ∷ bs) = then-ext (block-ext q _ (width (code_of a)) (rows_less a b + 1) bs) λ k rest. ext-got

  pub parse-ext : (a : ℕ) (bs : List ℕ) → Extends q (parse (a ∷ bs)) (parse (a ∷ bs ++ q))
  unfolding parse Parse.by_kind Parse.short_run
  parse-ext a bs = go (a / 64)
    where
      go : (k : ℕ) → Extends q (Parse.by_kind k a bs) (Parse.by_kind k a (bs ++ q))
      go zero = then-ext (bytes-ext q _ (a / 8 + 1) bs) λ v rest. ext-got
      go (suc zero) = direct-ext a bs
      go (suc (suc zero)) = patched-ext a bs
      go (suc (suc (suc k))) = delta-ext a bs

-- so a refusal for another reason stays, whatever follows
pub refused-stays : (bs q : List ℕ) (r : Reason) → parse bs ≡ refused r → T (not (unfinished r)) → parse (bs ++ q) ≡ refused r
refused-stays [] q r e h = never (cc parse-empty)
refused-stays (a ∷ bs) q r e h = go (rw e at (parse-ext q a bs))
  where
    go : {m : Parsed Description} → Extends q (refused r) m → m ≡ refused r
    go ext-refused = refl
    go (ext_cut c) = absurd (T_not (unfinished r) h c)

-- (d) in full: a proper part of a layout, from its start and not empty, is refused as one that is cut
pub cut-number : (d : Description) (p q : List ℕ) → Valid d → layout d ≡ p ++ q → p ≢ [] → q ≢ [] → (n : Reason) × (parse p ≡ refused n) × T (unfinished n)
cut-number d [] q v e pe qe = absurd (pe refl)
cut-number d (a ∷ p) q v e pe qe =
    let (n, r) = cut-refused d (a ∷ p) q v e pe qe in
    let g : parse (a ∷ p ++ q) ≡ got d [] = ap parse (sym e ∙ sym (append-nil (layout d))) ∙ parse-complete d [] v in
    (n, r, of_cut (rw (r, g) at (parse-ext q a p)))
