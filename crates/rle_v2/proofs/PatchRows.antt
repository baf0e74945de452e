-- The walk over a patch list patches exactly the rows that the definition names. Assumes nothing.
use mathlib.Core.Path.{◌≡◌, refl, sym, ap, ◌∙◌}
use Prim.Native.Nat.{ℕ, zero, suc, ◌+◌, ◌-◌, ◌*◌, ◌/◌, ◌%◌, ◌^◌, ◌<◌, ◌≤◌}
use native.Mathlib.Omega.{arith}
use native.Mathlib.Decide.{dec_lt, ℕ_discrete}
use mathlib.Core.Bool.{Bool, true, false, ◌&&◌, ◌||◌}
use mathlib.Core.List.{List, [], ◌∷◌, ◌++◌, map}
use lib.ListN.{length, get_or, set, length-set, length-map, length-append, get_or-map, get_or-append}
use lib.Seq.{get_or-set_same, get_or-set_other, get_or-append-add, ext_get_or}
use lib.IntN.{ℤ, pos}
use lib.Pow.{pow_pos, pow_mono}
use native.Mathlib.Nat.{mod-lt, mod-eq_of_lt, mod-add-mod, zero-mul, add-zero, add_assoc, suc-add, add-suc, pow-zero, div-one, div-lt_iff_lt-mul}
use lib.Dec.{leb, eqb}
use borrow.Author.Tests.{eq-eqb, ne_eqb, leb-false}
use Rattle.format.specs.Fields.{pick, two64}
use Rattle.format.specs.Rows as Rows
use Rattle.format.specs.Rows.{plus, as_i64}
use Rattle.format.proofs.Patterns.{as-back}
use Rattle.format.proofs.Rows.{length-patched_rows}
use Rattle.format.specs.Runs.{Patch, is_skip, gap_of, patch_of, patches_from, patches, last_is_skip, taken, shared, outside, out_of_place}
use Rattle.format.proofs.Tests.{never, neither}
use Rattle.rle_v2.specs.PatchList.{IsEntry, patched_row, patch_all}

-- ---- the rows

-- a patch of no bits changes nothing
plus_none : (w r : ℕ) → r < two64 → plus r (0 * 2 ^ w) ≡ r
plus_none w r h = rw (zero-mul, add-zero, mod-eq_of_lt h)

not_taken : (p : ℕ) (qs : List Patch) → taken p qs ≡ false → Rows.patch_at p qs ≡ 0
unfolding taken Rows.patch_at
not_taken p [] h = refl
not_taken p (q ∷ qs) h = go (eqb p q.place) h (not_taken p qs)
  where
    go : (t : Bool) → (t || taken p qs) ≡ false → (taken p qs ≡ false → Rows.patch_at p qs ≡ 0) → pick t q.patch (Rows.patch_at p qs) ≡ 0
    go true z ih = never (cc)
    go false z ih = ih z

-- a place inside: the patch that names it, once
pub patch-at : (w pw before p r : ℕ) (es : List ℕ) (out : List ℤ) → r < two64 → p < length out → get_or out p (pos 0) ≡ as_i64 r
    → shared (patches_from pw before es) ≡ false
    → get_or (patch_all w pw before out es) p (pos 0) ≡ as_i64 (plus r (Rows.patch_at p (patches_from pw before es) * 2 ^ w))
unfolding patch_all patches_from shared Rows.patch_at
patch-at w pw before p r [] out hr hp e s = e ∙ ap as_i64 (sym (plus_none w r hr))
patch-at w pw before p r (x ∷ es) out hr hp e s = go (is_skip pw x) s (λ y o. patch-at w pw (before + gap_of pw x) p y es o)
  where
    b : ℕ
    b = before + gap_of pw x

    qs : List Patch
    qs = patches_from pw b es

    named : ℤ
    named = patched_row w (patch_of pw x) (get_or out b (pos 0))

    Later : Type 0
    Later =
        (y : ℕ) (o : List ℤ) → y < two64 → p < length o → get_or o p (pos 0) ≡ as_i64 y → shared qs ≡ false
        → get_or (patch_all w pw b o es) p (pos 0) ≡ as_i64 (plus y (Rows.patch_at p qs * 2 ^ w))

    by : Dec (p ≡ b) → taken b qs ≡ false → shared qs ≡ false → Later
        → get_or (patch_all w pw b (set out b named) es) p (pos 0) ≡ as_i64 (plus r (pick (eqb p b) (patch_of pw x) (Rows.patch_at p qs) * 2 ^ w))
    by (yes i) t s' ih =
        let y : ℕ = plus r (patch_of pw x * 2 ^ w) in
        let l : y < two64 = mod-lt _ (pow_pos 64) in
        let v : get_or (set out b named) p (pos 0) ≡ as_i64 y
        = rw (← i) (get_or-set_same out p _ (pos 0) hp ∙ ap (λ (z : ℤ). patched_row w (patch_of pw x) z) e ∙ rw (as-back r hr)) in
        let z : Rows.patch_at p qs ≡ 0 = rw i (not_taken b qs t) in
        rw (eq-eqb p b i) (ih y (set out b named) l (rw length-set hp) v s' ∙ rw z (ap as_i64 (plus_none w y l)))
    by (no i) t s' ih =
        rw (ne_eqb p b i) (ih r (set out b named) hr (rw length-set hp) (get_or-set_other out b p named (pos 0) i ∙ e) s')

    go : (t : Bool) → shared (pick t qs (record { place = b; patch = patch_of pw x } ∷ qs)) ≡ false → Later
        → get_or (patch_all w pw b (pick t out (set out b named)) es) p (pos 0)
        ≡ as_i64 (plus r (Rows.patch_at p (pick t qs (record { place = b; patch = patch_of pw x } ∷ qs)) * 2 ^ w))
    go true s' ih = ih r out hr hp e s'
    go false s' ih =
        let q = neither (taken b qs) (shared qs) s' in
        by (ℕ_discrete p b) q.0 q.1 ih

-- no place comes or goes, and those from `rows` on keep their content
pub length-patched : (w pw before : ℕ) (es : List ℕ) (out : List ℤ) → length (patch_all w pw before out es) ≡ length out
unfolding patch_all
length-patched w pw before [] out = refl
length-patched w pw before (x ∷ es) out = length-patched w pw (before + gap_of pw x) es _ ∙ go (is_skip pw x)
  where
    go : (t : Bool) → length (pick t out (set out (before + gap_of pw x) (patched_row w (patch_of pw x) (get_or out (before + gap_of pw x) (pos 0))))) ≡ length out
    go true = refl
    go false = length-set out (before + gap_of pw x) _

patch-past : (w pw before rows p : ℕ) (es : List ℕ) (out : List ℤ) → rows ≤ p → outside rows (patches_from pw before es) ≡ false
    → get_or (patch_all w pw before out es) p (pos 0) ≡ get_or out p (pos 0)
unfolding patch_all patches_from outside
patch-past w pw before rows p [] out h o = refl
patch-past w pw before rows p (x ∷ es) out h o = go (is_skip pw x) o (λ l. patch-past w pw (before + gap_of pw x) rows p es l h)
  where
    b : ℕ
    b = before + gap_of pw x

    qs : List Patch
    qs = patches_from pw b es

    named : ℤ
    named = patched_row w (patch_of pw x) (get_or out b (pos 0))

    go : (t : Bool) → outside rows (pick t qs (record { place = b; patch = patch_of pw x } ∷ qs)) ≡ false
        → ((l : List ℤ) → outside rows qs ≡ false → get_or (patch_all w pw b l es) p (pos 0) ≡ get_or l p (pos 0))
        → get_or (patch_all w pw b (pick t out (set out b named)) es) p (pos 0) ≡ get_or out p (pos 0)
    go true o' ih = ih out o'
    go false o' ih =
        let q = neither (leb rows b) (outside rows qs) o' in
        ih (set out b named) q.1 ∙ get_or-set_other out b p named (pos 0) (λ e. omega (arith, leb-false rows b q.0, h, e))

get_d_rows : (base w : ℕ) (ps : List Patch) (p i : ℕ) (vs : List ℕ) → i < length vs
    → get_or (Rows.patched_rows base w ps p vs) i 0 ≡ plus base (get_or vs i 0 + Rows.patch_at (p + i) ps * 2 ^ w)
unfolding Rows.patched_rows
get_d_rows base w ps p i [] h = absurd (omega arith)
get_d_rows base w ps p zero (v ∷ vs) h = rw (add-zero p)
get_d_rows base w ps p (suc i) (v ∷ vs) h = get_d_rows base w ps (suc p) i vs (omega arith) ∙ rw (suc-add p i, ← (add-suc p i))

getD-i64 : (l : List ℕ) (i : ℕ) → get_or (map as_i64 l) i (pos 0) ≡ as_i64 (get_or l i 0)
unfolding as_i64
getD-i64 l i = get_or-map as_i64 l i 0

module _ (w pw base : ℕ) (vs es : List ℕ) (t : List ℤ) (h : out_of_place pw (length vs) es ≡ false) where
  before-rows : List ℕ
  before-rows = Rows.patched_rows base w [] 0 vs

  after-rows : List ℕ
  after-rows = Rows.patched_rows base w (patches pw es) 0 vs

  parts : (shared (patches pw es) ≡ false) × (outside (length vs) (patches pw es) ≡ false)
  unfolding out_of_place
  parts = neither (shared (patches pw es)) (outside (length vs) (patches pw es)) (neither (last_is_skip pw es) _ h).1

  length-rows : (ps : List Patch) → length (map as_i64 (Rows.patched_rows base w ps 0 vs)) ≡ length vs
  length-rows ps = length-map (Rows.patched_rows base w ps 0 vs) as_i64 ∙ length-patched_rows base w ps 0 vs

  start : List ℤ
  start = map as_i64 before-rows ++ t

  inside : (i : ℕ) → i < length vs → get_or (patch_all w pw 0 start es) i (pos 0) ≡ get_or (map as_i64 after-rows ++ t) i (pos 0)
  unfolding before-rows after-rows start patches Rows.patch_at
  inside i l =
      let r : ℕ = plus base (get_or vs i 0 + 0 * 2 ^ w) in
      let e : get_or start i (pos 0) ≡ as_i64 r
      = get_or-append (map as_i64 before-rows) t (pos 0) i (rw (length-rows []) l) ∙ getD-i64 before-rows i ∙ ap as_i64 (get_d_rows base w [] 0 i vs l) in
      let f : get_or (map as_i64 after-rows ++ t) i (pos 0) ≡ as_i64 (plus base (get_or vs i 0 + Rows.patch_at (0 + i) (patches pw es) * 2 ^ w))
      = get_or-append (map as_i64 after-rows) t (pos 0) i (rw (length-rows (patches pw es)) l) ∙ getD-i64 after-rows i ∙ ap as_i64 (get_d_rows base w (patches pw es) 0 i vs l) in
      let z : 0 + i ≡ i = omega arith in
      patch-at w pw 0 i r es start (mod-lt _ (pow_pos 64)) (rw (length-append, length-rows []) (omega arith)) e parts.0
      ∙ ap as_i64 (rw (zero-mul, add-zero, mod-add-mod, add_assoc, z)) ∙ sym f

  pub patched-is : patch_all w pw 0 (map as_i64 (Rows.patched_rows base w [] 0 vs) ++ t) es ≡ map as_i64 (Rows.patched_rows base w (patches pw es) 0 vs) ++ t
  unfolding before-rows after-rows start patches
  patched-is =
      ext_get_or (pos 0) _ _ (length-patched w pw 0 es start ∙ rw (length-append, length-append, length-rows [], length-rows (patches pw es)))
      (λ i l. by i (dec_lt i (length vs)))
    where
      by : (i : ℕ) → Dec (i < length vs) → get_or (patch_all w pw 0 start es) i (pos 0) ≡ get_or (map as_i64 after-rows ++ t) i (pos 0)
      by i (yes l) = inside i l
      by i (no l) =
          let n : length vs ≤ i = omega arith in
          let e : i ≡ length (map as_i64 before-rows) + (i - length vs) = rw (length-rows []) (omega arith) in
          let f : i ≡ length (map as_i64 after-rows) + (i - length vs) = rw (length-rows (patches pw es)) (omega arith) in
          patch-past w pw 0 (length vs) i es start n parts.1
          ∙ ap (λ (k : ℕ). get_or start k (pos 0)) e
          ∙ get_or-append-add (map as_i64 before-rows) t (i - length vs) (pos 0)
          ∙ sym (get_or-append-add (map as_i64 after-rows) t (i - length vs) (pos 0))
          ∙ ap (λ (k : ℕ). get_or (map as_i64 after-rows ++ t) k (pos 0)) (sym f)

-- ---- an entry taken apart, as the reader does it

pub entry-is : (pw e f g : ℕ) (skip : Bool) → f ≡ e → g ≡ f / 2 ^ 0 % 2 ^ pw → 0 < pw → f < 2 ^ 64 → skip ≡ (eqb (f / 2 ^ pw) 255 && eqb g 0)
    → IsEntry pw e (f / 2 ^ pw) g skip
entry-is pw e f g skip ef eg hp hf es =
    let d : f / 2 ^ 0 ≡ f = rw pow-zero (div-one f) in
    let p : g ≡ f % 2 ^ pw = rw d at eg in
    record {
      gap_is = rw ef;
      patch-is = rw ef at p;
      skip_is = rw (ef, rw ef at p) at es;
      gap-lt = (div-lt_iff_lt-mul (pow_pos pw)).1 (omega (arith, hf, pow_mono {i = 1} {j = pw} hp));
    }
