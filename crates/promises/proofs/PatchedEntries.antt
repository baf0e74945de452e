-- Entries: those of some patches have those patches, and no list that has them is shorter; the shortest is one. Assumes nothing.
use Rattle.format.proofs.Common.{◌≡◌, refl, sym, ap, ap₂, ◌∙◌, ◌⊎◌, inl, inr, ℕ, zero, suc, ◌+◌, ◌-◌, ◌*◌, ◌/◌, ◌^◌, ◌<◌, ◌≤◌, add-zero}
use Rattle.format.proofs.Common.{arith, Bool, true, false, not, and-false, List, [], ◌∷◌, ◌++◌, map, length, replicate, length-append}
use Rattle.format.proofs.Common.{length-replicate, T, leb, eqb, eqb→eq, pow_pos, high, low, split, ne_eqb, eqb-false}
use lib.Arith.{lt→nleb}
use Rattle.format.specs.Digits.{AllBelow}
use Rattle.format.specs.Fields.{pick}
use Rattle.format.specs.Runs.{Patch, patch_of, gap_of, is_skip, patches_from, last_is_skip, too_large}
use Rattle.format.proofs.RunComplete.{limit_is}
use Rattle.format.specs.PatchedWriting.{patches_above, Entry, skip, skips_in, entries_from, field}
use Rattle.promises.specs.Patched.{OnlySkips}
use Rattle.format.proofs.Again.{below-mono}
use Rattle.format.proofs.PatchedWriting.{gaps-255, skip-next}
use Rattle.format.proofs.Tests.{and_left, and_right, or-not}
use Rattle.promises.proofs.PatchedPlaces.{Rising, rising-from, kept}

-- ---- NO LIST IS SHORTER: of those that have these patches, each gap at most 255

no-entries : (before : ℕ) → length (entries_from before []) ≡ 0
unfolding entries_from
no-entries before = refl

length-entries : (before : ℕ) (q : Patch) (qs : List Patch)
    → length (entries_from before (q ∷ qs)) ≡ skips_in (q.place - before) + suc (length (entries_from q.place qs))
unfolding entries_from
length-entries before q qs = simp (length-append, length-replicate)

-- one entry brings the list at most one entry nearer
later : (before a : ℕ) (qs : List Patch) → a < 256 → length (entries_from before qs) ≤ suc (length (entries_from (before + a) qs))
unfolding entries_from
later before a [] h = omega arith
later before a (q ∷ qs) h = simp (length-append, length-replicate) (omega arith)

pub fewest : (pw before : ℕ) (es : List ℕ) → AllBelow 256 (map (gap_of pw) es) → length (entries_from before (kept (patches_from pw before es))) ≤ length es
unfolding patches_from kept entries_from
fewest pw before [] g = omega arith
fewest pw before (e ∷ es) g = by (is_skip pw e) (patches_from pw (before + gap_of pw e) es) (fewest pw (before + gap_of pw e) es g.1)
  where
    keep : (u : Bool) (qs : List Patch) → length (entries_from (before + gap_of pw e) qs) ≤ length es
        → length (entries_from before (pick u qs (record { place = before + gap_of pw e; patch = patch_of pw e } ∷ qs))) ≤ suc (length es)
    keep true qs h = omega (arith, later before (gap_of pw e) qs g.0)
    keep false qs h = simp (length-append, length-replicate) (omega (arith, g.0))

    by : (t : Bool) (qs : List Patch) → length (entries_from (before + gap_of pw e) (kept qs)) ≤ length es
        → length (entries_from before (kept (pick t qs (record { place = before + gap_of pw e; patch = patch_of pw e } ∷ qs)))) ≤ suc (length es)
    by true qs h = keep true (kept qs) h
    by false qs h = keep (eqb (patch_of pw e) 0) (kept qs) h

-- a lesser gap width does not hold them
pub least-gaps : (gw pw before : ℕ) (es : List ℕ) → OnlySkips pw es → AllBelow 256 (map (gap_of pw) es) → AllBelow (2 ^ gw) (map (gap_of pw) es)
    → AllBelow (2 ^ gw) (map (λ e. e.gap) (entries_from before (kept (patches_from pw before es))))
unfolding patches_from kept entries_from
least-gaps gw pw before [] o h g = tt
least-gaps gw pw before (e ∷ es) o h g =
    by (is_skip pw e) refl o.0 (patches_from pw (before + gap_of pw e) es) (least-gaps gw pw (before + gap_of pw e) es o.1 h.1 g.1)
  where
    by : (t : Bool) → is_skip pw e ≡ t → T (is_skip pw e) ⊎ (1 ≤ patch_of pw e) → (qs : List Patch)
        → AllBelow (2 ^ gw) (map (λ e. e.gap) (entries_from (before + gap_of pw e) (kept qs)))
        → AllBelow (2 ^ gw) (map (λ e. e.gap) (entries_from before (kept (pick t qs (record { place = before + gap_of pw e; patch = patch_of pw e } ∷ qs)))))
    by true k c qs ih =
        let s : gap_of pw e ≡ 255 = eqb→eq (gap_of pw e) 255 (and_left (eqb (gap_of pw e) 255) (eqb (patch_of pw e) 0) (rw k tt)) in
        below-mono 256 (2 ^ gw) (omega (arith, g.0)) (map (λ e. e.gap) (entries_from before (kept qs))) (gaps-255 before (kept qs))
    by false k (inl c) qs ih = absurd (rw k at c)
    by false k (inr c) qs ih =
        let s : skips_in (before + gap_of pw e - before) ≡ 0 = omega (arith, h.0) in
        rw (ne_eqb (patch_of pw e) 0 (λ z. omega arith), s) (omega (arith, g.0), ih)

-- ---- THEY HAVE THESE PATCHES

abbrev pub AllSome : List Patch → Type 0
AllSome [] = Unit {0}
AllSome (q ∷ qs) = (1 ≤ q.patch) × AllSome qs

module _ (pw : ℕ) where
  is-skip : is_skip pw (field pw skip) ≡ true
  is-skip = rw (high 255 pw (pow_pos pw), low 255 pw (pow_pos pw))

  no-skip : (gap patch : ℕ) → 1 ≤ patch → patch < 2 ^ pw → is_skip pw (gap * 2 ^ pw + patch) ≡ false
  no-skip gap patch h l = rw (low gap pw l, ne_eqb patch 0 (λ e. omega arith)) (and-false (eqb (gap_of pw (gap * 2 ^ pw + patch)) 255))

  skips-read : (before n : ℕ) (es : List Entry)
      → patches_from pw before (map (field pw) (replicate n skip ++ es)) ≡ patches_from pw (before + 255 * n) (map (field pw) es)
  unfolding patches_from
  skips-read before zero es = rw (add-zero before)
  skips-read before (suc n) es =
      let e : before + 255 + 255 * n ≡ before + 255 * suc n = omega arith in
      rw (is-skip, high 255 pw (pow_pos pw)) (skips-read (before + 255) n es ∙ rw e)

  pub entries-read : (before end : ℕ) (qs : List Patch) → Rising before end qs → AllSome qs → AllBelow (2 ^ pw) (map (λ q. q.patch) qs)
      → patches_from pw before (map (field pw) (entries_from before qs)) ≡ qs
  unfolding patches_from entries_from
  entries-read before end [] r s b = refl
  entries-read before end (q ∷ qs) r s b =
      let n : ℕ = skips_in (q.place - before) in
      let gap : ℕ = q.place - before - 255 * n in
      let e : before + 255 * n + gap ≡ q.place = omega (arith, r.0) in
      skips-read before n (record { gap = gap; patch = q.patch } ∷ entries_from q.place qs)
      ∙ rw (no-skip gap q.patch s.0 b.0, high gap pw b.0, low gap pw b.0, e)
      (ap (λ (t : List Patch). q ∷ t) (entries-read q.place end qs (rising-from (suc q.place) q.place end qs (omega arith) r.2) s.1 b.1))

  last-behind : (s : List Entry) (e : Entry) (es : List Entry) → last_is_skip pw (map (field pw) (s ++ (e ∷ es))) ≡ last_is_skip pw (map (field pw) (e ∷ es))
  unfolding last_is_skip
  last-behind [] e es = refl
  last-behind (d ∷ []) e es = refl
  last-behind (d ∷ c ∷ s) e es = last-behind (c ∷ s) e es

  last_of : (e : ℕ) (es : List ℕ) → is_skip pw e ≡ false → last_is_skip pw es ≡ false → last_is_skip pw (e ∷ es) ≡ false
  unfolding last_is_skip
  last_of e [] h k = h
  last_of e (f ∷ es) h k = k

  pub last-no-skip : (before : ℕ) (qs : List Patch) → AllSome qs → AllBelow (2 ^ pw) (map (λ q. q.patch) qs)
      → last_is_skip pw (map (field pw) (entries_from before qs)) ≡ false
  unfolding last_is_skip entries_from
  last-no-skip before [] s b = refl
  last-no-skip before (q ∷ qs) s b =
      let n : ℕ = skips_in (q.place - before) in
      let gap : ℕ = q.place - before - 255 * n in
      last-behind (replicate n skip) (record { gap = gap; patch = q.patch }) (entries_from q.place qs)
      ∙ last_of (gap * 2 ^ pw + q.patch) (map (field pw) (entries_from q.place qs)) (no-skip gap q.patch s.0 b.0)
      (last-no-skip q.place qs s.1 b.1)

  skips-only : (n : ℕ) (es : List Entry) → OnlySkips pw (map (field pw) es) → OnlySkips pw (map (field pw) (replicate n skip ++ es))
  skips-only zero es o = o
  skips-only (suc n) es o = (inl (rw is-skip tt), skips-only n es o)

  pub only-skips : (before : ℕ) (qs : List Patch) → AllSome qs → AllBelow (2 ^ pw) (map (λ q. q.patch) qs)
      → OnlySkips pw (map (field pw) (entries_from before qs))
  unfolding entries_from
  only-skips before [] s b = tt
  only-skips before (q ∷ qs) s b = skips-only (skips_in (q.place - before)) _ (inr (rw (low _ pw b.0) s.0), only-skips q.place qs s.1 b.1)

-- ---- how large the patches are

-- those above w bits are not 0 ..
pub above-some : (w p : ℕ) (ds : List ℕ) → AllSome (patches_above w p ds)
unfolding patches_above
above-some w p [] = tt
above-some w p (d ∷ ds) = by (eqb (d / 2 ^ w) 0) refl (above-some w (suc p) ds)
  where
    by : (t : Bool) → eqb (d / 2 ^ w) 0 ≡ t → AllSome (patches_above w (suc p) ds)
        → AllSome (pick t (patches_above w (suc p) ds) (record { place = p; patch = d / 2 ^ w } ∷ patches_above w (suc p) ds))
    by true e h = h
    by false e h = (omega (arith, eqb-false (d / 2 ^ w) 0 e), h)

-- then refusal 3 does not apply
pub above-small : (w : ℕ) (qs : List Patch) → AllBelow (2 ^ (64 - w)) (map (λ q. q.patch) qs) → T (not (too_large w qs))
unfolding too_large
above-small w [] b = tt
above-small w (q ∷ qs) b =
    rw (limit_is w) (or-not (leb (2 ^ (64 - w)) q.patch) (too_large w qs) (lt→nleb (2 ^ (64 - w)) q.patch b.0) (above-small w qs b.1))

-- ---- ONE LIST ONLY: of those without other entries, the shortest is that of the entries

behind-skip : (pw before e : ℕ) (es : List ℕ) (qs : List Patch) → e ≡ field pw skip → suc (length es) ≤ length (entries_from before qs)
    → length (entries_from (before + 255) qs) ≤ length es
    → (length es ≤ length (entries_from (before + 255) qs) → es ≡ map (field pw) (entries_from (before + 255) qs))
    → e ∷ es ≡ map (field pw) (entries_from before qs)
behind-skip pw before e es [] k l f ih = absurd (omega (arith, no-entries before))
behind-skip pw before e es (q ∷ qs) k l f ih =
    let s = skip-next before q qs (omega (arith, length-entries before q qs, length-entries (before + 255) q qs)) in
    rw s (ap₂ (λ (x : ℕ) (t : List ℕ). x ∷ t) k (ih (omega (arith, ap (λ (t : List Entry). length t) s))))

pub same_entries : (pw before : ℕ) (es : List ℕ) → OnlySkips pw es → AllBelow 256 (map (gap_of pw) es)
    → length es ≤ length (entries_from before (kept (patches_from pw before es)))
    → es ≡ map (field pw) (entries_from before (kept (patches_from pw before es)))
unfolding patches_from kept entries_from
same_entries pw before [] o g l = refl
same_entries pw before (e ∷ es) o g l =
    by (is_skip pw e) refl o.0 (patches_from pw (before + gap_of pw e) es) l (fewest pw (before + gap_of pw e) es g.1)
    (same_entries pw (before + gap_of pw e) es o.1 g.1)
  where
    by : (t : Bool) → is_skip pw e ≡ t → T (is_skip pw e) ⊎ (1 ≤ patch_of pw e) → (qs : List Patch)
        → suc (length es) ≤ length (entries_from before (kept (pick t qs (record { place = before + gap_of pw e; patch = patch_of pw e } ∷ qs))))
        → length (entries_from (before + gap_of pw e) (kept qs)) ≤ length es
        → (length es ≤ length (entries_from (before + gap_of pw e) (kept qs)) → es ≡ map (field pw) (entries_from (before + gap_of pw e) (kept qs)))
        → e ∷ es ≡ map (field pw) (entries_from before (kept (pick t qs (record { place = before + gap_of pw e; patch = patch_of pw e } ∷ qs))))
    by true k c qs l f ih =
        let s : gap_of pw e ≡ 255 = eqb→eq (gap_of pw e) 255 (and_left (eqb (gap_of pw e) 255) (eqb (patch_of pw e) 0) (rw k tt)) in
        let z : patch_of pw e ≡ 0 = eqb→eq (patch_of pw e) 0 (and_right (eqb (gap_of pw e) 255) (eqb (patch_of pw e) 0) (rw k tt)) in
        let d : e ≡ field pw skip = rw (s, z) at (sym (split e pw)) in
        behind-skip pw before e es (kept qs) d l (rw s at f) (rw s at ih)
    by false k (inl c) qs l f ih = absurd (rw k at c)
    by false k (inr c) qs l f ih =
        let s : skips_in (before + gap_of pw e - before) ≡ 0 = omega (arith, g.0) in
        let a : before + gap_of pw e - before - 255 * 0 ≡ gap_of pw e = omega arith in
        let n : eqb (patch_of pw e) 0 ≡ false = ne_eqb (patch_of pw e) 0 (λ z. omega arith) in
        rw (n, s, a, split e pw) (ap (λ (t : List ℕ). e ∷ t) (ih (omega (arith, rw (n, s) at l))))
