-- What is written of a patched run (FORMAT.md, "Patched writer"): its fields have room in the widths that it chooses, and no lesser width holds them.
-- Assumes nothing.
use Rattle.format.proofs.Common.{◌≡◌, ◌∙◌, ℕ, zero, suc, ◌+◌, ◌-◌, ◌*◌, ◌/◌, ◌^◌, ◌<◌, ◌≤◌, ◌%◌, mod-lt, lt_of_lt_of_le}
use Rattle.format.proofs.Common.{lt_of_le_of_lt, le_of_lt, arith, dec_lt, Bool, true, false, List, [], ◌∷◌, ◌++◌, map, length}
use Rattle.format.proofs.Common.{replicate, length-map, eqb, eqb→eq, ltb, ltb→lt, eqb_refl, pow_pos, pow-add, high, pow_mono}
use lib.Pow.{shr_le}
use lib.Arith.{digits_lt}
use Rattle.format.specs.Digits.{AllBelow}
use Rattle.format.specs.Fields.{pick, two64, width, widths}
use Rattle.format.specs.Runs.{Patch, gap_of}
use Rattle.format.proofs.Widths.{all_b, all-at, width-window}
use Rattle.format.specs.PatchedWriting.{lows, patches_above, Entry, skip, skips_in, entries_from, field, differences, all_fit, code_for}
use Rattle.format.specs.PatchedWriting.{patch_code, gap_width, base_size, base_bytes, patches_in}
use Rattle.format.specs.Writing.{minus}
use Rattle.format.proofs.Digits.{length_digits}
use Rattle.format.proofs.Tests.{every-below, below-every}
use Rattle.format.proofs.Least.{least-low, least-passes, least-least}

pub below-mods : (f : ℕ → ℕ) (b : ℕ) → 0 < b → (l : List ℕ) → AllBelow b (map (λ x. f x % b) l)
below-mods f b h [] = tt
below-mods f b h (x ∷ l) = (mod-lt (f x) h, below-mods f b h l)

-- ---- BASE BYTES

pub size_low : (base : ℕ) → 1 ≤ base_size base
unfolding base_size
size_low base = least-low _ 1 8

-- ---- GAPS AND PATCHES of the entries

-- each gap is at most 255 ..
skips-below : (f : Entry → ℕ) (b n : ℕ) (es : List Entry) → f skip < b → AllBelow b (map f es) → AllBelow b (map f (replicate n skip ++ es))
skips-below f b zero es h r = r
skips-below f b (suc n) es h r = (h, skips-below f b n es h r)

pub gaps-255 : (before : ℕ) (qs : List Patch) → AllBelow 256 (map (λ e. e.gap) (entries_from before qs))
unfolding entries_from
gaps-255 before [] = tt
gaps-255 before (q ∷ qs) = skips-below (λ e. e.gap) 256 (skips_in (q.place - before)) _ (omega arith) (omega arith, gaps-255 q.place qs)

-- .. and each patch is one of the patches, or 0
pub patches-below : (b before : ℕ) (qs : List Patch) → 0 < b → AllBelow b (map (λ q. q.patch) qs) → AllBelow b (map (λ e. e.patch) (entries_from before qs))
unfolding entries_from
patches-below b before [] h r = tt
patches-below b before (q ∷ qs) h r = skips-below (λ e. e.patch) b (skips_in (q.place - before)) _ h (r.0, patches-below b q.place qs h r.1)

-- a gap above 255 begins with a skip, and a lesser one with its entry
pub skip-next : (from : ℕ) (q : Patch) (qs : List Patch) → from + 255 < q.place → entries_from from (q ∷ qs) ≡ skip ∷ entries_from (from + 255) (q ∷ qs)
unfolding entries_from
skip-next from q qs h =
    let n : ℕ = skips_in (q.place - (from + 255)) in
    let e : skips_in (q.place - from) ≡ suc n = omega arith in
    let g : q.place - from - 255 * suc n ≡ q.place - (from + 255) - 255 * n = omega arith in
    rw (e, g)

pub entry_next : (from : ℕ) (q : Patch) (qs : List Patch) → q.place ≤ from + 255
    → entries_from from (q ∷ qs) ≡ record { gap = q.place - from; patch = q.patch } ∷ entries_from q.place qs
unfolding entries_from
entry_next from q qs h =
    let e : skips_in (q.place - from) ≡ 0 = omega arith in
    let g : q.place - from - 255 * 0 ≡ q.place - from = omega arith in
    rw (e, g)

-- ---- PATCHES: what is above w bits, below b where each number's is

pub above-below : (b c w p : ℕ) (ds : List ℕ) → ((d : ℕ) → d < c → d / 2 ^ w < b) → AllBelow c ds → AllBelow b (map (λ q. q.patch) (patches_above w p ds))
unfolding patches_above
above-below b c w p [] f h = tt
above-below b c w p (d ∷ ds) f h = by (eqb (d / 2 ^ w) 0) (above-below b c w (suc p) ds f h.1)
  where
    by : (t : Bool) → AllBelow b (map (λ q. q.patch) (patches_above w (suc p) ds))
        → AllBelow b (map (λ q. q.patch) (pick t (patches_above w (suc p) ds) (record { place = p; patch = d / 2 ^ w } ∷ patches_above w (suc p) ds)))
    by true r = r
    by false r = (f d h.0, r)

-- ---- widths by their codes

pub width-rises : (a b : ℕ) → a < b → b < 32 → width a < width b
unfolding width widths
width-rises a b h l = ltb→lt _ _ (all-at b (λ c. ltb (width c) (width b)) (all-at 32 (λ d. all_b d (λ c. ltb (width c) (width d))) tt b l) a h)

pub width-mono : (a b : ℕ) → a ≤ b → b < 32 → width a ≤ width b
width-mono a b h l = by (dec_lt a b)
  where
    by : Dec (a < b) → width a ≤ width b
    by (yes k) = le_of_lt (width-rises a b k l)
    by (no k) =
        let e : a ≡ b = omega arith in
        rw e (omega arith)

pub width_same : (a b : ℕ) → a ≤ b → b < 32 → width b ≤ width a → a ≡ b
width_same a b h l m = by (dec_lt a b)
  where
    by : Dec (a < b) → a ≡ b
    by (yes k) = absurd (omega (arith, width-rises a b k l))
    by (no k) = omega arith

-- no width lies between 56 and 64
pub width-56 : (c : ℕ) → width c < 64 → width c ≤ 56
width-56 c h = by (dec_lt 56 (width c))
  where
    by : Dec (56 < width c) → width c ≤ 56
    by (yes l) = absurd (omega (arith, width-window c l))
    by (no l) = omega arith

pub code-width : (w : ℕ) → code_for w < 32 → width (code_for w) ≡ w
unfolding code_for
code-width w h = eqb→eq (width (code_for w)) w (least-passes (λ c. eqb (width c) w) 0 32 (omega arith))

pub code-found : (c : ℕ) → c < 32 → code_for (width c) ≤ c
unfolding code_for
code-found c h = least-least (λ d. eqb (width d) (width c)) 0 32 c (omega arith) (omega arith) (eqb_refl (width c))

-- the patch width holds the patches, and none that does is less
module _ (qs : List Patch) where
  abbrev patch_test : ℕ → Bool
  patch_test c = all_fit (width c) (map (λ q. q.patch) qs)

  pub code-least : (c : ℕ) → c < 32 → AllBelow (2 ^ width c) (map (λ q. q.patch) qs) → patch_code qs ≤ c
  unfolding patch_code
  code-least c h b = least-least patch_test 0 32 c (omega arith) (omega arith) (below-every (2 ^ width c) (map (λ q. q.patch) qs) b)

  pub code_fits : AllBelow two64 (map (λ q. q.patch) qs) → patch_code qs < 32
  unfolding width widths
  code_fits b = omega (arith, code-least 31 (omega arith) b)

  pub code_holds : AllBelow two64 (map (λ q. q.patch) qs) → AllBelow (2 ^ width (patch_code qs)) (map (λ q. q.patch) qs)
  unfolding patch_code
  code_holds b = every-below (2 ^ width (patch_code qs)) (map (λ q. q.patch) qs) (least-passes patch_test 0 32 (omega (arith, code_fits b)))

-- the gap width holds the gaps, and none that does is less
module _ (before : ℕ) (qs : List Patch) where
  abbrev gaps_of : List ℕ
  gaps_of = map (λ e. e.gap) (entries_from before qs)

  pub gap-least : (g : ℕ) → 1 ≤ g → g ≤ 8 → AllBelow (2 ^ g) gaps_of → gap_width (entries_from before qs) ≤ g
  unfolding gap_width
  gap-least g l h b = least-least (λ n. all_fit n gaps_of) 1 8 g l (omega arith) (below-every (2 ^ g) gaps_of b)

  pub gap-8 : gap_width (entries_from before qs) ≤ 8
  gap-8 = gap-least 8 (omega arith) (omega arith) (gaps-255 before qs)

  pub gap-1 : 1 ≤ gap_width (entries_from before qs)
  unfolding gap_width
  gap-1 = least-low _ 1 8

  pub gap-holds : AllBelow (2 ^ gap_width (entries_from before qs)) gaps_of
  unfolding gap_width
  gap-holds = every-below (2 ^ gap_width (entries_from before qs)) gaps_of (least-passes (λ n. all_fit n gaps_of) 1 8 (omega (arith, gap-8)))

-- ---- fields of entries

pub fields-below : (pw gw n : ℕ) (es : List Entry) → pw + gw ≤ n → AllBelow (2 ^ gw) (map (λ e. e.gap) es)
    → AllBelow (2 ^ pw) (map (λ e. e.patch) es) → AllBelow (2 ^ n) (map (field pw) es)
fields-below pw gw n [] h g p = tt
fields-below pw gw n (e ∷ es) h g p =
    let l : field pw e < 2 ^ (gw + pw) = rw (pow-add 2 gw pw) (digits_lt g.0 p.0) in
    (lt_of_lt_of_le l (pow_mono {j = n} (omega arith)), fields-below pw gw n es h g.1 p.1)

pub fields-gaps : (pw b : ℕ) (es : List Entry) → AllBelow b (map (λ e. e.gap) es) → AllBelow (2 ^ pw) (map (λ e. e.patch) es)
    → AllBelow b (map (gap_of pw) (map (field pw) es))
fields-gaps pw b [] g p = tt
fields-gaps pw b (e ∷ es) g p = (rw (high e.gap pw p.0) g.0, fields-gaps pw b es g.1 p.1)

-- ---- WHAT IS WRITTEN

module _ (base w : ℕ) (rs : List ℕ) where
  abbrev ds : List ℕ
  ds = differences base rs

  abbrev qs : List Patch
  qs = patches_in base w rs

  abbrev pw : ℕ
  pw = width (patch_code qs)

  pub ds-below : AllBelow two64 ds
  ds-below = below-mods (λ r. r + (two64 - base)) two64 (pow_pos 64) rs

  pub qs-64 : AllBelow two64 (map (λ q. q.patch) qs)
  qs-64 = above-below two64 two64 w 0 ds (λ d h. lt_of_le_of_lt (shr_le d w) h) ds-below

  pub qs-below : AllBelow (2 ^ pw) (map (λ q. q.patch) qs)
  qs-below = code_holds qs qs-64

  pub es-below : AllBelow (2 ^ pw) (map (λ e. e.patch) (entries_from 0 qs))
  es-below = patches-below (2 ^ pw) 0 qs (pow_pos pw) qs-below

  pub length-ds : length (lows w ds) ≡ length rs
  length-ds = length-map ds (λ d. d % 2 ^ w) ∙ length-map rs (λ r. minus r base)

  pub size_is : length (base_bytes base) ≡ base_size base
  unfolding base_bytes
  size_is = length_digits 256 (base_size base) _
