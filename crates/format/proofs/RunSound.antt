-- What parses is a valid description's layout, kind by kind. Assumes nothing.
use Rattle.format.proofs.Common.{◌≡◌, refl, sym, ap, ap₂, ◌∙◌, ℕ, zero, suc, ◌+◌, ◌-◌, ◌*◌, ◌/◌, ◌%◌, ◌<◌, arith, List, [], ◌∷◌}
use Rattle.format.proofs.Common.{◌++◌, append_assoc, cons≢nil, length, ltb, eqb, eqb→eq, nltb→le, eqb_no, ◌≢◌}
use Rattle.format.specs.Digits.{AllBelow}
use Rattle.format.specs.Fields.{width, block_bytes}
use Rattle.format.specs.Runs.{Description, Valid, ValidHead, head₀, head₁, layout, patches, too_large, out_of_place, entry_width}
use Rattle.format.specs.Parse
use Rattle.format.specs.Parse.{Parsed, code_of, rows_less, parse}
use Rattle.format.proofs.Fields
use Rattle.format.proofs.Posts

-- ---- soundness: what parses is a valid description's layout

-- what is to be shown of a run that begins with the byte a
abbrev pub Sound : List ℕ → Parsed Description → Type 0
Sound bs m = Posts.Post (Posts.Took bs layout Valid) m

cons : {a a' : ℕ} {s t : List ℕ} → a ≡ a' → s ≡ t → a ∷ s ≡ a' ∷ t
cons p q = ap₂ (λ (x : ℕ) (l : List ℕ). x ∷ l) p q

short-sound : (a : ℕ) (bs : List ℕ) → a < 256 → a / 64 ≡ 0 → AllBelow 256 bs → Sound (a ∷ bs) (Parse.short_run a bs)
unfolding Parse.short_run layout
short-sound a bs h e hs =
    Posts.then-post (Fields.bytes-sound _ (a / 8 + 1) bs hs) λ v s t.
    Posts.at-got (record {
      ok = record {
        few = omega arith;
        many = omega arith;
        some_bytes = omega (arith, t.ok.count);
        eight = omega (arith, t.ok.count);
        bytes = t.ok.below;
      };
      split = cons (omega (arith, t.ok.count)) t.split;
      rest-bytes = t.rest-bytes;
    })

-- the header's fields are in range, and its bytes are theirs
record Headed (kind code rows a b : ℕ) : Type 0 where
  valid : ValidHead code rows
  is-first : a ≡ head₀ kind code rows
  is-second : b ≡ head₁ rows

taken-apart : (kind a b : ℕ) → a < 256 → b < 256 → a / 64 ≡ kind → Headed kind (code_of a) (rows_less a b + 1) a b
taken-apart kind a b ha hb e = omega arith

head-forth : (kind code rows a b : ℕ) → a < 256 → b < 256 → a / 64 ≡ kind → code_of a ≡ code → rows_less a b + 1 ≡ rows → Headed kind code rows a b
head-forth kind code rows a b ha hb e₀ e₁ e₂ = rw (← e₁, ← e₂) (taken-apart kind a b ha hb e₀)

pub append-empty : (s t : List ℕ) → s ++ t ≡ [] → t ≡ []
append-empty [] t e = e
append-empty (x ∷ s) t e = absurd (cons≢nil e)

-- one field after another
join : {bs s : List ℕ} (v w rest : List ℕ) → bs ≡ v ++ s → s ≡ w ++ rest → bs ≡ v ++ w ++ rest
join v w rest p q = p ∙ ap (λ (x : List ℕ). v ++ x) q ∙ sym (append_assoc v w rest)

direct-sound : (a : ℕ) (bs : List ℕ) → a < 256 → a / 64 ≡ 1 → AllBelow 256 bs → Sound (a ∷ bs) (Parse.direct_run a bs)
unfolding Parse.direct_run layout
direct-sound a [] h e hs = Posts.at-refused
direct-sound a (b ∷ bs) h e hs =
    Posts.then-post (Fields.block-sound _ (width (code_of a)) (rows_less a b + 1) bs hs.1) λ k s t.
    let f : Headed 1 (code_of a) (length k.values) a b = head-forth 1 _ _ a b h hs.0 e refl (sym t.ok.count) in
    Posts.at-got (record {
      ok = record { head = f.valid; block = rw t.ok.count t.ok };
      split = cons f.is-first (cons f.is-second (rw t.ok.count t.split));
      rest-bytes = t.rest-bytes;
    })

delta-sound : (a : ℕ) (bs : List ℕ) → a < 256 → a / 64 ≡ 3 → AllBelow 256 bs → Sound (a ∷ bs) (Parse.delta_run a bs)
unfolding Parse.delta_run Parse.fixed_body Parse.delta_body layout
delta-sound a [] h e hs = Posts.at-refused
delta-sound a (b ∷ bs) h e hs =
    Posts.pick_post (eqb (code_of a) 0)
    (λ c. Posts.then-post (Fields.varint-sound _ 10 bs hs.1) λ first s t.
    Posts.then-post (Fields.varint-sound _ 10 s t.rest-bytes) λ base rest u.
    let f : Headed 3 0 (rows_less a b + 1) a b = head-forth 3 _ _ a b h hs.0 e (eqb→eq (code_of a) 0 c) refl in
    Posts.at-got (record {
      ok = record { head = f.valid; first-varint = t.ok; base-varint = u.ok };
      split = cons f.is-first (cons f.is-second (join first base rest t.split u.split));
      rest-bytes = u.rest-bytes;
    }))
    (λ c. Posts.unless-post (eqb (rows_less a b) 0) 4 λ m.
    Posts.then-post (Fields.varint-sound _ 10 bs hs.1) λ first s t.
    Posts.then-post (Fields.varint-sound _ 10 s t.rest-bytes) λ base s₁ u.
    Posts.then-post (Fields.block-sound _ (width (code_of a)) (rows_less a b - 1) s₁ u.rest-bytes) λ k rest x.
    let ne : code_of a ≢ 0 = eqb_no c in
    let me : rows_less a b ≢ 0 = eqb_no m in
    let f : Headed 3 (code_of a) (length k.values + 2) a b = head-forth 3 _ _ a b h hs.0 e refl (omega (arith, x.ok.count)) in
    let y : s₁ ≡ block_bytes (width (code_of a)) (length k.values) k ++ rest = rw x.ok.count x.split in
    Posts.at-got (record {
      ok = record { head = f.valid; not-fixed = omega arith; first-varint = t.ok; base-varint = u.ok; block = rw x.ok.count x.ok };
      split = cons f.is-first (cons f.is-second (join first _ rest t.split (join base _ rest u.split y)));
      rest-bytes = x.rest-bytes;
    }))

patched-sound : (a : ℕ) (bs : List ℕ) → a < 256 → a / 64 ≡ 2 → AllBelow 256 bs → Sound (a ∷ bs) (Parse.patched_run a bs)
unfolding Parse.patched_run Parse.patched_body layout
patched-sound a [] h e hs = Posts.at-refused
patched-sound a (b ∷ []) h e hs = Posts.at-refused
patched-sound a (b ∷ c ∷ []) h e hs = Posts.at-refused
patched-sound a (b ∷ c ∷ g ∷ bs) h e hs =
    let code : ℕ = code_of a in
    let rows : ℕ = rows_less a b + 1 in
    let pc : ℕ = c % 32 in
    let gw : ℕ = g / 32 + 1 in
    Posts.unless-post (ltb 64 (width pc + gw)) 2 λ n₂.
    Posts.then-post (Fields.bytes-sound _ (c / 32 + 1) bs hs.1.1.1) λ base s t.
    Posts.then-post (Fields.block-sound _ (width code) rows s t.rest-bytes) λ k s₁ u.
    Posts.then-post (Fields.block-sound _ (entry_width pc gw) (g % 32) s₁ u.rest-bytes) λ l rest x.
    Posts.unless-post (too_large (width code) (patches (width pc) l.values)) 3 λ n₃.
    Posts.unless-post (out_of_place (width pc) rows l.values) 7 λ n₇.
    let f : Headed 2 code (length k.values) a b = head-forth 2 _ _ a b h hs.0 e refl (sym u.ok.count) in
    let kb : List ℕ = block_bytes (width code) (length k.values) k in
    let lb : List ℕ = block_bytes (entry_width pc gw) (length l.values) l in
    let y : s ≡ kb ++ s₁ = rw u.ok.count u.split in
    let z : s₁ ≡ lb ++ rest = rw x.ok.count x.split in
    let c-is : c ≡ (length base - 1) * 32 + pc = omega (arith, t.ok.count) in
    let g-is : g ≡ (gw - 1) * 32 + length l.values = omega (arith, x.ok.count) in
    Posts.at-got (record {
      ok = record {
        head = f.valid;
        some_bytes = omega (arith, t.ok.count);
        eight = omega (arith, t.ok.count);
        bytes = t.ok.below;
        patch-code = omega arith;
        gap-low = omega arith;
        gap-high = omega arith;
        entries_fit = omega (arith, x.ok.count);
        not-2 = nltb→le 64 (width pc + gw) n₂;
        block = rw u.ok.count u.ok;
        list = rw x.ok.count x.ok;
        not-3 = n₃;
        not-7 = rw u.ok.count n₇;
      };
      split = cons f.is-first (cons f.is-second (cons c-is (cons g-is (join base (kb ++ lb) rest t.split (join kb lb rest y z)))));
      rest-bytes = x.rest-bytes;
    })

pub parse-post : (a : ℕ) (bs : List ℕ) → AllBelow 256 (a ∷ bs) → Sound (a ∷ bs) (parse (a ∷ bs))
unfolding parse Parse.by_kind
parse-post a bs h = go (a / 64) refl
  where
    go : (q : ℕ) → a / 64 ≡ q → Sound (a ∷ bs) (Parse.by_kind q a bs)
    go zero e = short-sound a bs h.0 e h.1
    go (suc zero) e = direct-sound a bs h.0 e h.1
    go (suc (suc zero)) e = patched-sound a bs h.0 e h.1
    go (suc (suc (suc q))) e = delta-sound a bs h.0 (omega (arith, h.0)) h.1
