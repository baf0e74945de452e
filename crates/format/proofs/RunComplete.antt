-- A valid description's layout parses as that description (`parse-complete`). Assumes nothing.
use Rattle.format.proofs.Common.{◌≡◌, refl, ◌∙◌, ℕ, ◌+◌, ◌-◌, ◌*◌, ◌/◌, ◌%◌, ◌^◌, ◌<◌, arith, Bool, true, false, List, [], ◌++◌}
use Rattle.format.proofs.Common.{append_assoc, length, pow_pos, eqb, le-ltb, ne_eqb, eqb→eq}
use Rattle.format.specs.Fields.{pick, width, Block, IsBlock, block_bytes}
use Rattle.format.specs.Runs
use Rattle.format.specs.Runs.{Description, short, direct, fixed, delta, patched, Valid, ValidHead, head₀, head₁, head, layout}
use Rattle.format.specs.Runs.{patches, patch_limit, too_large, out_of_place, entry_width}
use Rattle.format.specs.Parse
use Rattle.format.specs.Parse.{got, unless, code_of, rows_less, parse}
use Rattle.format.proofs.Fields
use Rattle.format.proofs.Posts

-- ---- the two-byte header: its fields come back out of it

pub record Head (kind code rows : ℕ) : Type 0 where
  pub is-kind : head₀ kind code rows / 64 ≡ kind
  pub is-code : code_of (head₀ kind code rows) ≡ code
  pub is-less : rows_less (head₀ kind code rows) (head₁ rows) ≡ rows - 1
  pub is-rows : rows_less (head₀ kind code rows) (head₁ rows) + 1 ≡ rows
  -- the width code as the lower bits of a half
  pub code-half : head₀ kind code rows / 2 % 32 ≡ code

pub head-back : (kind code rows : ℕ) → ValidHead code rows → Head kind code rows
head-back kind code rows v = omega (arith, v)

-- refusal 3's limit, with the case of 64 bits: 2^(64-W)
pub limit_is : (w : ℕ) → patch_limit w ≡ 2 ^ (64 - w)
limit_is w = go (eqb w 64) refl
  where
    go : (t : Bool) → eqb w 64 ≡ t → pick t 1 (2 ^ (64 - w)) ≡ 2 ^ (64 - w)
    go true e = rw (eqb→eq w 64 (rw e tt))
    go false e = refl

-- A patched run that is valid with no list, and any list of up to 31 entries behind it: refusal 3, then 7, or the run.
abbrev pub no_list : Block
no_list = record { values = []; pad = 0 }

pub patched-read : (code : ℕ) (base : List ℕ) (pc gw : ℕ) (k l : Block) (rest : List ℕ) → Valid (patched code base pc gw k no_list)
    → length l.values < 32 → IsBlock (entry_width pc gw) (length l.values) l
    → parse (layout (patched code base pc gw k l) ++ rest)
    ≡ unless (too_large (width code) (patches (width pc) l.values)) 3
    (unless (out_of_place (width pc) (length k.values) l.values) 7 (got (patched code base pc gw k l) rest))
unfolding parse Parse.by_kind layout Parse.patched_run Parse.patched_body
patched-read code base pc gw k l rest v few list =
    let n : ℕ = length k.values in
    let m : ℕ = length l.values in
    let h : Head 2 code n = head-back 2 code n v.head in
    let c : ℕ = (length base - 1) * 32 + pc in
    let e : ℕ = (gw - 1) * 32 + m in
    let c₀ : c / 32 + 1 ≡ length base = omega (arith, v) in
    let c₁ : c % 32 ≡ pc = omega (arith, v) in
    let e₀ : e / 32 + 1 ≡ gw = omega (arith, v) in
    let e₁ : e % 32 ≡ m = omega (arith, v) in
    let rest₁ : List ℕ = block_bytes (entry_width pc gw) m l ++ rest in
    let rest₀ : List ℕ = block_bytes (width code) n k ++ rest₁ in
    rw (
      h.is-kind,
      h.is-code,
      h.is-rows,
      c₀,
      c₁,
      e₀,
      e₁,
      le-ltb 64 (width pc + gw) v.not-2,
      append_assoc base (block_bytes (width code) n k ++ block_bytes (entry_width pc gw) m l) rest,
      append_assoc (block_bytes (width code) n k) (block_bytes (entry_width pc gw) m l) rest,
      Fields.bytes-complete _ (length base) base rest₀ refl,
      Fields.block-complete (width code) n k v.block _ rest₁,
      Fields.block-complete (entry_width pc gw) m l list _ rest,
    )

-- a valid run is valid without its list
without-list : (code : ℕ) (base : List ℕ) (pc gw : ℕ) (k l : Block) → Valid (patched code base pc gw k l) → Valid (patched code base pc gw k no_list)
unfolding out_of_place Runs.last_is_skip Runs.patches Runs.patches_from Runs.shared Runs.outside Runs.too_large
without-list code base pc gw k l v = record {
  head = v.head;
  some_bytes = v.some_bytes;
  eight = v.eight;
  bytes = v.bytes;
  patch-code = v.patch-code;
  gap-low = v.gap-low;
  gap-high = v.gap-high;
  entries_fit = omega arith;
  not-2 = v.not-2;
  block = v.block;
  list = record { count = refl; fits = tt; pad_fits = pow_pos _ };
  not-3 = tt;
  not-7 = tt;
}

pub parse-complete : (d : Description) (rest : List ℕ) → Valid d → parse (layout d ++ rest) ≡ got d rest
unfolding parse Parse.by_kind layout Parse.short_run Parse.direct_run Parse.delta_run Parse.fixed_body Parse.delta_body
parse-complete (short count value) rest v =
    let a : ℕ = (length value - 1) * 8 + (count - 3) in
    let e₀ : a / 64 ≡ 0 = omega (arith, v) in
    let e₁ : length value ≡ a / 8 + 1 = omega (arith, v) in
    let e₂ : a % 8 + 3 ≡ count = omega (arith, v) in
    rw (e₀, Fields.bytes-complete _ (a / 8 + 1) value rest e₁, e₂)
parse-complete (direct code k) rest v =
    let n : ℕ = length k.values in
    let h : Head 1 code n = head-back 1 code n v.head in
    rw (h.is-kind, h.is-code, h.is-rows, Fields.block-complete (width code) n k v.block _ rest)
parse-complete (fixed rows first base) rest v =
    let h : Head 3 0 rows = head-back 3 0 rows v.head in
    rw (
      h.is-kind,
      h.is-code,
      h.is-rows,
      append_assoc first base rest,
      Fields.varint-complete _ 10 first (base ++ rest) v.first-varint,
      Fields.varint-complete _ 10 base rest v.base-varint,
    )
parse-complete (delta code first base k) rest v =
    let n : ℕ = length k.values in
    let h : Head 3 code (n + 2) = head-back 3 code (n + 2) v.head in
    let e₀ : eqb code 0 ≡ false = ne_eqb code 0 (omega (arith, v.not-fixed)) in
    let e₁ : n + 2 - 1 - 1 ≡ n = omega arith in
    rw (
      h.is-kind,
      h.is-code,
      e₀,
      h.is-less,
      ne_eqb (n + 2 - 1) 0 (omega arith),
      append_assoc first (base ++ block_bytes (width code) n k) rest,
      append_assoc base (block_bytes (width code) n k) rest,
      e₁,
      Fields.varint-complete _ 10 first (base ++ (block_bytes (width code) n k ++ rest)) v.first-varint,
      Fields.varint-complete _ 10 base (block_bytes (width code) n k ++ rest) v.base-varint,
      Fields.block-complete (width code) n k v.block _ rest,
    )
parse-complete (patched code base pc gw k l) rest v =
    patched-read code base pc gw k l rest (without-list code base pc gw k l v) v.entries_fit v.list
    ∙ Posts.unless-no (too_large (width code) (patches (width pc) l.values)) 3 v.not-3
    ∙ Posts.unless-no (out_of_place (width pc) (length k.values) l.values) 7 v.not-7
