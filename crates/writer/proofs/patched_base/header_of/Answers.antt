-- Each field of the header is the least that the definition takes: the width's code, the base's bytes, the patches' width by the largest
-- difference, the gaps' width by the largest entry. Without one of them no header describes the rows. Assumes nothing.
use Rattle.format.proofs.Common.{◌≡◌, sym, ap, subst, ◌∙◌, List, ◌++◌, map, ℕ, ◌+◌, ◌/◌, ◌%◌, ◌^◌, ◌<◌, ◌≤◌, arith, ℤ, length, take, drop}
use Rattle.format.proofs.Common.{length-map, take_at, length-take-le}
use Rattle.format.specs.Digits.{AllBelow}
use Rattle.format.specs.Fields.{width}
use Rattle.format.specs.Runs.{Patch}
use Rattle.format.specs.Rows.{as_u64}
use Rattle.format.specs.Writing.{minus}
use Rattle.format.specs.PatchedWriting.{differences, lows, Entry, entries_from, field, patch_code, patches_in, code_for}
use Rattle.format.proofs.Rows.{width-le}
use Rattle.format.proofs.Widths.{width-pos}
use Rattle.format.proofs.PatchedWriting.{code-width, width-56, es-below, gaps-255}
use Rattle.std.specs.Prelude.{Some}
use Rattle.writer.specs.PatchedBase.{Largest, Listed}
use Rattle.writer.proofs.PatchedLaws.{patch-code-is, values-held, gap-width-is, gap-small}
use Rattle.writer.proofs.PatchedHeader.{no_code, no-base, no_gap, no-list, all_held}
use Rattle.writer.proofs.patched_base.header_of.Goals as goal

pub fill-requires : goal.fill-requires
fill-requires c =
    let bits : ℕ = c.args.bits in
    let is-code : code_for (bits) < 32 = omega (arith, c.in_ok-code.ensures) in
    let bits-le : (bits) ≤ 64 = rw (code-width (bits) (is-code)) at (width-le (code_for (bits))) in
    let rows : List ℤ = c.args.rows.now in
    let ds : List ℕ = differences c.args.base (map as_u64 (rows)) in
    let length-ds : length (ds) ≡ length (rows) = length-map (map as_u64 (rows)) (λ r. minus r c.args.base) ∙ length-map (rows) as_u64 in
    let stand : take (length (rows)) c.differences.new.vals ≡ (ds) = ap (λ (l : List ℕ). take (length (rows)) l) c.differences.ensures ∙ take_at (ds) (drop (length (rows)) c.args.vals.now) (length (rows)) (length-ds) in
    let long-vals : length (rows) ≤ length c.differences.new.vals = omega (arith, c.differences.auto.vals) in
    let rs : List ℕ = map as_u64 c.args.rows.now in
    let most : Largest (differences c.args.base (rs)) c.largest.result = rw (stand) at c.largest.ensures in
    let held : c.above.result < 2 ^ width c.narrowest_code-patch.result = c.narrowest_code-patch.ensures.holds in
    let pw : ℕ = c.bits_of-pw.result in
    let pw-le : (pw) ≤ 56 = let e : (pw) ≡ width c.narrowest_code-patch.result = c.bits_of-pw.ensures in
    rw e (width-56 _ (omega (arith, width-le c.narrowest_code-patch.result, c.if-pw-eq64.false))) in
    let a = c.args in
    let h : c.largest.result / 2 ^ a.bits < 2 ^ pw =
    rw c.bits_of-pw.ensures (rw c.above.ensures at (held)) in
    let v : AllBelow (2 ^ (pw + a.bits)) (take (length a.rows.now) c.differences.new.vals) =
    rw (stand) (values-held a.bits c.largest.result c.narrowest_code-patch.result
    (ds) (most) (pw) h) in
    let l : length a.list.now ≤ 31 = omega (arith, c.requires.3) in
    record { rows_in_bounds = (long-vals, c.requires.1, bits-le, pw-le, l); all_below = v }

pub returns : goal.returns
returns c =
    let bits : ℕ = c.args.bits in
    let is-code : code_for (bits) < 32 = omega (arith, c.in_ok-code.ensures) in
    let rows : List ℤ = c.args.rows.now in
    let ds : List ℕ = differences c.args.base (map as_u64 (rows)) in
    let length-ds : length (ds) ≡ length (rows) = length-map (map as_u64 (rows)) (λ r. minus r c.args.base) ∙ length-map (rows) as_u64 in
    let stand : take (length (rows)) c.differences.new.vals ≡ (ds) = ap (λ (l : List ℕ). take (length (rows)) l) c.differences.ensures ∙ take_at (ds) (drop (length (rows)) c.args.vals.now) (length (rows)) (length-ds) in
    let long-vals : length (rows) ≤ length c.differences.new.vals = omega (arith, c.differences.auto.vals) in
    let rs : List ℕ = map as_u64 c.args.rows.now in
    let most : Largest (differences c.args.base (rs)) c.largest.result = rw (stand) at c.largest.ensures in
    let patch-is : c.narrowest_code-patch.result ≡ patch_code (patches_in c.args.base c.args.bits (rs)) = patch-code-is c.args.bits _ _ (differences c.args.base (rs)) (most) (rw c.above.ensures at c.narrowest_code-patch.ensures) in
    let qs : List Patch = patches_in c.args.base c.args.bits (map as_u64 (rows)) in
    let long-list : length c.fill.new.list ≡ 31 = omega (arith, c.fill.auto.list) in
    let pw₂ : ℕ = c.bits_of-pw.result in
    let listed : Listed c.bits_of-pw.result (entries_from 0 (qs)) c.fill.new.list (Some c.in_ok-entries.entries) = rw (stand) at c.in_ok-entries.ensures in
    let few : c.in_ok-entries.entries ≤ length c.fill.new.list = listed.0 in
    let fields-are : take c.in_ok-entries.entries c.fill.new.list ≡ map (field (pw₂)) (entries_from 0 (qs)) = listed.1 in
    let most-entry : Largest (map (field (pw₂)) (entries_from 0 (qs))) c.largest-2.result = rw (fields-are) at c.largest-2.ensures in
    let pw : ℕ = c.bits_of-pw.result in
    let pw-is : (pw) ≡ width (patch_code (patches_in c.args.base c.args.bits (rs))) = c.bits_of-pw.ensures ∙ ap (λ (c : ℕ). width c) (patch-is) in
    let patches-fit : AllBelow (2 ^ (pw₂)) (map (λ e. e.patch) (entries_from 0 (qs))) = subst (λ (x : ℕ). AllBelow (2 ^ x) (map (λ e. e.patch) (entries_from 0 (qs)))) (sym (pw-is))
    (es-below c.args.base c.args.bits (map as_u64 c.args.rows.now)) in
    let a = c.args in
    let ls : List ℕ = c.fill.new.list in
    let k : ℕ = c.in_ok-entries.entries in
    let es : List Entry = entries_from 0 (qs) in
    let vs : c.keep_low.new.vals ≡ lows a.bits (ds) ++ drop (length a.rows.now) c.differences.new.vals =
    rw (stand) at c.keep_low.ensures in
    let few-entries : k ≤ 31 = omega (arith, few, long-list) in
    let code : ℕ = c.narrowest_code-patch.result in
    let pw-code : pw₂ ≡ width code = c.bits_of-pw.ensures in
    all_held a.base a.bits (map as_u64 a.rows.now) _ c.keep_low.new.vals ls
    (c.in_ok-code.ensures.0) (sym (length-map a.rows.now as_u64))
    c.base_size-size.ensures (patch-is)
    (c.gap_width-gap.ensures ∙ gap-width-is (pw₂) c.largest-2.result es (patches-fit) (most-entry))
    (sym (length-take-le k ls (few)) ∙ ap (λ (l : List ℕ). length l) (fields-are) ∙ length-map es (field (pw₂)))
    (ap (λ (l : List ℕ). take (length a.rows.now) l) vs
    ∙ take_at (lows a.bits (ds)) _ (length a.rows.now) (length-map (ds) (λ x. x % 2 ^ a.bits) ∙ length-ds))
    (subst (λ (x : ℕ). take k ls ≡ map (field x) es) pw-code (fields-are))
    (is-code) (rw (length-map a.rows.now as_u64) c.requires.0) (rw (length-map a.rows.now as_u64) c.requires.1)
    (rw (length-map a.rows.now as_u64) (omega (arith, c.keep_low.auto.vals, long-vals)))
    (omega (arith, c.base_size-size.ensures, c.if-size-gt8.false))
    c.narrowest_code-patch.ensures.is_code (λ z. c.if-pw-eq64.false (pw-code ∙ z)) (width-le code) few-entries (few)

pub returns-in_err-code : goal.returns-in_err-code
returns-in_err-code c = rw c.from_residual.ensures (no_code c.args.base c.args.bits (map as_u64 c.args.rows.now) (omega (arith, c.in_err-code.ensures)))

pub returns-then-size-gt8 : goal.returns-then-size-gt8
returns-then-size-gt8 c = no-base _ _ _ (omega (arith, c.base_size-size.ensures))

pub above-requires : goal.above-requires
above-requires c =
    let bits : ℕ = c.args.bits in
    let is-code : code_for (bits) < 32 = omega (arith, c.in_ok-code.ensures) in
    let bits-le : (bits) ≤ 64 = rw (code-width (bits) (is-code)) at (width-le (code_for (bits))) in
    bits-le

pub returns-then-pw-eq64 : goal.returns-then-pw-eq64
returns-then-pw-eq64 c =
    let rs : List ℕ = map as_u64 c.args.rows.now in
    let rows : List ℤ = c.args.rows.now in
    let ds : List ℕ = differences c.args.base (map as_u64 (rows)) in
    let length-ds : length (ds) ≡ length (rows) = length-map (map as_u64 (rows)) (λ r. minus r c.args.base) ∙ length-map (rows) as_u64 in
    let stand : take (length (rows)) c.differences.new.vals ≡ (ds) = ap (λ (l : List ℕ). take (length (rows)) l) c.differences.ensures ∙ take_at (ds) (drop (length (rows)) c.args.vals.now) (length (rows)) (length-ds) in
    let most : Largest (differences c.args.base (rs)) c.largest.result = rw (stand) at c.largest.ensures in
    let patch-is : c.narrowest_code-patch.result ≡ patch_code (patches_in c.args.base c.args.bits (rs)) = patch-code-is c.args.bits _ _ (differences c.args.base (rs)) (most) (rw c.above.ensures at c.narrowest_code-patch.ensures) in
    no_gap _ _ _ (sym (c.bits_of-pw.ensures ∙ ap (λ (n : ℕ). width n) (patch-is)) ∙ c.if-pw-eq64.true)

pub returns-in_err-entries : goal.returns-in_err-entries
returns-in_err-entries c =
    let rows : List ℤ = c.args.rows.now in
    let ds : List ℕ = differences c.args.base (map as_u64 (rows)) in
    let length-ds : length (ds) ≡ length (rows) = length-map (map as_u64 (rows)) (λ r. minus r c.args.base) ∙ length-map (rows) as_u64 in
    let stand : take (length (rows)) c.differences.new.vals ≡ (ds) = ap (λ (l : List ℕ). take (length (rows)) l) c.differences.ensures ∙ take_at (ds) (drop (length (rows)) c.args.vals.now) (length (rows)) (length-ds) in
    let long-list : length c.fill.new.list ≡ 31 = omega (arith, c.fill.auto.list) in
    let over : length c.fill.new.list < length (entries_from 0 (patches_in c.args.base c.args.bits (map as_u64 (rows)))) = rw (stand) at c.in_err-entries.ensures in
    rw c.from_residual-in_err-entries.ensures (no-list c.args.base c.args.bits (map as_u64 (rows)) (omega (arith, over, long-list)))

pub overflow_shr-largest : goal.overflow_shr-largest
overflow_shr-largest c =
    let pw : ℕ = c.bits_of-pw.result in
    let pw-le : (pw) ≤ 56 = let e : (pw) ≡ width c.narrowest_code-patch.result = c.bits_of-pw.ensures in
    rw e (width-56 _ (omega (arith, width-le c.narrowest_code-patch.result, c.if-pw-eq64.false))) in
    omega (arith, pw-le)

pub gap_width-gap-requires : goal.gap_width-gap-requires
gap_width-gap-requires c =
    let rows : List ℤ = c.args.rows.now in
    let qs : List Patch = patches_in c.args.base c.args.bits (map as_u64 (rows)) in
    let pw₂ : ℕ = c.bits_of-pw.result in
    let ds : List ℕ = differences c.args.base (map as_u64 (rows)) in
    let length-ds : length (ds) ≡ length (rows) = length-map (map as_u64 (rows)) (λ r. minus r c.args.base) ∙ length-map (rows) as_u64 in
    let stand : take (length (rows)) c.differences.new.vals ≡ (ds) = ap (λ (l : List ℕ). take (length (rows)) l) c.differences.ensures ∙ take_at (ds) (drop (length (rows)) c.args.vals.now) (length (rows)) (length-ds) in
    let listed : Listed c.bits_of-pw.result (entries_from 0 (qs)) c.fill.new.list (Some c.in_ok-entries.entries) = rw (stand) at c.in_ok-entries.ensures in
    let few : c.in_ok-entries.entries ≤ length c.fill.new.list = listed.0 in
    let fields-are : take c.in_ok-entries.entries c.fill.new.list ≡ map (field (pw₂)) (entries_from 0 (qs)) = listed.1 in
    let most-entry : Largest (map (field (pw₂)) (entries_from 0 (qs))) c.largest-2.result = rw (fields-are) at c.largest-2.ensures in
    let rs : List ℕ = map as_u64 c.args.rows.now in
    let most : Largest (differences c.args.base (rs)) c.largest.result = rw (stand) at c.largest.ensures in
    let patch-is : c.narrowest_code-patch.result ≡ patch_code (patches_in c.args.base c.args.bits (rs)) = patch-code-is c.args.bits _ _ (differences c.args.base (rs)) (most) (rw c.above.ensures at c.narrowest_code-patch.ensures) in
    let pw : ℕ = c.bits_of-pw.result in
    let pw-is : (pw) ≡ width (patch_code (patches_in c.args.base c.args.bits (rs))) = c.bits_of-pw.ensures ∙ ap (λ (n : ℕ). width n) (patch-is) in
    let patches-fit : AllBelow (2 ^ (pw₂)) (map (λ e. e.patch) (entries_from 0 (qs))) = subst (λ (x : ℕ). AllBelow (2 ^ x) (map (λ e. e.patch) (entries_from 0 (qs)))) (sym (pw-is))
    (es-below c.args.base c.args.bits (map as_u64 c.args.rows.now)) in
    gap-small (pw₂) c.largest-2.result (entries_from 0 (qs)) (patches-fit) (most-entry) (gaps-255 0 (qs))

pub keep_low-requires : goal.keep_low-requires
keep_low-requires c =
    let bits : ℕ = c.args.bits in
    let is-code : code_for (bits) < 32 = omega (arith, c.in_ok-code.ensures) in
    let bits-le : (bits) ≤ 64 = rw (code-width (bits) (is-code)) at (width-le (code_for (bits))) in
    let bits_pos : 0 < (bits) = rw (code-width (bits) (is-code)) at (width-pos (code_for (bits))) in
    let rows : List ℤ = c.args.rows.now in
    let long-vals : length (rows) ≤ length c.differences.new.vals = omega (arith, c.differences.auto.vals) in
    (omega (arith, long-vals), bits_pos, bits-le)
