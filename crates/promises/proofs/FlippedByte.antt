-- One flipped byte, in a direct run and in a packed delta run. Assumes nothing.
use Rattle.format.proofs.Common.{◌≡◌, refl, ap, inl, ℕ, suc, ◌+◌, ◌*◌, ◌/◌, ◌<◌, arith, Bool, List, [], ◌∷◌, ◌++◌, length, take}
use Rattle.format.proofs.Common.{length-append}
use Rattle.format.specs.Fields.{width, row, Block, block_bytes, bytes_for}
use Rattle.format.specs.Runs.{direct, delta, layout, head₀, head₁}
use Rattle.format.specs.Rows.{i64_rows, as_i64}
use Rattle.format.proofs.Fields.{length-block}
use Rattle.format.proofs.Widths.{width-pos}
use Rattle.promises.specs.FlippedByte.{Flipped, FlippedDirect, FlippedDelta, FlippedByte}
use Rattle.promises.proofs.FlippedFields.{laid, head-same, values_same}
use Rattle.promises.proofs.FlippedRows.{direct-row, at_take, delta-rows, same-take, behind-varints}
use Rattle.promises.proofs.FlippedTouch.{apart, first-touching, last-touching, is-there, touched, at_most, in-a-byte, whole-bytes}

in-direct : (input input' : List ℕ) (at at' j code code' : ℕ) (k k' : Block)
    → Flipped input input' at at' 2 j (direct code k) (direct code' k') → FlippedDirect j code code' k k'
unfolding layout
in-direct input input' at at' j code code' k k' f = go f.front refl
  where
    n : ℕ
    n = length k.values

    n' : ℕ
    n' = length k'.values

    from-x : List ℕ
    from-x = f.x ∷ (f.back ++ f.one.follows)

    from-y : List ℕ
    from-y = f.y ∷ (f.back ++ f.other.follows)

    go : (front : List ℕ) → f.front ≡ front → FlippedDirect j code code' k k'
    go [] z = absurd (omega (arith, f.packed, ap length z))
    go (a ∷ []) z = absurd (omega (arith, f.packed, ap length z))
    go (a ∷ b ∷ s) z =
        let t = laid f.one in
        let t' = laid f.other in
        let e : (a ∷ b ∷ (s ++ from-x)) ≡ head₀ 1 code n ∷ head₁ n ∷ (block_bytes (width code) n k ++ f.one.rest) = rw z at t.split in
        let e' : (a ∷ b ∷ (s ++ from-y)) ≡ head₀ 1 code' n' ∷ head₁ n' ∷ (block_bytes (width code') n' k' ++ f.other.rest) =
        rw z at t'.split in
        let h = head-same 1 code code' n n' t.ok.head t'.ok.head (cc) (cc) in
        let l : length f.front ≡ suc (suc (length s)) = ap length z in
        let c : j ≡ length s = omega (arith, f.packed) in
        let size = length-block (width code) n k in
        record {
          same_code = h.0;
          same_count = h.1;
          same_row = λ signed i m o.
              rw (direct-row signed code k i, direct-row signed code' k' i)
              (ap (λ (v : ℕ). as_i64 (row signed v))
              (values_same _ _ _ _ k k' (ap width h.0) h.1 t.ok.block t'.ok.block f.one.rest f.other.rest s f.back
              f.one.follows f.other.follows f.x f.y (cc) (cc) (omega (arith, f.inside)) (omega (arith, f.reaches))
              (width-pos code) i m (rw c at o)));
        }

in-delta : (input input' : List ℕ) (at at' j code code' : ℕ) (first first' base base' : List ℕ) (k k' : Block)
    → Flipped input input' at at' (2 + length first + length base) j (delta code first base k) (delta code' first' base' k')
    → FlippedDelta j code code' first first' base base' k k'
unfolding layout
in-delta input input' at at' j code code' first first' base base' k k' f = go f.front refl
  where
    n : ℕ
    n = length k.values

    n' : ℕ
    n' = length k'.values

    from-x : List ℕ
    from-x = f.x ∷ (f.back ++ f.one.follows)

    from-y : List ℕ
    from-y = f.y ∷ (f.back ++ f.other.follows)

    bk : List ℕ
    bk = block_bytes (width code) n k

    bk' : List ℕ
    bk' = block_bytes (width code') n' k'

    go : (front : List ℕ) → f.front ≡ front → FlippedDelta j code code' first first' base base' k k'
    go [] z = absurd (omega (arith, f.packed, ap length z))
    go (a ∷ []) z = absurd (omega (arith, f.packed, ap length z))
    go (a ∷ b ∷ s) z =
        let t = laid f.one in
        let t' = laid f.other in
        let e : (a ∷ b ∷ (s ++ from-x)) ≡ head₀ 3 code (n + 2) ∷ head₁ (n + 2) ∷ ((first ++ (base ++ bk)) ++ f.one.rest) =
        rw z at t.split in
        let e' : (a ∷ b ∷ (s ++ from-y)) ≡ head₀ 3 code' (n' + 2) ∷ head₁ (n' + 2) ∷ ((first' ++ (base' ++ bk')) ++ f.other.rest) =
        rw z at t'.split in
        let h = head-same 3 code code' (n + 2) (n' + 2) t.ok.head t'.ok.head (cc) (cc) in
        let c : n ≡ n' = omega (arith, h.1) in
        let l : length f.front ≡ suc (suc (length s)) = ap length z in
        let r = behind-varints first first' base base' bk bk' f.one.rest f.other.rest s from-x from-y
        t.ok.first-varint t'.ok.first-varint t.ok.base-varint t'.ok.base-varint (cc) (cc) (omega (arith, f.packed)) in
        let u : j ≡ length r.u = omega (arith, r.size, f.packed) in
        let size : length (first ++ (base ++ bk)) ≡ length first + length base + bytes_for (n * width code) =
        omega (arith, length-append first (base ++ bk), length-append base bk, length-block (width code) n k) in
        let inside : length r.u < bytes_for (n * width code) = omega (arith, r.size, f.inside) in
        let rows : ℕ = 2 + 8 * j / width code in
        let same : (signed : Bool) → take rows (i64_rows signed (delta code first base k)) ≡ take rows (i64_rows signed (delta code' first' base' k')) =
        λ signed.
        rw (← h.0, ← r.same_first, ← r.same_base, u)
        (delta-rows signed code first base k k' (8 * length r.u / width code)
        (same-take (8 * length r.u / width code) k.values k'.values c λ i p m.
        values_same _ _ _ _ k k' (ap width h.0) c t.ok.block t'.ok.block f.one.rest f.other.rest r.u f.back
        f.one.follows f.other.follows f.x f.y r.left r.right inside (omega (arith, r.size, f.reaches))
        (width-pos code) i m (touched (width code) i (length r.u) (width-pos code) (inl p)))) in
        record {
          same_code = h.0;
          same_first = r.same_first;
          same_base = r.same_base;
          same_count = c;
          same_row = λ signed i before.
              at_take rows i _ _
              (before (8 * j / width code) (is-there (width code) n j (width-pos code) (rw u inside))
              (first-touching (width code) j (width-pos code)).0) (same signed);
          same_rows = same;
        }

pub flipped-byte : FlippedByte
flipped-byte = record {
  in-direct = in-direct;
  in-delta = in-delta;
  apart = apart;
  first-touching = first-touching;
  last-touching = last-touching;
  is-there = is-there;
  touched = touched;
  at_most = at_most;
  in-a-byte = in-a-byte;
  whole-bytes = whole-bytes;
}
