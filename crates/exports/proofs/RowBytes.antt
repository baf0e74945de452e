-- Rows as bytes, one row more. Assumes nothing.
use Prim.Native.Nat.{ℕ, zero, suc, ◌+◌, ◌-◌, ◌/◌, ◌%◌, ◌<◌, ◌≤◌}
use mathlib.Core.Path.{◌≡◌, refl, ap}
use mathlib.Core.List.{List, ◌∷◌, ◌++◌, map}
use native.Mathlib.Numerals.{add-one}
use native.Mathlib.Omega.{arith}
use lib.ListN.{length, take, drop, get_or, replicate}
use lib.Seq.{drop-cons}
use lib.IntN.{ℤ, pos}
use Rattle.std.specs.Int.{w64, to_le_bytes}
use Rattle.format.specs.Fields.{two64}
use Rattle.format.specs.Rows.{as_u64, as_i64}
use Rattle.format.specs.Digits.{lowest_first}
use Rattle.exports.specs.RowBytes.{row_bytes}
use Rattle.format.proofs.Patterns.{as-back}

-- the library's bytes of a number are its eight lowest bytes, lowest first
pub low-first : (x : ℕ) → to_le_bytes w64 x ≡ lowest_first 8 x
unfolding lowest_first
low-first x =
    let second : x / 256 / 256 ≡ x / 65536 = omega arith in
    let third : x / 65536 / 256 ≡ x / 16777216 = omega arith in
    let fourth : x / 16777216 / 256 ≡ x / 4294967296 = omega arith in
    let fifth : x / 4294967296 / 256 ≡ x / 1099511627776 = omega arith in
    let sixth : x / 1099511627776 / 256 ≡ x / 281474976710656 = omega arith in
    let seventh : x / 281474976710656 / 256 ≡ x / 72057594037927936 = omega arith in
    rw (second, third, fourth, fifth, sixth, seventh) refl

pub bytes-long : (n x : ℕ) → length (lowest_first n x) ≡ n
unfolding lowest_first
bytes-long zero x = refl
bytes-long (suc n) x = ap suc (bytes-long n (x / 256))

pub row_more : (rows : List ℤ) (n i : ℕ) → i < n → n ≤ length rows
    → row_bytes (take (n - i) (drop i rows)) ≡ lowest_first 8 (as_u64 (get_or rows i (pos 0))) ++ row_bytes (take (n - (i + 1)) (drop (i + 1) rows))
unfolding row_bytes
row_more rows n i h l =
    let e : n - i ≡ suc (n - (i + 1)) = omega arith in
    rw (e, add-one, drop-cons rows i (pos 0) (omega arith))

pub repeat-more : (n i x : ℕ) → i < n → x < two64
    → row_bytes (map as_i64 (replicate (n - i) x)) ≡ lowest_first 8 x ++ row_bytes (map as_i64 (replicate (n - (i + 1)) x))
unfolding row_bytes
repeat-more n i x h b =
    let e : n - i ≡ suc (n - (i + 1)) = omega arith in
    rw (e, as-back x b)
