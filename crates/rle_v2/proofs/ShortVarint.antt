-- A varint of one byte or two, by its bytes. Assumes nothing.
use mathlib.Core.Path.{◌≡◌, sym}
use Prim.Native.Nat.{ℕ, suc, ◌+◌, ◌*◌, ◌%◌, ◌<◌, ◌≤◌}
use native.Mathlib.Omega.{arith}
use native.Mathlib.Numerals.{add-one}
use mathlib.Core.List.{List, [], ◌∷◌}
use lib.ListN.{length, drop, get_or, drop_of_length-le}
use lib.Seq.{drop-cons}
use borrow.Author.Tests.{lt-ltb, le-ltb, lt-leb}
use Rattle.format.specs.Fields.{last_below}
use Rattle.format.specs.Parse.{Reason, got, cut, then, varint}
use Rattle.util.specs.declared.varint.VarintError.TheVariants.{Cut}
use Rattle.std.specs.Prelude.{Ok, Err}
use Rattle.util.specs.Varint.{told, varint_at}

-- a byte that others follow, and the last byte
more : (r : Reason) (b : ℕ) (cs : List ℕ) → 128 ≤ b → varint r 10 (b ∷ cs) ≡ then (varint r 9 cs) λ v rest. got (b ∷ v) rest
unfolding varint
more r b cs h = rw (le-ltb b 128 h)

last : (r : Reason) (b : ℕ) (rest : List ℕ) → b < 128 → varint r 9 (b ∷ rest) ≡ got (b ∷ []) rest
unfolding varint last_below
last r b rest h = rw (lt-ltb b 128 h, lt-leb 128 b h)

told-two : (at left b c : ℕ) (bs rest : List ℕ) → bs ≡ b ∷ c ∷ rest → 128 ≤ b → c < 128 → told at (varint (cut 12 left) 10 bs) ≡ Ok (record { bits = b % 128 + 128 * c; next = at + 2 })
told-two at left b c bs rest q h g =
    let e : c % 128 + 128 * 0 ≡ c = omega arith in
    rw (q, more (cut 12 left) b (c ∷ rest) h, last (cut 12 left) c rest g, e)

module _ (s : List ℕ) (at : ℕ) where
  pub none-there : length s ≤ at → Err Cut ≡ varint_at s at
  unfolding varint_at varint
  none-there l = rw (drop_of_length-le s l)

  module _ (l : at < length s) where
    pub one_byte : get_or s at 0 < 128 → Ok (record { bits = get_or s at 0; next = at + 1 }) ≡ varint_at s at
    unfolding varint_at varint last_below
    one_byte b =
        let e : get_or s at 0 % 128 + 128 * 0 ≡ get_or s at 0 = omega arith in
        rw (drop-cons s at 0 l, lt-ltb (get_or s at 0) 128 b, lt-leb 128 (get_or s at 0) b, e)

    module _ (b : 128 ≤ get_or s at 0) where
      pub two_bytes : at + 1 < length s → get_or s (at + 1) 0 < 128 → Ok (record { bits = get_or s at 0 % 128 + 128 * get_or s (at + 1) 0; next = at + 2 }) ≡ varint_at s at
      unfolding varint_at
      two_bytes l₂ b₂ =
          let q : drop at s ≡ get_or s at 0 ∷ get_or s (at + 1) 0 ∷ drop (suc (at + 1)) s = rw (drop-cons s at 0 l, ← add-one at, drop-cons s (at + 1) 0 l₂) in
          sym (told-two at (length (drop at s)) (get_or s at 0) (get_or s (at + 1) 0) (drop at s) (drop (suc (at + 1)) s) q b b₂)
