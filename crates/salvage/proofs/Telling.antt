-- How many bytes a line has. Assumes nothing.
use mathlib.Core.Path.{◌≡◌}
use Prim.Native.Nat.{ℕ, ◌+◌}
use native.Mathlib.Omega.{arith}
use mathlib.Core.Bool.{Bool, true, false}
use mathlib.Core.List.{◌++◌}
use lib.ListN.{length, length-append}
use Rattle.text.specs.Ascii.{ascii}
use Rattle.text.specs.Decimal.{decimal}
use Rattle.salvage.specs.Salvage.{verdict, line}

pub line-long : (keep : Bool) (i n : ℕ) → length (line keep i n) ≡ length (verdict keep) + (length (decimal i) + (length (decimal n) + 2))
unfolding line
line-long keep i n =
    omega (
      arith,
      length-append (verdict keep) (decimal i ++ (ascii " " ++ (decimal n ++ ascii "\n"))),
      length-append (decimal i) (ascii " " ++ (decimal n ++ ascii "\n")),
      length-append (decimal n) (ascii "\n"),
    )

pub kept-long : (keep : Bool) (i n : ℕ) → keep ≡ true → 7 + (length (decimal i) + length (decimal n)) ≡ length (line keep i n)
kept-long keep i n e = rw e (omega (arith, line-long true i n))

pub replaced-long : (keep : Bool) (i n : ℕ) → keep ≡ false → 11 + (length (decimal i) + length (decimal n)) ≡ length (line keep i n)
replaced-long keep i n e = rw e (omega (arith, line-long false i n))
