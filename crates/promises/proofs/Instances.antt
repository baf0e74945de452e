-- Inputs that meet the hypotheses of the theorems on a cut file and on one flipped byte, and what these then say, by computing.
-- Assumes nothing.
use Rattle.std.specs.Prelude.{Some, None}
use Rattle.format.proofs.Common.{◌≡◌, refl, ◌≢◌, ℕ, zero, suc, arith, false, List, [], ◌∷◌, length, take, get_or, pos}
use Rattle.format.specs.declared.Kind.TheVariants.{ShortRepeat}
use Rattle.format.specs.Answers.{running, refusing, cutting, broke_at}
use Rattle.format.specs.Runs.{Description, short, direct, delta, joined}
use Rattle.format.specs.Rows.{i64_rows}
use Rattle.format.specs.Streams.{read_all}
use Rattle.format.specs.Promises.{stream_answer}
use Rattle.format.proofs.Examples.{told}
use Rattle.promises.specs.CutFile.{EndInside}
use Rattle.promises.specs.FlippedByte.{Flipped}
use Rattle.promises.proofs.FlippedByte.{flipped-byte}

-- ---- the runs `0A 01 2C` and `46 02 12 30`, of five rows and of three, cut after five bytes

abbrev two : List Description
two = short 5 (0x01 ∷ 0x2C ∷ []) ∷ direct 3 (record { values = 1 ∷ 2 ∷ 3 ∷ []; pad = 0 }) ∷ []

inside-second : EndInside 5 two
unfolding told
inside-second = (omega arith, go)
  where
    go : (k : ℕ) → 5 ≢ length (joined (take k two))
    go zero e = omega arith
    go (suc zero) e = omega arith
    go (suc (suc k)) e = omega (arith, all k)
      where
        all : (k : ℕ) → length (joined (take (suc (suc k)) two)) ≡ 7
        all zero = refl
        all (suc k) = refl

-- five places are room for the rows before the cut run, though not for all rows: refusal 13 where the cut run begins
just_enough : stream_answer 0 (read_all 5 (take 5 (joined two))) ≡ broke_at (cutting 13 3 5) 5 3 (Some (running ShortRepeat 16 5 3))
unfolding told
just_enough = refl

-- four are not: refusal 8 at the run before it
one-short : stream_answer 0 (read_all 4 (take 5 (joined two))) ≡ broke_at (refusing 8 0) 0 0 None
unfolding told
one-short = refl

-- ---- one flipped byte: runs at byte 2 of one input and at byte 0 of another, with other bytes before and after them

direct-flipped : Flipped (0xAA ∷ 0xBB ∷ 0x46 ∷ 0x02 ∷ 0x12 ∷ 0x30 ∷ []) (0x46 ∷ 0x02 ∷ 0x1A ∷ 0x30 ∷ 0x07 ∷ []) 2 0 2 0
    (direct 3 (record { values = 1 ∷ 2 ∷ 3 ∷ []; pad = 0 })) (direct 3 (record { values = 1 ∷ 10 ∷ 3 ∷ []; pad = 0 }))
unfolding told
direct-flipped = record {
  front = 0x46 ∷ 0x02 ∷ [];
  x = 0x12;
  y = 0x1A;
  back = 0x30 ∷ [];
  one = record { bytes = omega arith; rest = []; accepted = refl; follows = []; split = refl };
  other = record { bytes = omega arith; rest = 0x07 ∷ []; accepted = refl; follows = 0x07 ∷ []; split = refl };
  packed = refl;
  inside = omega arith;
  reaches = omega arith;
}

abbrev falling : ℕ → Description
falling m = delta 3 (0x64 ∷ []) (0x05 ∷ []) (record { values = m ∷ 4 ∷ []; pad = 0 })

delta-flipped : Flipped (0xC6 ∷ 0x03 ∷ 0x64 ∷ 0x05 ∷ 0x14 ∷ []) (0x00 ∷ 0x01 ∷ 0xC6 ∷ 0x03 ∷ 0x64 ∷ 0x05 ∷ 0x34 ∷ 0xFF ∷ []) 0 2 4 0
    (falling 1) (falling 3)
unfolding told
delta-flipped = record {
  front = 0xC6 ∷ 0x03 ∷ 0x64 ∷ 0x05 ∷ [];
  x = 0x14;
  y = 0x34;
  back = [];
  one = record { bytes = omega arith; rest = []; accepted = refl; follows = []; split = refl };
  other = record { bytes = omega arith; rest = 0xFF ∷ []; accepted = refl; follows = 0xFF ∷ []; split = refl };
  packed = refl;
  inside = omega arith;
  reaches = omega arith;
}

-- the row before the touched magnitudes is equal by the theorem, and the row of the first of them is not
row_before : get_or (i64_rows false (falling 1)) 1 (pos 0) ≡ get_or (i64_rows false (falling 3)) 1 (pos 0)
row_before = (flipped-byte.in-delta _ _ 0 2 0 3 3 _ _ _ _ _ _ delta-flipped).same_row false 1 (λ m l t. omega arith)

row-touched : (i64_rows false (falling 1) ≡ pos 100 ∷ pos 97 ∷ pos 96 ∷ pos 92 ∷ [])
    × (i64_rows false (falling 3) ≡ pos 100 ∷ pos 97 ∷ pos 94 ∷ pos 90 ∷ [])
unfolding told
row-touched = (refl, refl)
