-- What the code and the theorems of the reader in parts share. Assumes nothing.
use Rattle.format.proofs.Common.{◌≡◌, sym, ◌∙◌, ℕ, ◌<◌, ◌≤◌, min, dec_lt, arith, List, length, take, take_all, le-ltb}
use Rattle.format.specs.declared.Standing.{Standing}
use Rattle.format.specs.declared.Standing.TheVariants.{Opened}
use Rattle.format.specs.Digits.{AllBelow}
use Rattle.format.specs.Runs.{Description}
use Rattle.format.specs.Parse.{Parsed, parse, into}
use Rattle.format.specs.Parts.{Reply, unless_stopped, in_places}
use Rattle.format.proofs.Runs.{Outcome, nothing, run, refusal, outcome}
use Rattle.format.proofs.Rows.{row-bounds}
use Rattle.format.proofs.Streams.{into-end, into-got, into-refused}

-- 512 places are room for every run
pub into-all : (n : ℕ) (bs : List ℕ) → AllBelow 256 bs → 512 ≤ n → into n (parse bs) ≡ parse bs
into-all n bs h l = go (outcome bs h)
  where
    go : {m : Parsed Description} → Outcome bs m → into n m ≡ m
    go (nothing z) = into-end n
    go (run {d} {rest} t) = into-got n d rest (omega (arith, (row-bounds d t.ok).1))
    go (refusal {r} z) = into-refused n r

-- an open reader with room goes on
pub goes_on : {A : Type 0} (places : ℕ) (t : Standing) (f : Reply → A) (a : A) → 512 ≤ places → t ≡ Opened → in_places places t f a ≡ a
unfolding in_places unless_stopped
goes_on places t f a h e = rw (le-ltb places 512 h, e)

-- a number of bytes held above those lent means all that are lent
pub take_min : (n : ℕ) (l : List ℕ) → take (min n (length l)) l ≡ take n l
take_min n l = go (dec_lt n (length l))
  where
    go : Dec (n < length l) → take (min n (length l)) l ≡ take n l
    go (yes h) =
        let e : min n (length l) ≡ n = omega arith in
        rw e
    go (no h) = take_all (min n (length l)) l (omega arith) ∙ sym (take_all n l (omega arith))
