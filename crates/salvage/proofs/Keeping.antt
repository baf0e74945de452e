-- What the stream's measure says of a group's bytes is whether it is kept. Assumes nothing.
use Rattle.std.specs.Prelude.{Ok, Err}
use mathlib.Core.Path.{◌≡◌, refl, ap, ◌∙◌}
use Prim.Native.Nat.{ℕ, zero, suc, ◌-◌, ◌<◌}
use native.Mathlib.Omega.{arith}
use mathlib.Core.Bool.{false}
use mathlib.Core.List.{List, [], ◌∷◌}
use lib.ListN.{length}
use lib.Dec.{eqb}
use borrow.Author.Tests.{ne_eqb}
use Rattle.format.specs.declared.Counts.{Counts}
use Rattle.format.specs.declared.Stopped.{Stopped}
use Rattle.format.specs.Digits.{AllBelow}
use Rattle.format.specs.Fields.{two64}
use Rattle.format.specs.Answers.{stream_rows}
use Rattle.format.specs.Promises.{stream_answer}
use Rattle.format.specs.Streams.{Reading, whole, broken, read_all, runs_from, stream, total_rows}
use Rattle.format.proofs.Tests.{never}
use Rattle.salvage.specs.Salvage.{kept_of, kept}
use Rattle.salvage.specs.Steps.{group}
use Rattle.salvage.proofs.Grouping.{kept_by}

pub kept-empty : (n : ℕ) (bs : List ℕ) → length bs ≡ 0 → eqb n 0 ≡ kept (group bs n)
unfolding kept stream read_all runs_from total_rows
kept-empty zero [] e = refl
kept-empty (suc n) [] e = ne_eqb (suc n) 0 (λ z. omega arith) ∙ (rw (ne_eqb 0 (suc n) (λ z. omega arith)))
kept-empty n (b ∷ bs) e = absurd (omega arith)

module _ (n : ℕ) (bs : List ℕ) (h : AllBelow 256 bs) (l : n < two64) where
  pub kept_whole : (c : Counts) → stream_answer 0 (read_all (two64 - 1) bs) ≡ Ok c → eqb c.rows.rows n ≡ kept (group bs n)
  kept_whole c e = go (read_all (two64 - 1) bs) e ∙ kept_by n (two64 - 1) bs h (omega arith)
    where
      go : (m : Reading) → stream_answer 0 m ≡ Ok c → eqb c.rows.rows n ≡ kept_of n m
      go (whole ds) f = rw (← (ap stream_rows f))
      go (broken ds r rest) f = never (cc)

  pub kept-refused : (s : Stopped) → stream_answer 0 (read_all (two64 - 1) bs) ≡ Err s → false ≡ kept (group bs n)
  kept-refused s e = go (read_all (two64 - 1) bs) e ∙ kept_by n (two64 - 1) bs h (omega arith)
    where
      go : (m : Reading) → stream_answer 0 m ≡ Err s → false ≡ kept_of n m
      go (whole ds) g = never (cc)
      go (broken ds r rest) g = refl
