-- A refusal by words. Assumes nothing.
use mathlib.Core.Path.{◌≡◌}
use mathlib.Core.Logic.{◌≢◌}
use Prim.Native.Nat.{ℕ, ◌-◌}
use mathlib.Core.Bool.{Bool, true, false}
use mathlib.Core.List.{List}
use lib.ListN.{length}
use lib.Dec.{eqb}
use lib.IntN.{ℤ}
use borrow.Author.Tests.{ne_eqb}
use Rattle.format.specs.Fields.{pick}
use Rattle.format.specs.Runs.{Description}
use Rattle.format.specs.Parse.{Parsed}
use Rattle.format.specs.Promises.{answer_of, Gives}
use Rattle.format.specs.Answers.{refused_at, cut_at}
use Rattle.format.proofs.Reading.{gives_none}
use Rattle.rle_v2.specs.RefusedBy.{refused_by}

module _ (at number field : ℕ) where
  pub by_field : field ≢ 0 → refused_by at number field ≡ cut_at number at field
  by_field z = rw (ne_eqb field 0 z)

  -- the answer to a run that is refused leaves the places as they were
  pub refused_none : (s : List ℕ) (m : Parsed Description) (signed : Bool) (out : List ℤ) → refused_by at number field ≡ answer_of at (length s - at) m
      → Gives at (length s - at) signed m out out (refused_by at number field)
  refused_none s m signed out e = by (eqb field 0) e
    where
      by : (t : Bool) → pick t (refused_at number at) (cut_at number at field) ≡ answer_of at (length s - at) m
          → Gives at (length s - at) signed m out out (pick t (refused_at number at) (cut_at number at field))
      by true e = gives_none at (length s - at) signed m out _ tt e
      by false e = gives_none at (length s - at) signed m out _ tt e
