-- From the check and the two ways of writing to the promise of the call. Assumes nothing.
use Rattle.std.specs.Prelude.{Some, None, Ok, Err}
use mathlib.Core.Path.{◌≡◌, refl, sym, ap, ◌∙◌}
use Prim.Native.Nat.{ℕ, ◌+◌, ◌*◌, ◌/◌}
use mathlib.Core.Bool.{Bool, true, false}
use mathlib.Core.List.{List}
use lib.ListN.{length}
use lib.Dec.{leb}
use lib.IntN.{ℤ}
use Rattle.format.specs.Fields.{pick}
use Rattle.format.specs.Runs.{joined}
use Rattle.format.specs.Answers.{refusing}
use Rattle.format.proofs.Tests.{never}
use Rattle.planner.specs.declared.Columned.{Columned}
use Rattle.planner.specs.declared.ColumnRuns.TheVariants as answer
use Rattle.planner.specs.Check.{Columns, segments, runs, accepted, wide, column, told, checked_as, Wrote}
use Rattle.planner.specs.Walk.{ColumnLaid, WideLaid}
use Rattle.planner.proofs.Direct.{wide-holds}

module _ (signed : Bool) (rows : List ℤ) (c : Columns) (room : ℕ) where
  -- what the check's answer says of the test
  pub was-accepted : (t : Columned) → Some t ≡ checked_as signed rows c room
      → (accepted signed rows c room ≡ true) × (t ≡ told (runs signed rows (segments c)))
  unfolding checked_as
  was-accepted t e = go (accepted signed rows c room) refl e
    where
      go : (b : Bool) → accepted signed rows c room ≡ b → Some t ≡ pick b (Some (told (runs signed rows (segments c)))) None
          → (accepted signed rows c room ≡ true) × (t ≡ told (runs signed rows (segments c)))
      go true f e = (f, cc)
      go false f e = never (cc)

  pub was-rejected : None ≡ checked_as signed rows c room → accepted signed rows c room ≡ false
  unfolding checked_as
  was-rejected e = go (accepted signed rows c room) refl e
    where
      go : (b : Bool) → accepted signed rows c room ≡ b → None ≡ pick b (Some (told (runs signed rows (segments c)))) None
          → accepted signed rows c room ≡ false
      go true f e = never (cc)
      go false f e = f

  -- the direct runs' test
  pub wide_test : (b : Bool) → b ≡ leb (2 * ((length rows + 511) / 512) + 8 * length rows) room → b ≡ leb (length (joined (wide signed rows))) room
  wide_test b e = e ∙ ap (λ (n : ℕ). leb n room) (sym (wide-holds signed rows).bytes)

module _ (signed : Bool) (rows : List ℤ) (c : Columns) (out out' : List ℕ) where
  pub wrote-planned : (t : Columned) → Some t ≡ checked_as signed rows c (length out)
      → ColumnLaid (runs signed rows (segments c)) out out' → Wrote signed rows c out out' (Ok (answer.Planned t))
  unfolding column
  wrote-planned t e l =
      let a = was-accepted signed rows c (length out) t e in
      record { answer = rw (a.0, a.1); places = rw a.0 l }

  pub wrote-direct : None ≡ checked_as signed rows c (length out) → leb (length (joined (wide signed rows))) (length out) ≡ true
      → (t : Columned) → WideLaid signed rows out out' t → Wrote signed rows c out out' (Ok (answer.Direct t))
  unfolding column
  wrote-direct e f t l = record {
    answer = rw (was-rejected signed rows c (length out) e, f, l.answer);
    places = rw (was-rejected signed rows c (length out) e, f) l.places;
  }

  pub wrote-eight : None ≡ checked_as signed rows c (length out) → leb (length (joined (wide signed rows))) (length out) ≡ false
      → out' ≡ out → Wrote signed rows c out out' (Err (refusing 8 0))
  unfolding column
  wrote-eight e f o = record {
    answer = rw (was-rejected signed rows c (length out) e, f);
    places = rw (was-rejected signed rows c (length out) e, f) o;
  }
