-- What the planner proposes is sound, since it has passed the check; and what follows of a sound proposal. Assumes nothing.
use Rattle.std.specs.Prelude.{Option, Some}
use mathlib.Core.Path.{◌≡◌, refl, sym, ap}
use Prim.Native.Nat.{ℕ, zero, suc, ◌+◌, ◌*◌, ◌/◌, ◌<◌, ◌≤◌}
use native.Mathlib.Omega.{arith}
use mathlib.Core.Bool.{Bool, true, false}
use mathlib.Core.List.{List}
use lib.ListN.{length}
use lib.Seq.{length-take-le}
use lib.IntN.{ℤ}
use lib.Dec.{ltb}
use borrow.Author.Tests.{eq-eqb, ltb-false}
use Rattle.format.specs.Runs.{Description, joined}
use Rattle.format.proofs.Tests.{never}
use Rattle.proposer.specs.Proposed.{Proposed}
use Rattle.planner.specs.declared.Columned.{Columned}
use Rattle.planner.specs.Check.{Columns, equal_lengths, segments_from, wide, planned, told, checked_as}
use Rattle.planner.specs.Laws.{Accepted, as-planned, Checks, accepts, rejects}
use Rattle.planner.specs.Plan.{first_of, Sound, Proposes, no_rows, no-places, some, as-proposed, PlanHolds, PlanProposes, Kept}
use Rattle.planner.specs.Plan.{dropped, kept, Fallback, too_few, laid}
use Rattle.planner.proofs.Accepting.{check-exactly}
use Rattle.planner.proofs.Direct.{wide-holds}

-- in another room that holds the runs
module _ {signed : Bool} {rows : List ℤ} {c : Columns} {ds : List Description} where
  in-room : {room : ℕ} (other : ℕ) → Accepted signed rows c room ds → length (joined ds) ≤ other → Accepted signed rows c other ds
  in-room other a l = record { equal = a.equal; covering = a.covering; writers = a.writers; fits = l }

module _ (signed : Bool) (rows : List ℤ) (c : Columns) (k : ℕ) (p : Proposed c.starts c.counts c.forms c.widths c.bases k) where
  -- the first k of each column are as many
  pub first-equal : equal_lengths (first_of k c) ≡ true
  first-equal =
      rw (
        length-take-le k c.starts p.in-first,
        length-take-le k c.counts p.in-counts,
        length-take-le k c.forms p.in-forms,
        length-take-le k c.widths p.in-widths,
        length-take-le k c.bases p.in-bases,
        eq-eqb k k refl,
      )

  -- they are accepted, and have no more bytes than the direct runs
  pub proposes : (t : Columned) (room : ℕ) → Some t ≡ checked_as signed rows (first_of k c) room
      → ltb (2 * ((length rows + 511) / 512) + 8 * length rows) t.bytes.bytes ≡ false → Sound signed rows c k
  proposes t room e f = go (Some t) (((check-exactly signed rows (first_of k c) room).checks (Some t)).0 (sym e)) refl
    where
      go : (r : Option Columned) → Checks signed rows (first_of k c) room r → r ≡ Some t → Sound signed rows c k
      go r (accepts {ds} a) h =
          let b : told ds ≡ t = cc in
          let n : length (joined ds) ≡ t.bytes.bytes = ap (λ (x : Columned). x.bytes.bytes) b in
          let l = ltb-false (2 * ((length rows + 511) / 512) + 8 * length rows) t.bytes.bytes f in
          record { runs = ds; places = p; accepted = in-room (length (joined (wide signed rows))) a (omega (arith, n, (wide-holds signed rows).bytes, l)) }
      go r (rejects x) h = never (cc)

pub plan-holds : PlanHolds
plan-holds signed rows c k (no_rows e) h = absurd (h refl)
plan-holds signed rows c k (no-places e) h = absurd (h refl)
plan-holds signed rows c k (some o s) h =
    as-proposed s.runs s.accepted.fits
    (λ room l. ((check-exactly signed rows (first_of k c) room).writes (planned s.runs)).1 (as-planned (in-room room s.accepted l)))

-- no segments cover no rows
sound-some : (signed : Bool) (rows : List ℤ) (c : Columns) (k : ℕ) → 0 < length rows → Sound signed rows c k → 0 < k
unfolding segments_from
sound-some signed rows c zero o s = absurd (omega (arith, o, s.accepted.covering.ends))
sound-some signed rows c (suc k) o s = omega arith

pub plan-proposes : PlanProposes
plan-proposes signed rows c k (no_rows e) =
    record { for-rows = λ o h. absurd (omega (arith, o, e)); for-none = λ z. refl; when-none = λ z o. absurd (omega (arith, o, e)) }
plan-proposes signed rows c k (no-places e) = record { for-rows = λ o h. never (cc); for-none = λ z. refl; when-none = λ z o. e }
plan-proposes signed rows c k (some o s) = record {
  for-rows = λ u h. (sound-some signed rows c k o s, s);
  for-none = λ z. absurd (omega (arith, o, z));
  when-none = λ z u. absurd (omega (arith, z, sound-some signed rows c k o s));
}

-- the planner's answer: what is kept, or what it falls back to
pub falls-back : (signed : Bool) (rows : List ℤ) (c : Columns) (k : ℕ) → 0 < length rows → Fallback signed rows c k → Proposes signed rows c k
falls-back signed rows c k o (too_few e) = no-places e
falls-back signed rows c k o (laid s) = some o s

pub keeps : (signed : Bool) (rows : List ℤ) (c : Columns) (k : ℕ) → 0 < length rows → 0 < k → Kept signed rows c k → Proposes signed rows c k
keeps signed rows c k o h dropped = absurd (omega arith)
keeps signed rows c k o h (kept s) = some o s
