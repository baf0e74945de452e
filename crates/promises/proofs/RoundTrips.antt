-- The writer's round trips and its table. Assumes nothing.
use Rattle.format.proofs.Common.{◌≡◌, refl, Bool, true, false, not, ◌&&◌, [], map, length, length-map, ltb, ltb-true, ltb-false}
use Rattle.format.specs.Rows.{as_u64}
use Rattle.format.specs.Runs.{layout}
use Rattle.format.specs.Parse.{got, unless}
use Rattle.format.specs.Promises.{answer_of}
use Rattle.format.specs.Writing.{count_allowed, have_form, width_allowed, fit_width, described, writing}
use Rattle.format.proofs.Writing.{read-written, written-again}
use Rattle.promises.specs.RoundTrips.{ReadsBack, WritesAgain, Outcome, refusal-9, refusal-10, refusal-11, refusal-8, written, WriterTable}

pub reads-back : ReadsBack
reads-back rows signed form width out out' r h p ok places places' r' room q = read-written rows signed form width out out' r places places' r' h p ok room q

pub writes_again : WritesAgain
writes_again signed form width d v c out out' r room p = written-again signed form width d out out' r v c room p

pub writer-table : WriterTable
unfolding writing
writer-table rows signed form width out out' r p =
    rw p.answer
    (go (count_allowed form (length (map as_u64 rows))) (have_form form (map as_u64 rows) && width_allowed form width) (fit_width signed form width (map as_u64 rows))
    (ltb (length out) (length (layout (described signed form width (map as_u64 rows))))) refl refl refl refl)
  where
    go : (a b c e : Bool) → count_allowed form (length (map as_u64 rows)) ≡ a → (have_form form (map as_u64 rows) && width_allowed form width) ≡ b
        → fit_width signed form width (map as_u64 rows) ≡ c → ltb (length out) (length (layout (described signed form width (map as_u64 rows)))) ≡ e
        → Outcome rows signed form width out
        (answer_of 0 0 (unless (not a) 9
        (unless (not b) 10 (unless (not c) 11 (unless e 8 (got (described signed form width (map as_u64 rows)) []))))))
    go false b c e p q s t = refusal-9 (rw (length-map rows as_u64) at p)
    go true false c e p q s t = refusal-10 (rw (length-map rows as_u64) at p) q
    go true true false e p q s t = refusal-11 (rw (length-map rows as_u64) at p) q s
    go true true true true p q s t =
        refusal-8 (rw (length-map rows as_u64) at p) q s
        (ltb-true (length out) (length (layout (described signed form width (map as_u64 rows)))) t)
    go true true true false p q s t =
        written (rw (length-map rows as_u64) at p) q s
        (ltb-false (length out) (length (layout (described signed form width (map as_u64 rows)))) t)
