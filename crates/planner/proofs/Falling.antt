-- The direct runs of 64 bits, laid as a proposal: the check accepts it, and its runs are those. Assumes nothing.
use mathlib.Core.Path.{◌≡◌, refl, sym, ap, ◌∙◌}
use Prim.Native.Nat.{ℕ, zero, suc, ◌+◌, ◌-◌, ◌*◌, ◌<◌, ◌≤◌, min}
use native.Mathlib.Omega.{arith}
use native.Mathlib.Nat.{le_refl}
use native.Mathlib.Decide.{dec_lt}
use mathlib.Core.Bool.{Bool, true, ◌&&◌}
use mathlib.Core.List.{List, [], ◌∷◌, map}
use lib.ListN.{length, take, drop, set, length-set, length-drop, length-take}
use lib.Seq.{length-take-le, drop-drop, get_or-take, get_or-set_same, get_or-set_other}
use lib.IntN.{ℤ}
use lib.Dec.{leb}
use borrow.Author.Tests.{eq-eqb, leb-true}
use Rattle.format.specs.declared.Form.TheVariants.{Direct}
use Rattle.format.specs.Rows.{as_u64}
use Rattle.format.specs.Parse.{got}
use Rattle.format.specs.Writing.{AllI64}
use Rattle.format.proofs.Writing.{written}
use Rattle.format.proofs.Tests.{both}
use Rattle.proposer.specs.Proposed.{Proposed}
use Rattle.planner.specs.declared.segment.Segment.{Segment}
use Rattle.planner.specs.Check.{Columns, proposal, segments, covers, any_run, write_in, run_of, parts, wide}
use Rattle.planner.specs.Laws.{Accept, none, more}
use Rattle.planner.specs.Walk.{segment_at}
use Rattle.planner.specs.Plan.{first_of, Sound, direct_runs, have_places, direct_at, DirectLaid}
use Rattle.planner.proofs.Segments.{segment-next, segment-none}
use Rattle.planner.proofs.Accepting.{covers-exactly}
use Rattle.planner.proofs.Direct.{fit-take, fit-drop, run, run-accepted, run-bytes}
use Rattle.planner.proofs.Widely.{take-least, no_part}
use Rattle.planner.proofs.Proposing.{first-equal}

-- ---- places for all

pub all-places : (n : ℕ) (c : Columns) → have_places n c ≡ true → Proposed c.starts c.counts c.forms c.widths c.bases n
all-places n c h =
    let s = leb n (length c.starts) in
    let t = leb n (length c.counts) in
    let f = leb n (length c.forms) in
    let w = leb n (length c.widths) in
    let b = leb n (length c.bases) in
    let p = both (s && t && f && w) b h in
    let q = both (s && t && f) w p.0 in
    let r = both (s && t) f q.0 in
    let o = both s t r.0 in
    record {
      in-first = leb-true n (length c.starts) o.0;
      in-counts = leb-true n (length c.counts) o.1;
      in-forms = leb-true n (length c.forms) r.1;
      in-widths = leb-true n (length c.widths) q.1;
      in-bases = leb-true n (length c.bases) p.1;
    }

-- ---- one after another into the places

module _ (rows : ℕ) (c : Columns) (k : ℕ) where
  pub laid_none : DirectLaid rows c 0
  laid_none j h = absurd (omega arith)

  pub laid_on : (n : ℕ) → k < n → Proposed c.starts c.counts c.forms c.widths c.bases n → DirectLaid rows c k
      → DirectLaid rows (proposal (set c.starts k (512 * k)) (set c.counts k (min 512 (rows - 512 * k))) (set c.forms k 1)
      (set c.widths k 31) (set c.bases k 0)) (k + 1)
  laid_on n h p d j l = go (dec_lt j k)
    where
      go : Dec (j < k) → segment_at (proposal (set c.starts k (512 * k)) (set c.counts k (min 512 (rows - 512 * k)))
          (set c.forms k 1) (set c.widths k 31) (set c.bases k 0)) j ≡ direct_at rows j
      go (yes m) =
          let z : (j ≡ k → ⊥) = λ e. omega (arith, m, e) in
          rw (
            get_or-set_other c.starts k j (512 * k) 0 z,
            get_or-set_other c.counts k j (min 512 (rows - 512 * k)) 0 z,
            get_or-set_other c.forms k j 1 0 z,
            get_or-set_other c.widths k j 31 0 z,
            get_or-set_other c.bases k j 0 0 z,
          )
          (d j m)
      go (no m) =
          let e : j ≡ k = omega (arith, m, l) in
          rw (
            e,
            get_or-set_same c.starts k (512 * k) 0 (omega (arith, h, p.in-first)),
            get_or-set_same c.counts k (min 512 (rows - 512 * k)) 0 (omega (arith, h, p.in-counts)),
            get_or-set_same c.forms k 1 0 (omega (arith, h, p.in-forms)),
            get_or-set_same c.widths k 31 0 (omega (arith, h, p.in-widths)),
            get_or-set_same c.bases k 0 0 (omega (arith, h, p.in-bases)),
          )

-- k of them stand there, and the columns are as long as they were
pub record Laying (rows runs : ℕ) (c₀ c : Columns) (k : ℕ) : Type 0 where
  pub few : k ≤ runs
  pub starts : length c.starts ≡ length c₀.starts
  pub counts : length c.counts ≡ length c₀.counts
  pub forms : length c.forms ≡ length c₀.forms
  pub widths : length c.widths ≡ length c₀.widths
  pub bases : length c.bases ≡ length c₀.bases
  pub laid : DirectLaid rows c k

pub laying-first : (rows runs : ℕ) (c : Columns) → Laying rows runs c c 0
laying-first rows runs c = record { few = omega arith; starts = refl; counts = refl; forms = refl; widths = refl; bases = refl; laid = laid_none rows c 0 }

-- columns that are as long have as many places
module _ (c₀ c : Columns) (n : ℕ) (p : Proposed c₀.starts c₀.counts c₀.forms c₀.widths c₀.bases n) where
  pub same-places : length c.starts ≡ length c₀.starts → length c.counts ≡ length c₀.counts → length c.forms ≡ length c₀.forms
      → length c.widths ≡ length c₀.widths → length c.bases ≡ length c₀.bases → Proposed c.starts c.counts c.forms c.widths c.bases n
  same-places s t f w b = record {
    in-first = omega (arith, s, p.in-first);
    in-counts = omega (arith, t, p.in-counts);
    in-forms = omega (arith, f, p.in-forms);
    in-widths = omega (arith, w, p.in-widths);
    in-bases = omega (arith, b, p.in-bases);
  }

module _ (rows runs : ℕ) (c₀ c : Columns) (k : ℕ) (l : Laying rows runs c₀ c k) (h : k < runs)
    (p : Proposed c₀.starts c₀.counts c₀.forms c₀.widths c₀.bases runs) where
  -- there are places for the next
  pub next-places : Proposed c.starts c.counts c.forms c.widths c.bases runs
  next-places = same-places c₀ c runs p l.starts l.counts l.forms l.widths l.bases

  pub laying-on : (row count : ℕ) → row ≡ 512 * k → count ≡ min 512 (rows - row)
      → Laying rows runs c₀
      (proposal (set c.starts k row) (set c.counts k count) (set c.forms k 1) (set c.widths k 31) (set c.bases k 0))
      (k + 1)
  laying-on row count e f = record {
    few = omega arith;
    starts = length-set c.starts k row ∙ l.starts;
    counts = length-set c.counts k count ∙ l.counts;
    forms = length-set c.forms k 1 ∙ l.forms;
    widths = length-set c.widths k 31 ∙ l.widths;
    bases = length-set c.bases k 0 ∙ l.bases;
    laid = rw (f, e) (laid_on rows c k runs h next-places l.laid);
  }

-- ---- accepted

first-direct : (fuel : ℕ) (l : List ℤ) → 0 < length l → length l ≤ fuel → parts fuel l ≡ take 512 l ∷ parts (fuel - 1) (drop 512 l)
unfolding parts
first-direct fuel [] h m = absurd (omega arith)
first-direct zero (z ∷ l) h m = absurd (omega arith)
first-direct (suc fuel) (z ∷ l) h m = let e : suc fuel - 1 ≡ fuel = omega arith in rw e refl

module _ (signed : Bool) (rows : List ℤ) (i : AllI64 rows) (c : Columns) (n : ℕ) (e : n ≡ direct_runs (length rows))
    (l : length c.starts ≡ n) (d : DirectLaid (length rows) c n) where
  next : (k : ℕ) → k < n → drop k (segments c) ≡ direct_at (length rows) k ∷ drop (k + 1) (segments c)
  next k h = segment-next c k (omega (arith, h, l)) ∙ ap (λ (s : Segment). s ∷ drop (k + 1) (segments c)) (d k h)

  covered : (m k : ℕ) → k + m ≡ n → covers (length rows) (min (length rows) (512 * k)) (drop k (segments c)) ≡ true
  unfolding covers
  covered zero k h = rw (segment-none c k (omega (arith, h, l))) (eq-eqb (min (length rows) (512 * k)) (length rows) (omega (arith, e, h)))
  covered (suc m) k h =
      let z : min (length rows) (512 * k) ≡ 512 * k = omega (arith, e, h) in
      let y : 512 * k + min 512 (length rows - 512 * k) ≡ min (length rows) (512 * (k + 1)) = omega (arith, e, h) in
      rw (next k (omega arith), z, eq-eqb (512 * k) (512 * k) refl, y) (covered m (k + 1) (omega arith))

  module _ (k : ℕ) (h : k < n) where
    part-is : take (min 512 (length rows - 512 * k)) (drop (512 * k) rows) ≡ take 512 (drop (512 * k) rows)
    part-is = sym (take-least (drop (512 * k) rows) ∙ ap (λ (x : ℕ). take (min 512 x) (drop (512 * k) rows)) (length-drop (512 * k) rows))

    the-run : run_of signed rows (direct_at (length rows) k) ≡ got (run signed (take 512 (drop (512 * k) rows))) []
    unfolding write_in run
    the-run =
        let part = take 512 (drop (512 * k) rows) in
        let m = length-take 512 (drop (512 * k) rows) in
        let o = length-drop (512 * k) rows in
        let fits : length part ≤ 512 = omega (arith, m) in
        rw part-is
        (written signed Direct 31 (map as_u64 part) any_run
        (run-accepted signed part (omega (arith, m, o, e, h)) fits (fit-take 512 (drop (512 * k) rows) (fit-drop (512 * k) rows i)))
        (omega (arith, run-bytes signed part, fits)))

  accepts : (m k fuel : ℕ) → k + m ≡ n → length rows - 512 * k ≤ fuel
      → Accept signed rows (drop k (segments c)) (map (run signed) (parts fuel (drop (512 * k) rows)))
  accepts zero k fuel h f =
      rw (segment-none c k (omega (arith, h, l)), no_part fuel (drop (512 * k) rows) (omega (arith, length-drop (512 * k) rows, e, h))) none
  accepts (suc m) k fuel h f =
      let o = length-drop (512 * k) rows in
      let z : 512 * k + 512 ≡ 512 * (k + 1) = omega arith in
      rw (next k (omega arith), first-direct fuel (drop (512 * k) rows) (omega (arith, o, e, h)) (omega (arith, o, f)), drop-drop 512 (512 * k) rows, z)
      (more (the-run k (omega arith)) (accepts m (k + 1) (fuel - 1) (omega arith) (omega (arith, f, e, h))))

-- the first n of the columns
pub direct-sound : (signed : Bool) (rows : List ℤ) (c : Columns) (n : ℕ) → AllI64 rows → n ≡ direct_runs (length rows)
    → Proposed c.starts c.counts c.forms c.widths c.bases n → DirectLaid (length rows) c n → Sound signed rows c n
unfolding wide run
direct-sound signed rows c n i e p d =
    let l = length-take-le n c.starts p.in-first in
    let q : DirectLaid (length rows) (first_of n c) n = λ k h. rw (
      get_or-take n c.starts k 0 h,
      get_or-take n c.counts k 0 h,
      get_or-take n c.forms k 0 h,
      get_or-take n c.widths k 0 h,
      get_or-take n c.bases k 0 h,
    ) (d k h) in
    let z : min (length rows) (512 * 0) ≡ 0 = omega arith in
    record {
      runs = wide signed rows;
      places = p;
      accepted = record {
        equal = first-equal signed rows c n p;
        covering = (covers-exactly (length rows) (segments (first_of n c))).0 (rw z at (covered signed rows i (first_of n c) n e l q n 0 (omega arith)));
        writers = accepts signed rows i (first_of n c) n e l q n 0 (length rows) (omega arith) (omega arith);
        fits = le_refl _;
      };
    }
