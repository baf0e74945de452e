use Rattle.std.specs.Prelude.{Some, None, Ok, Err}
use mathlib.Core.Path.{◌≡◌, ◌∙◌, ap}
use Prim.Native.Nat.{◌-◌}
use native.Mathlib.Omega.{arith}
use mathlib.Core.List.{List, [], ◌++◌}
use lib.ListN.{length, take, drop}
use Rattle.format.specs.Digits.{AllBelow}
use Rattle.format.specs.Promises.{RunRead}
use Rattle.format.specs.Streams.{whole, stream}
use Rattle.format.specs.Answers.{Answer}
use Rattle.format.specs.declared.Refusal.{Refusal}
use Rattle.format.specs.declared.Run.{Run}
use Rattle.format.proofs.Below.{below_all}
use Rattle.format.proofs.Reading.{NoRun}
use Rattle.util.proofs.Grow.{rest-is}
use Rattle.batches.specs.BatchSteps.{RunPart}
use Rattle.batches.proofs.RowPositions.{row_position}
use Rattle.batches.proofs.RunAtByte.{Turn, Fits, Stops}
use Rattle.batches.proofs.RunsWalk.{walked-first, turn_is, same-places, walked-run, walked-full, walked_end, walked-broken}
use Rattle.batches.proofs.RunsWalk.{cut_holds, cut-few, walked-cut}
use Rattle.batches.proofs.BatchReads.{batch-long}
use Rattle.batches.proofs.read_runs.Goals.{After-read_run-a, After-read_part-last, In-Ok-Some, In-Ok-None}
use Rattle.batches.proofs.read_runs.Goals as goal

-- ---- what the run reader answers, and what it leaves
reading : (c : After-read_run-a) → (let l = c.loop-k in let a = c.args in
    RunRead a.input.now l.p a.signed (drop l.k l.out) c.read_run-a.new.out c.read_run-a.result)
reading c = let l = c.loop-k in rw (rest-is l.out l.k) at c.read_run-a.ensures

turn-here : (c : After-read_run-a) → Turn c.args.input.now c.loop-k.p (length c.args.out.now - c.loop-k.k) c.read_run-a.result
turn-here c = turn_is c.loop-k.invariant (reading c) (below_all 256 c.args.input.now (λ i. (c.type_inv.input i).fits))

some-is : (c : In-Ok-Some) → c.read_run-a.result ≡ Ok (Some c.in-Ok-Some.r)
some-is c = c.in-Ok-Some.is ∙ ap Ok (rw c.in-Ok-Some.is at c.in-Ok-Some.field-0-is)

none-is : (c : In-Ok-None) → c.read_run-a.result ≡ Ok None
none-is c = c.in-Ok-None.is ∙ ap Ok (rw c.in-Ok-None.is at c.in-Ok-None.field-0-is)

fits : (c : After-read_run-a) {r : Run} → c.read_run-a.result ≡ Ok (Some r)
    → Fits c.args.input.now c.loop-k.p (length c.args.out.now - c.loop-k.k) r
fits c e = rw e at (turn-here c)

stops : (c : After-read_run-a) {f : Refusal} → c.read_run-a.result ≡ Err f
    → Stops c.args.input.now c.loop-k.p (length c.args.out.now - c.loop-k.k) f
stops c e = rw e at (turn-here c)

same : (c : After-read_run-a) → NoRun c.read_run-a.result
    → (let l = c.loop-k in take l.k l.out ++ (c.read_run-a.new.out ++ drop (length l.out - l.k) (drop l.k l.out))) ≡ c.loop-k.out
same c u = same-places c.loop-k.invariant (reading c) u

part-is : (c : After-read_part-last)
    → (let l = c.loop-k in take l.k l.out ++ (c.read_run-a.new.out ++ drop (length l.out - l.k) (drop l.k l.out))) ≡ c.loop-k.out
    → (let l = c.loop-k in let a = c.args in
    RunPart a.input.now (row_position l.p 0) a.signed (drop l.k l.out) c.read_part-last.new.out c.read_part-last.result)
part-is c e = let l = c.loop-k in rw (e, rest-is l.out l.k) at c.read_part-last.ensures

-- ---- one run more
pub overflow_add-k : goal.overflow_add-k
overflow_add-k c =
    let o = fits (goal.at.overflow_add-k c).After-read_run-a (some-is (goal.at.overflow_add-k c).In-Ok-Some) in omega (arith, o.fits, o.ran.rows_are, c.loop-k.invariant.few)

pub overflow_add-p : goal.overflow_add-p
overflow_add-p c =
    let o = fits (goal.at.overflow_add-p c).After-read_run-a (some-is (goal.at.overflow_add-p c).In-Ok-Some) in omega (arith, o.ran.bytes-are, o.ran.stands.within)

pub loop-k-smaller : goal.loop-k-smaller
loop-k-smaller c =
    let o = fits (goal.at.loop-k-smaller c).After-read_run-a (some-is (goal.at.loop-k-smaller c).In-Ok-Some) in
    omega (arith, o.ran.bytes-are, o.ran.stands.within, o.ran.stands.some_bytes)

pub loop-k-preserved : goal.loop-k-preserved
loop-k-preserved c =
    let b = (goal.at.loop-k-preserved c).After-read_run-a in walked-run c.loop-k.invariant (reading b) (fits b (some-is (goal.at.loop-k-preserved c).In-Ok-Some))

pub offset_bounds-out-k-then-f-eq8 : goal.offset_bounds-out-k-then-f-eq8
offset_bounds-out-k-then-f-eq8 c = let w = c.loop-k.invariant in omega (arith, w.few, w.long)

-- ---- the last run is cut
pub read_part-last-requires : goal.read_part-last-requires
read_part-last-requires c =
    let q = stops (goal.at.read_part-last-requires c).After-read_run-a c.in-Err.is in cut_holds c.loop-k.invariant (q.cut (omega arith))

pub after-requires : goal.after-requires
after-requires c =
    let b = (goal.at.after-requires c).After-read_run-a in
    let q = stops b c.in-Err.is in
    let e = same b (rw c.in-Err.is tt) in
    let part = part-is (goal.at.after-requires c).After-read_part-last e in
    let few = cut-few c.loop-k.invariant (q.cut (omega arith)) part in
    omega (arith, few, c.loop-k.invariant.long)

pub shape_of-out-then-f-eq8 : goal.shape_of-out-then-f-eq8
shape_of-out-then-f-eq8 c =
    let b = (goal.at.shape_of-out-then-f-eq8 c).After-read_run-a in
    let q = stops b c.in-Err.is in
    let e = same b (rw c.in-Err.is tt) in
    let part = part-is (goal.at.shape_of-out-then-f-eq8 c).After-read_part-last e in
    rw e (batch-long (walked-cut c.loop-k.invariant (q.cut (omega arith)) part))

pub returns-then-f-eq8 : goal.returns-then-f-eq8
returns-then-f-eq8 c =
    let b = (goal.at.returns-then-f-eq8 c).After-read_run-a in
    let q = stops b c.in-Err.is in
    let e = same b (rw c.in-Err.is tt) in
    let part = part-is (goal.at.returns-then-f-eq8 c).After-read_part-last e in
    rw (c.after.ensures, e) (walked-cut c.loop-k.invariant (q.cut (omega arith)) part)

pub slice_bounds-read_part-count : goal.slice_bounds-read_part-count
slice_bounds-read_part-count c =
    let e = same (goal.at.slice_bounds-read_part-count c).After-read_run-a (rw c.in-Err.is tt) in
    let w = c.loop-k.invariant in
    omega (arith, ap length e, w.few, w.long)

pub slice_bounds-read_part-start : goal.slice_bounds-read_part-start
slice_bounds-read_part-start c =
    let e = same (goal.at.slice_bounds-read_part-start c).After-read_run-a (rw c.in-Err.is tt) in
    let w = c.loop-k.invariant in
    omega (arith, ap length e, w.few, w.long)

-- ---- the batch ends: at a refused run, at the end, or because every place is filled
pub returns-in-Err : goal.returns-in-Err
returns-in-Err c =
    let b = (goal.at.returns-in-Err c).After-read_run-a in
    let e = same b (rw c.in-Err.is tt) in
    let z : c.in-Err.f.number ≡ 8 → ⊥ = λ e. omega (arith, e) in
    rw (c.up_to-in-Err.ensures, e) (walked-broken c.loop-k.invariant (stops b c.in-Err.is) z)

pub returns-in-Ok-None : goal.returns-in-Ok-None
returns-in-Ok-None c =
    let b = (goal.at.returns-in-Ok-None c).After-read_run-a in
    let n = (none-is (goal.at.returns-in-Ok-None c).In-Ok-None) in
    let z : stream (drop c.loop-k.p c.args.input.now) ≡ whole [] = rw n at (turn-here b) in
    rw (c.up_to.ensures, same b (rw n tt)) (walked_end c.loop-k.invariant z)

pub shape_of-out-in-Err : goal.shape_of-out-in-Err
shape_of-out-in-Err c =
    ap length (same (goal.at.shape_of-out-in-Err c).After-read_run-a (rw c.in-Err.is tt)) ∙ c.loop-k.invariant.long

pub shape_of-out-in-Ok-None : goal.shape_of-out-in-Ok-None
shape_of-out-in-Ok-None c =
    ap length (same (goal.at.shape_of-out-in-Ok-None c).After-read_run-a (rw (none-is (goal.at.shape_of-out-in-Ok-None c).In-Ok-None) tt)) ∙ c.loop-k.invariant.long

pub returns : goal.returns
returns c =
    rw c.up_to-2.ensures (walked-full c.loop-k.invariant (below_all 256 _ (λ i. (c.type_inv.input i).fits)) c.loop-k-test.false)

pub loop-k-init : goal.loop-k-init
loop-k-init c = walked-first _ _ _ _

pub shape_of-out : goal.shape_of-out
shape_of-out c = c.loop-k.invariant.long
