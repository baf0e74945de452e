use Rattle.std.specs.Prelude.{Ok}
use Prim.Native.Nat.{◌-◌}
use mathlib.Core.Path.{◌≡◌, ◌∙◌, ap}
use mathlib.Core.List.{[], ◌++◌}
use Rattle.format.specs.Parse.{parse}
use Rattle.format.specs.Promises.{Gives}
use lib.ListN.{length, take, drop, drop_of_length-le}
use Rattle.format.proofs.Below.{below_all}
use Rattle.util.proofs.Grow.{rest-is}
use Rattle.rle_v2.proofs.OneRun.{OneRun, NoRun, Step, fits}
use Rattle.rle_v2.proofs.StreamPlaces.{walked-first, walked_step, walked-run, back-refused, back-ended, walked_whole, walked-refused}
use native.Mathlib.Omega.{arith}
use Rattle.rle_v2.proofs.read_stream.Goals as goal

pub overflow_add-k : goal.overflow_add-k
overflow_add-k c =
    let given : (let l = c.loop-p in let a = c.args in
    Gives l.p (length a.input.now - l.p) a.signed (parse (drop l.p a.input.now)) (drop l.k l.out) c.read_run-a.new.out c.read_run-a.result) = let l = c.loop-p in rw (rest-is l.out l.k) at c.read_run-a.ensures in
    let step : (let l = c.loop-p in let a = c.args in
    Step a.input.now l.p (length a.out.now - l.k) c.read_run-a.result) = walked_step c.loop-p.invariant (given) (below_all 256 c.args.input.now (λ i. (c.shared_slice_known-1.given i).fits)) in
    let ran-is : (let l = c.loop-p in let a = c.args in
    OneRun a.input.now l.p (length a.out.now - l.k) c.in-Ok-Some.r) = rw (c.in-Ok-Some.is ∙ ap Ok (rw c.in-Ok-Some.is at c.in-Ok-Some.field-0-is)) at (step) in
    omega (arith, fits _ (ran-is), c.loop-p.invariant.counted.fits)

pub overflow_add-p : goal.overflow_add-p
overflow_add-p c =
    let given : (let l = c.loop-p in let a = c.args in
    Gives l.p (length a.input.now - l.p) a.signed (parse (drop l.p a.input.now)) (drop l.k l.out) c.read_run-a.new.out c.read_run-a.result) = let l = c.loop-p in rw (rest-is l.out l.k) at c.read_run-a.ensures in
    let step : (let l = c.loop-p in let a = c.args in
    Step a.input.now l.p (length a.out.now - l.k) c.read_run-a.result) = walked_step c.loop-p.invariant (given) (below_all 256 c.args.input.now (λ i. (c.shared_slice_known-1.given i).fits)) in
    let ran-is : (let l = c.loop-p in let a = c.args in
    OneRun a.input.now l.p (length a.out.now - l.k) c.in-Ok-Some.r) = rw (c.in-Ok-Some.is ∙ ap Ok (rw c.in-Ok-Some.is at c.in-Ok-Some.field-0-is)) at (step) in
    omega (arith, ran-is.within)

pub loop-p-smaller : goal.loop-p-smaller
loop-p-smaller c =
    let given : (let l = c.loop-p in let a = c.args in
    Gives l.p (length a.input.now - l.p) a.signed (parse (drop l.p a.input.now)) (drop l.k l.out) c.read_run-a.new.out c.read_run-a.result) = let l = c.loop-p in rw (rest-is l.out l.k) at c.read_run-a.ensures in
    let step : (let l = c.loop-p in let a = c.args in
    Step a.input.now l.p (length a.out.now - l.k) c.read_run-a.result) = walked_step c.loop-p.invariant (given) (below_all 256 c.args.input.now (λ i. (c.shared_slice_known-1.given i).fits)) in
    let ran-is : (let l = c.loop-p in let a = c.args in
    OneRun a.input.now l.p (length a.out.now - l.k) c.in-Ok-Some.r) = rw (c.in-Ok-Some.is ∙ ap Ok (rw c.in-Ok-Some.is at c.in-Ok-Some.field-0-is)) at (step) in
    let o = ran-is in omega (arith, o.within, o.some_bytes)

pub loop-p-preserved : goal.loop-p-preserved
loop-p-preserved c =
    let given : (let l = c.loop-p in let a = c.args in
    Gives l.p (length a.input.now - l.p) a.signed (parse (drop l.p a.input.now)) (drop l.k l.out) c.read_run-a.new.out c.read_run-a.result) = let l = c.loop-p in rw (rest-is l.out l.k) at c.read_run-a.ensures in
    let step : (let l = c.loop-p in let a = c.args in
    Step a.input.now l.p (length a.out.now - l.k) c.read_run-a.result) = walked_step c.loop-p.invariant (given) (below_all 256 c.args.input.now (λ i. (c.shared_slice_known-1.given i).fits)) in
    let ran-is : (let l = c.loop-p in let a = c.args in
    OneRun a.input.now l.p (length a.out.now - l.k) c.in-Ok-Some.r) = rw (c.in-Ok-Some.is ∙ ap Ok (rw c.in-Ok-Some.is at c.in-Ok-Some.field-0-is)) at (step) in
    walked-run c.loop-p.invariant (given) c.loop-p-test.true (ran-is)

pub shape_of-out-in-Err : goal.shape_of-out-in-Err
shape_of-out-in-Err c =
    let given : (let l = c.loop-p in let a = c.args in
    Gives l.p (length a.input.now - l.p) a.signed (parse (drop l.p a.input.now)) (drop l.k l.out) c.read_run-a.new.out c.read_run-a.result) = let l = c.loop-p in rw (rest-is l.out l.k) at c.read_run-a.ensures in
    let step : (let l = c.loop-p in let a = c.args in
    Step a.input.now l.p (length a.out.now - l.k) c.read_run-a.result) = walked_step c.loop-p.invariant (given) (below_all 256 c.args.input.now (λ i. (c.shared_slice_known-1.given i).fits)) in
    let refused-is : (let l = c.loop-p in let a = c.args in
    NoRun a.input.now l.p (length a.out.now - l.k) c.in-Err.f) = rw c.in-Err.is at (step) in
    let same-refused : (let l = c.loop-p in
    take l.k l.out ++ (c.read_run-a.new.out ++ drop (length l.out - l.k) (drop l.k l.out)) ≡ l.out) = back-refused c.loop-p.invariant (given) (refused-is) in
    ap length (same-refused) ∙ c.loop-p.invariant.long

pub returns-in-Err : goal.returns-in-Err
returns-in-Err c =
    let given : (let l = c.loop-p in let a = c.args in
    Gives l.p (length a.input.now - l.p) a.signed (parse (drop l.p a.input.now)) (drop l.k l.out) c.read_run-a.new.out c.read_run-a.result) = let l = c.loop-p in rw (rest-is l.out l.k) at c.read_run-a.ensures in
    let step : (let l = c.loop-p in let a = c.args in
    Step a.input.now l.p (length a.out.now - l.k) c.read_run-a.result) = walked_step c.loop-p.invariant (given) (below_all 256 c.args.input.now (λ i. (c.shared_slice_known-1.given i).fits)) in
    let refused-is : (let l = c.loop-p in let a = c.args in
    NoRun a.input.now l.p (length a.out.now - l.k) c.in-Err.f) = rw c.in-Err.is at (step) in
    let same-refused : (let l = c.loop-p in
    take l.k l.out ++ (c.read_run-a.new.out ++ drop (length l.out - l.k) (drop l.k l.out)) ≡ l.out) = back-refused c.loop-p.invariant (given) (refused-is) in
    rw (c.new-in-Err.ensures, same-refused) (walked-refused c.loop-p.invariant (refused-is))

pub shape_of-out-in-Ok-None : goal.shape_of-out-in-Ok-None
shape_of-out-in-Ok-None c =
    let given : (let l = c.loop-p in let a = c.args in
    Gives l.p (length a.input.now - l.p) a.signed (parse (drop l.p a.input.now)) (drop l.k l.out) c.read_run-a.new.out c.read_run-a.result) = let l = c.loop-p in rw (rest-is l.out l.k) at c.read_run-a.ensures in
    let step : (let l = c.loop-p in let a = c.args in
    Step a.input.now l.p (length a.out.now - l.k) c.read_run-a.result) = walked_step c.loop-p.invariant (given) (below_all 256 c.args.input.now (λ i. (c.shared_slice_known-1.given i).fits)) in
    let ended_is : (let l = c.loop-p in let a = c.args in
    drop l.p a.input.now ≡ []) = rw (c.in-Ok-None.is ∙ ap Ok (rw c.in-Ok-None.is at c.in-Ok-None.field-0-is)) at (step) in
    let same_ended : (let l = c.loop-p in
    take l.k l.out ++ (c.read_run-a.new.out ++ drop (length l.out - l.k) (drop l.k l.out)) ≡ l.out) = back-ended c.loop-p.invariant (given) (ended_is) in
    ap length (same_ended) ∙ c.loop-p.invariant.long

pub returns-in-Ok-None : goal.returns-in-Ok-None
returns-in-Ok-None c =
    let given : (let l = c.loop-p in let a = c.args in
    Gives l.p (length a.input.now - l.p) a.signed (parse (drop l.p a.input.now)) (drop l.k l.out) c.read_run-a.new.out c.read_run-a.result) = let l = c.loop-p in rw (rest-is l.out l.k) at c.read_run-a.ensures in
    let step : (let l = c.loop-p in let a = c.args in
    Step a.input.now l.p (length a.out.now - l.k) c.read_run-a.result) = walked_step c.loop-p.invariant (given) (below_all 256 c.args.input.now (λ i. (c.shared_slice_known-1.given i).fits)) in
    let ended_is : (let l = c.loop-p in let a = c.args in
    drop l.p a.input.now ≡ []) = rw (c.in-Ok-None.is ∙ ap Ok (rw c.in-Ok-None.is at c.in-Ok-None.field-0-is)) at (step) in
    let same_ended : (let l = c.loop-p in
    take l.k l.out ++ (c.read_run-a.new.out ++ drop (length l.out - l.k) (drop l.k l.out)) ≡ l.out) = back-ended c.loop-p.invariant (given) (ended_is) in
    rw (c.new.ensures, same_ended) (walked_whole c.loop-p.invariant (ended_is))

pub returns : goal.returns
returns c =
    rw c.new-2.ensures (walked_whole c.loop-p.invariant (drop_of_length-le _ c.loop-p-test.false))

pub loop-p-init : goal.loop-p-init
loop-p-init c = walked-first _ _ _ _

pub shape_of-out : goal.shape_of-out
shape_of-out c = c.loop-p.invariant.long
