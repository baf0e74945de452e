use Rattle.rle_v2.proofs.Pass.{turn-first, turn-next, turn_last, written}
use Rattle.format.specs.Rows.{plus, as_i64}
use Prim.Native.Nat.{◌+◌, ◌^◌, ◌<◌}
use native.Mathlib.Nat.{add-zero, mod-eq_of_lt}
use lib.IntN.{pos}
use mathlib.Core.Path.{◌≡◌, sym}
use mir.Val.{to_z, of_z}
use mir.Syntax.{w64}
use native.Mathlib.Omega.{arith}
use Rattle.rle_v2.proofs.rows.repeat.Goals as goal

pub loop-i-init : goal.loop-i-init
loop-i-init c = record { done = omega arith; turn = turn-first _ _ _ _ }

pub loop-i-preserved : goal.loop-i-preserved
loop-i-preserved c =
    let row_is : to_z w64 (of_z w64 c.cast_signed-row.result) ≡ as_i64 c.args.value = written _ _ (omega arith) (omega arith) c.cast_signed-row.ensures in
    let again : c.args.value ≡ plus c.args.value 0 = let f : c.args.value < 2 ^ 64 = c.ranges.value.fits in sym (rw add-zero (mod-eq_of_lt f)) in
    let l = c.loop-i in
    let one = turn-next _ _ _ _ l.out l.i _ (pos 0) _ _ l.invariant.turn (omega arith) row_is again in
    let two = turn-next _ _ _ _ _ (l.i + 1) _ (pos 0) _ _ one (omega arith) row_is again in
    let e : l.i + 1 + 1 ≡ l.i + 2 = omega arith in
    record { done = omega arith; turn = rw e at two }

pub returns-then-i-count : goal.returns-then-i-count
returns-then-i-count c =
    let row_is : to_z w64 (of_z w64 c.cast_signed-row.result) ≡ as_i64 c.args.value = written _ _ (omega arith) (omega arith) c.cast_signed-row.ensures in
    let again : c.args.value ≡ plus c.args.value 0 = let f : c.args.value < 2 ^ 64 = c.ranges.value.fits in sym (rw add-zero (mod-eq_of_lt f)) in
    let l = c.loop-i in
    turn_last _ _ _ _ _ (l.i + 1) _ (turn-next _ _ _ _ l.out l.i _ (pos 0) _ _ l.invariant.turn (omega arith) row_is again) (omega arith)

pub returns-else-i-count : goal.returns-else-i-count
returns-else-i-count c = turn_last _ _ _ _ _ _ _ c.loop-i.invariant.turn (omega arith)
