-- `boolean_rle::run_at` meets its contract: its tests are those of the definition. Assumes nothing.
use Prim.Native.Nat.{◌+◌, ◌-◌}
use lib.Seq.{length-take-le}
use lib.ListN.{drop, get_or, length-drop}
use native.Mathlib.Numerals.{add-one}
use native.Mathlib.Nat.{sub-zero}
use Rattle.boolean_rle.proofs.FirstPass.{field_is, none_here, repeat-cut, repeat-here, literals-cut, literals-here}
use Rattle.format.specs.Booleans.{run_layout, byte_count}
use native.Mathlib.Omega.{arith}
use Rattle.boolean_rle.proofs.run_at.Goals as goal

pub returns-then-input-at : goal.returns-then-input-at
returns-then-input-at c = rw (none_here c.args.input.now c.args.at c.if-input-at.true, sub-zero)

pub overflow_cast-control : goal.overflow_cast-control
overflow_cast-control c = omega (arith, c.shared_slice_known-1.given c.args.at)

pub returns-then-left-eq0 : goal.returns-then-left-eq0
returns-then-left-eq0 c = let a = c.args in let s = a.input.now in rw (repeat-cut s a.at (omega arith) (omega arith) (omega arith), field_is s (a.at + 1) (omega arith))

pub returns-then-control-lt128 : goal.returns-then-control-lt128
unfolding run_layout byte_count
returns-then-control-lt128 c = let a = c.args in rw (repeat-here a.input.now a.at (omega arith) (omega arith) (omega arith))

pub overflow_sub-count : goal.overflow_sub-count
overflow_sub-count c = omega (arith, c.shared_slice_known-1.given c.args.at)

pub returns-then-left-count : goal.returns-then-left-count
returns-then-left-count c = let a = c.args in let s = a.input.now in rw (literals-cut s a.at (omega arith) (omega arith) (omega arith), field_is s (a.at + 1) (omega arith))

pub returns : goal.returns
unfolding run_layout byte_count
returns c = let a = c.args in let s = a.input.now in rw (literals-here s a.at (omega arith) (omega arith) (omega arith), length-take-le (256 - get_or s a.at 0) (drop (a.at + 1) s) (rw length-drop (omega arith)), add-one)
