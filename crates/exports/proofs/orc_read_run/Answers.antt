-- `orc_read_run` keeps its promise: there are rows enough for the run that is read, ten for a short one and 512 for any. Assumes nothing.
use mathlib.Core.Path.{◌≡◌}
use native.Mathlib.Omega.{arith}
use lib.ListN.{length}
use borrow.Author.Rules.{rules}
use Rattle.format.proofs.Below.{below_all}
use Rattle.exports.proofs.Room.{enough-all}
use Rattle.exports.proofs.Reading.{loaded-end}
use Rattle.exports.proofs.orc_read_run.Goals as goal

pub returns-then-input-eq0 : goal.returns-then-input-eq0
returns-then-input-eq0 c = let a = c.args in loaded-end a.input.now _ a.out.now c.if-input-eq0.true

pub read_by-requires : goal.read_by-requires
read_by-requires c =
    let l : length c.few_rows-rows.result ≡ 10 = search rules in
    rw l (c.is_short.ensures c.if-is_short.true)

pub read_by-requires-2 : goal.read_by-requires-2
read_by-requires-2 c =
    let s = (c) in
    let a = s.before.args in
    let l : length c.all_rows-rows.result ≡ 512 = search rules in
    rw l (enough-all a.input.now (below_all 256 a.input.now (λ i. (s.shared_slice_known-1.given i).fits)))

pub read_repeat-requires : goal.read_repeat-requires
read_repeat-requires c = (omega arith, c.if-input-eq0-2.true)
