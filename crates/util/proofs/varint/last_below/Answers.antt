-- The limit of a varint's last byte. Assumes nothing.
use Rattle.format.proofs.Common.{◌≡◌, suc, ◌+◌, ◌-◌, arith}
use Rattle.format.specs.Fields.{last_below}
use Rattle.util.proofs.varint.last_below.Goals as goal

pub returns-then-k-lt9 : goal.returns-then-k-lt9
unfolding last_below
returns-then-k-lt9 c =
    let k = c.args.k in
    let e : 10 - (k + 1) ≡ suc (8 - k) = omega arith in
    rw e

pub returns-else-k-lt9 : goal.returns-else-k-lt9
unfolding last_below
returns-else-k-lt9 c =
    let e : 10 - (c.args.k + 1) ≡ 0 = omega arith in
    rw e
