-- One read more is counted, and what came are the bytes between what was held and where it stops. Assumes nothing.
use Rattle.std.proofs.Common.{◌≡◌, ◌-◌, arith, to_z-of_z, w32, w64}
use Rattle.blocks.specs.Blocks.{came}
use Rattle.blocks.proofs.reading.one_more.Goals as goal

pub returns : goal.returns
returns g c =
    let r = c.read_on-block in
    let f = to_z-of_z {w = w64} {z = r.result.got} (record { sfits = omega arith }) in
    let e = to_z-of_z {w = w32} {z = r.result.error} (record { sfits = omega arith }) in
    let n : r.result.stop - r.result.held ≡ came r.result.got = omega (arith, r.ensures.stop_is) in
    rw (f, e) (record { came = r.ensures; reads = rw (c.count_on-count.ensures, n) })

pub overflow_sub-came : goal.overflow_sub-came
overflow_sub-came g c = omega (arith, c.read_on-block.ensures.stop_is)
