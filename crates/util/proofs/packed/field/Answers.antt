-- Eight bytes hold a field wherever it starts. Assumes nothing.
use Rattle.format.proofs.Common.{le_of_lt, mul-le-mul, arith}
use Rattle.util.proofs.Window.{aligned}
use Rattle.util.proofs.packed.field.Goals as goal

pub overflow_mul-k : goal.overflow_mul-k
overflow_mul-k c = omega (arith, mul-le-mul {n₂ = 65536} {m₂ = 64} (le_of_lt c.requires.k_bound.0) c.requires.width.1)

pub bits_from-requires : goal.bits_from-requires
bits_from-requires c =
    let a = c.args in
    let small = mul-le-mul {n₂ = 65536} {m₂ = 64} (le_of_lt c.requires.k_bound.0) c.requires.width.1 in
    (c.requires.width.0, aligned a.w a.k c.requires.width, omega arith, omega (arith, small))
