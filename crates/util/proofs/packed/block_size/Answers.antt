-- The product is of 22 bits. Assumes nothing.
use Rattle.format.proofs.Common.{mul-le-mul, arith}
use Rattle.util.proofs.packed.block_size.Goals as goal

pub overflow_mul-n : goal.overflow_mul-n
overflow_mul-n c = omega (arith, mul-le-mul {n₂ = 65536} {m₂ = 64} c.requires.1 c.requires.0)
