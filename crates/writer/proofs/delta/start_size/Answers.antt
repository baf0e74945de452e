-- A varint has ten bytes at most. Assumes nothing.
use Rattle.format.proofs.Common.{arith}
use Rattle.format.proofs.Varints.{shortest-length}
use Rattle.writer.proofs.delta.start_size.Goals as goal

pub overflow_add-bytes : goal.overflow_add-bytes
overflow_add-bytes c = omega (arith, c.size.ensures, shortest-length c.first_of.result (omega (arith, c.first_of.type_inv)))

pub overflow_add-bytes-2 : goal.overflow_add-bytes-2
overflow_add-bytes-2 c =
    omega (
      arith,
      c.size.ensures,
      c.size-2.ensures,
      shortest-length c.first_of.result (omega (arith, c.first_of.type_inv)),
      shortest-length c.base_of.result (omega (arith, c.base_of.type_inv)),
    )

pub returns : goal.returns
returns c =
    record {
      bytes = rw (c.size.ensures, c.size-2.ensures, c.first_of.ensures, c.base_of.ensures);
      few = omega (
        arith,
        c.size.ensures,
        c.size-2.ensures,
        shortest-length c.first_of.result (omega (arith, c.first_of.type_inv)),
        shortest-length c.base_of.result (omega (arith, c.base_of.type_inv)),
      );
    }
