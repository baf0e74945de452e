-- The walk over the list puts each patch into the row that it names. Assumes nothing.

use Rattle.util.specs.Packed.{fields}
use Rattle.rle_v2.proofs.PatchWalk.{Put}
use Rattle.rle_v2.proofs.patch_list.PatchList.put.Given as goal

abbrev pub invariant-loop-k : goal.invariant-loop-k
invariant-loop-k l = Put l.self.width l.self.pw l.self.count.rows (fields l.self.bits l.self.n l.self.list.now) l.initial.out l.out l.k l.row
