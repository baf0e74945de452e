-- The walk over the list answers refusals 3 and 7. Assumes nothing.

use Rattle.util.specs.Packed.{fields}
use Rattle.rle_v2.proofs.PatchWalk.{Walk}
use Rattle.rle_v2.proofs.patch_list.PatchList.refused_with.Given as goal

abbrev pub invariant-loop-k : goal.invariant-loop-k
invariant-loop-k l = Walk l.self.width l.self.pw l.self.count.rows (fields l.self.bits l.self.n l.self.list.now) l.k l.place l.free l.skip
