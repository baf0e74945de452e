-- The walk over the rest of a list that is refused finds a patch that is too large, or none. Assumes nothing.
use mathlib.Core.Path.{◌≡◌}
use lib.ListN.{drop}
use Rattle.util.specs.Packed.{fields}
use Rattle.rle_v2.specs.PatchList.{large}
use Rattle.rle_v2.proofs.patch_list.PatchList.out_of_place.Given as goal

abbrev pub invariant-loop-k : goal.invariant-loop-k
invariant-loop-k l = large l.self.width l.self.pw (drop l.k (fields l.self.bits l.self.n l.self.list.now)) ≡ large l.self.width l.self.pw (drop l.from (fields l.self.bits l.self.n l.self.list.now))
