-- The starts rise and none passes the end, so the group lies in the stream. Assumes nothing.
use Prim.Native.Nat.{◌≤◌}
use lib.ListN.{length, get_or}
use Rattle.salvage.proofs.Walking.{inside}
use Rattle.salvage.proofs.groups.Groups.bytes_of.Goals as goal

pub slice_bounds-result-count : goal.slice_bounds-result-count
slice_bounds-result-count c =
    let lies : (let a = c.args in
    (get_or a.self.starts.now a.i 0 ≤ c.stop_of-stop.result.bytes) × (c.stop_of-stop.result.bytes ≤ length a.self.input.now)) = rw c.stop_of-stop.ensures (inside (length c.args.self.input.now) c.args.self.starts.now c.args.i c.args.self.right.right c.requires) in
    lies.0

pub slice_bounds-result-start : goal.slice_bounds-result-start
slice_bounds-result-start c =
    let lies : (let a = c.args in
    (get_or a.self.starts.now a.i 0 ≤ c.stop_of-stop.result.bytes) × (c.stop_of-stop.result.bytes ≤ length a.self.input.now)) = rw c.stop_of-stop.ensures (inside (length c.args.self.input.now) c.args.self.starts.now c.args.i c.args.self.right.right c.requires) in
    lies.0

pub slice_bounds-result-end : goal.slice_bounds-result-end
slice_bounds-result-end c =
    let lies : (let a = c.args in
    (get_or a.self.starts.now a.i 0 ≤ c.stop_of-stop.result.bytes) × (c.stop_of-stop.result.bytes ≤ length a.self.input.now)) = rw c.stop_of-stop.ensures (inside (length c.args.self.input.now) c.args.self.starts.now c.args.i c.args.self.right.right c.requires) in
    lies.1

pub returns : goal.returns
returns c = rw c.stop_of-stop.ensures
