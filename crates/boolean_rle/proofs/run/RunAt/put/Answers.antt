-- The places from k up to n are those of whole bytes, and then of the first bits of one byte; or the run has no more. Assumes nothing.
use mathlib.Core.Path.{◌≡◌, sym}
use Prim.Native.Nat.{◌+◌, ◌-◌, ◌*◌, ◌/◌, ◌%◌, ◌<◌}
use native.Mathlib.Omega.{arith}
use lib.ListN.{length, drop, get_or, length-drop}
use lib.Seq.{get_or-drop}
use Rattle.format.specs.Booleans.{byte_run}
use Rattle.boolean_rle.specs.Found.{bytes_at}
use Rattle.boolean_rle.proofs.RunBytes.{length-bytes, byte_more}
use Rattle.boolean_rle.proofs.run.RunAt.put.Goals as goal

pub returns-clause-wrote : goal.returns-clause-wrote
returns-clause-wrote c =
    let a = c.args in
    let all = bytes_at a.self.input.now a.self.at in
    let bs = drop a.skip all in
    let whole = (a.n - a.k) / 8 in
    let there : whole < length bs =
    rw length-drop
    (omega (arith, length-bytes (length a.self.input.now) (byte_run (drop a.self.at a.self.input.now)) a.self.run a.self.found)) in
    let byte-is : get_or all (a.skip + whole) 0 ≡ get_or bs whole 0 = sym (get_or-drop a.skip all whole 0) in
    let up-to-n : a.k + 8 * whole + (a.n - a.k) % 8 ≡ a.n = omega arith in
    rw up-to-n at (byte_more bs a.k whole ((a.n - a.k) % 8) a.out.now _ _ there c.put_whole-2.ensures
    (rw (c.byte.ensures, byte-is) at c.put_bits.ensures))
