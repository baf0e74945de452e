-- The flags ahead are those of the byte that is begun, and then those of the bytes after it; if no bit is skipped, of whole bytes alone.
-- Assumes nothing.
use mathlib.Core.Path.{◌≡◌, ap, ◌∙◌}
use Prim.Native.Nat.{ℕ, ◌-◌, ◌≤◌}
use native.Mathlib.Omega.{arith}
use lib.ListN.{length, drop}
use Rattle.format.proofs.Below.{below_all}
use Rattle.boolean_rle.specs.Found.{flags_ahead}
use Rattle.boolean_rle.proofs.RunBytes.{wrote_on}
use Rattle.boolean_rle.proofs.FirstByte.{first-whole, first-after, first-room, first-few}
use Rattle.boolean_rle.proofs.flags.put_flags.Goals as goal

pub returns-then-from-eq0 : goal.returns-then-from-eq0
returns-then-from-eq0 c =
    rw (first-whole c.args.input.now c.args.from c.args.n c.requires.0 c.if-from-eq0.true)
    c.put_booleans.ensures

pub returns-then-n-done : goal.returns-then-n-done
returns-then-n-done c =
    let all : c.put_first-done.result ≡ c.args.n = omega (arith, c.put_first-done.ensures.value) in
    rw all at c.put_first-done.ensures.wrote

pub overflow_add-skip : goal.overflow_add-skip
overflow_add-skip c =
    let s = c.args.input.now in
    let bytes = below_all 256 s (λ i. (c.shared_slice_known-1.given i).fits) in
    omega (arith, first-few s c.args.from c.args.n bytes c.requires.0)

pub returns : goal.returns
returns c =
    let a = c.args in
    let s = a.input.now in
    let ahead = flags_ahead s a.from in
    let done = c.put_first-done.result in
    let first-all : done - 0 ≡ 8 - a.from.bits = omega (arith, c.put_first-done.ensures.value) in
    let there : done - 0 ≤ length ahead = omega (arith, first-room s a.from a.n c.requires.0) in
    let rest = ap (λ (x : ℕ). drop x ahead) first-all ∙ first-after s a.from a.n c.requires.0 (omega arith) in
    wrote_on 0 done a.n ahead _ a.out.now _ _ (omega arith) there rest c.put_first-done.ensures.wrote c.put_booleans-2.ensures
