use Prim.Native.Nat.{ℕ, ◌+◌, ◌*◌, ◌/◌, ◌≤◌}
use mathlib.Core.Path.{◌≡◌, sym, ap, ◌∙◌}
use lib.ListN.{length, get_or, take}
use lib.Seq.{length-take-le, get_or-take}
use lib.Count.{ones, ones-le}
use Rattle.boolean_rle.specs.Ones.{ones_in}
use Rattle.boolean_rle.proofs.Ones.{ones-more, ones-whole}
use native.Mathlib.Omega.{arith}
use Rattle.boolean_rle.proofs.count.ones_in.Goals as goal

pub loop-byte-init : goal.loop-byte-init
loop-byte-init c = (omega arith, sym (ones-whole _ (λ j. (c.shared_slice_known-1.given j).fits)))

pub overflow_add-ones : goal.overflow_add-ones
overflow_add-ones c =
    let l = c.loop-byte in
    let bytes = c.args.bytes.now in
    let k = c.args.whole.bytes in
    let long : length (take k bytes) ≡ k = length-take-le k bytes (omega arith) in
    let here : get_or (take k bytes) l.byte-index 0 ≡ get_or bytes l.byte-index 0 = get_or-take k bytes l.byte-index 0 (omega arith) in
    let o : c.ones_of-ones.result ≤ 8 = rw (c.ones_of-ones.ensures, here) (ones-le 8 (get_or bytes l.byte-index 0 / 1) (omega (arith, c.shared_slice_known-1.given l.byte-index))) in
    omega arith

pub loop-byte-preserved : goal.loop-byte-preserved
loop-byte-preserved c =
    let l = c.loop-byte in
    let bytes = c.args.bytes.now in
    let known = c.shared_slice_known-1.given in
    let k = c.args.whole.bytes in
    let long : length (take k bytes) ≡ k = length-take-le k bytes (omega arith) in
    let here : get_or (take k bytes) l.byte-index 0 ≡ get_or bytes l.byte-index 0 = get_or-take k bytes l.byte-index 0 (omega arith) in
    let d : 8 * (l.byte-index + 1) ≡ 8 * l.byte-index + 8 = omega arith in
    let o : c.ones_of-ones.result ≤ 8 = rw (c.ones_of-ones.ensures, here) (ones-le 8 (get_or bytes l.byte-index 0 / 1) (omega (arith, known l.byte-index))) in (
      omega arith,
      rw (d, ones-more l.byte-index 8 bytes (omega arith) (omega arith) (omega arith) (λ j. (known j).fits), c.ones_of-ones.ensures, here)
          (ap (λ (n : ℕ). n + ones (get_or bytes l.byte-index 0 / 1)) l.invariant.1),
    )

pub returns : goal.returns
returns c =
    let l = c.loop-byte in
    let e : l.byte-index ≡ c.args.whole.bytes = omega (arith, length-take-le c.args.whole.bytes c.args.bytes.now (omega arith)) in
    l.invariant.1 ∙ ap (λ (n : ℕ). ones_in (8 * n) c.args.bytes.now) e
