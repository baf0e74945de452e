use mathlib.Core.Path.{◌≡◌, refl, sym, ◌∙◌}
use mathlib.Core.List.{List}
use Prim.Native.Nat.{ℕ, ◌+◌, min}
use native.Mathlib.Omega.{arith}
use lib.ListN.{length, drop, length-drop}
use Rattle.format.specs.Booleans.{ByteRun, run_bytes, bits}
use Rattle.format.proofs.Digits.{spread-append}
use Rattle.format.proofs.Booleans.{length-bits}
use Rattle.boolean_rle.specs.declared.ByteRun as code
use Rattle.boolean_rle.proofs.FirstPass.{Here, here}
use Rattle.boolean_rle.proofs.RunBytes.{bytes-are, length-left}
use Rattle.boolean_rle.proofs.SecondPass.{between, laid_from, laid_on, laid-whole}
use Rattle.boolean_rle.proofs.put_booleans.Goals as goal

pub loop-done-init : goal.loop-done-init
loop-done-init c =
    let a = c.args in (
      omega arith,
      omega arith,
      refl,
      laid_from bits (spread-append 2 8) a.input.now a.at a.skip a.k a.n a.out.now
          (rw (length-bits, length-drop) c.requires.2),
    )

pub returns-in_default : goal.returns-in_default
returns-in_default c =
    let s : List ℕ = c.args.input.now in
    let a = c.args in
    absurd (laid-whole bits (spread-append 2 8) (s) refl _ a.k a.n a.out.now c.loop-done.place c.loop-done.left
    c.loop-done.done c.loop-done.out c.in_default.field-0 c.loop-done-test.true
    (sym c.run_at.ensures ∙ c.in_default.is) c.loop-done.invariant.3)

pub loop-done-preserved : goal.loop-done-preserved
loop-done-preserved c =
    let s : List ℕ = c.args.input.now in
    let run : code.ByteRun = c.in-Ok.run' in
    let run-here : (d : ByteRun) × Here (s) c.loop-done.place (run) d = here (s) c.loop-done.place (run) (λ i. (c.shared_slice_known-1.given i).fits)
    (sym c.run_at.ensures ∙ c.in-Ok.is) in
    let l = c.loop-done in
    let a = c.args in
    let done = c.put-done.result in
    let (d, h) = run-here in
    let up : done ≡ min a.n (l.done + length (bits (drop l.left (run_bytes d)))) =
    c.put-done.ensures.value ∙ rw (length-bits, length-left d l.left, h.count-is) in
    let (from, to) = between a.k a.n l.done _ done l.invariant.0 l.invariant.1 up in (
      from,
      to,
      c.put-done.auto.out ∙ l.invariant.2,
      rw c.saturating_sub-left.ensures
          (laid_on bits (spread-append 2 8) (s) _ a.k a.n a.out.now l.place l.left l.done l.out _ done
          (run) d h c.loop-done-test.true l.invariant.0 up
          (rw (bytes-are (s) l.place (run) d h) at c.put-done.ensures.wrote) l.invariant.3),
    )

pub returns : goal.returns
returns c =
    let all : c.loop-done.done ≡ c.args.n = omega arith in
    rw all at c.loop-done.invariant.3.wrote

pub overflow_add-place : goal.overflow_add-place
overflow_add-place c =
    let s : List ℕ = c.args.input.now in
    let run : code.ByteRun = c.in-Ok.run' in
    let run-here : (d : ByteRun) × Here (s) c.loop-done.place (run) d = here (s) c.loop-done.place (run) (λ i. (c.shared_slice_known-1.given i).fits)
    (sym c.run_at.ensures ∙ c.in-Ok.is) in
    omega (arith, run-here.1.inside)

pub loop-done-smaller : goal.loop-done-smaller
loop-done-smaller c =
    let s : List ℕ = c.args.input.now in
    let run : code.ByteRun = c.in-Ok.run' in
    let run-here : (d : ByteRun) × Here (s) c.loop-done.place (run) d = here (s) c.loop-done.place (run) (λ i. (c.shared_slice_known-1.given i).fits)
    (sym c.run_at.ensures ∙ c.in-Ok.is) in
    let h = run-here.1 in omega (arith, h.inside, h.takes)
