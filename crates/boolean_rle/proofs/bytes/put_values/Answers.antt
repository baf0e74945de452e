use mathlib.Core.Path.{◌≡◌, refl, sym, ◌∙◌}
use mathlib.Core.List.{List}
use Prim.Native.Nat.{ℕ, ◌+◌, min}
use native.Mathlib.Omega.{arith}
use lib.ListN.{length, drop}
use Rattle.format.specs.Booleans.{ByteRun, run_bytes}
use Rattle.boolean_rle.specs.declared.ByteRun as code
use Rattle.boolean_rle.proofs.FirstPass.{Here, here}
use Rattle.boolean_rle.proofs.RunBytes.{bytes-are, length-left}
use Rattle.boolean_rle.proofs.SecondPass.{between, up_to, laid_from, laid_on, laid-whole}
use Rattle.boolean_rle.proofs.bytes.put_values.Goals as goal

-- a byte stands for itself
abbrev itself : List ℕ → List ℕ
itself bs = bs

pub loop-done-init : goal.loop-done-init
loop-done-init c =
    let a = c.args in (
      omega arith,
      refl,
      laid_from itself (λ x y. refl) a.input.now a.from.run.bytes a.from.bytes.bytes 0 a.n a.out.now
          (omega (arith, c.requires.1)),
    )

pub returns-in_default : goal.returns-in_default
returns-in_default c =
    let s : List ℕ = c.args.input.now in
    let a = c.args in
    absurd (laid-whole itself (λ x y. refl) (s) refl _ 0 a.n a.out.now c.loop-done.place c.loop-done.left
    c.loop-done.done c.loop-done.out c.in_default.field-0 c.loop-done-test.true
    (sym c.run_at.ensures ∙ c.in_default.is) c.loop-done.invariant.2)

pub put_bytes-requires : goal.put_bytes-requires
put_bytes-requires c = (
  omega (arith, c.min-count.ensures, c.saturating_sub.ensures),
  omega (arith, c.min-count.ensures, c.loop-done.invariant.0, c.loop-done.invariant.1, c.requires.0),
)

pub overflow_add-done : goal.overflow_add-done
overflow_add-done c =
    omega (arith, c.min-count.ensures, c.loop-done.invariant.0, c.requires.0)

pub loop-done-preserved : goal.loop-done-preserved
loop-done-preserved c =
    let s : List ℕ = c.args.input.now in
    let run : code.ByteRun = c.in-Ok.run' in
    let run-here : (d : ByteRun) × Here (s) c.loop-done.place (run) d = here (s) c.loop-done.place (run) (λ i. (c.shared_slice_known-1.given i).fits)
    (sym c.run_at.ensures ∙ c.in-Ok.is) in
    let l = c.loop-done in
    let a = c.args in
    let count = c.min-count.result in
    let (d, h) = run-here in
    let up : l.done + count ≡ min a.n (l.done + length (drop l.left (run_bytes d))) =
    up_to a.n l.done _ count l.invariant.0 c.min-count.ensures
    ∙ rw (c.saturating_sub.ensures, length-left d l.left, h.count-is) in
    let (from, to) = between 0 a.n l.done _ (l.done + count) (omega arith) l.invariant.0 up in (
      to,
      c.put_bytes.auto.out ∙ l.invariant.1,
      rw c.saturating_sub-left.ensures
          (laid_on itself (λ x y. refl) (s) _ 0 a.n a.out.now l.place l.left l.done l.out _ (l.done + count)
          (run) d h c.loop-done-test.true (omega arith) up
          (rw (bytes-are (s) l.place (run) d h) at c.put_bytes.ensures) l.invariant.2),
    )

pub returns : goal.returns
returns c =
    let all : c.loop-done.done ≡ c.args.n = omega arith in
    rw all at c.loop-done.invariant.2.wrote

pub overflow_add-place : goal.overflow_add-place
overflow_add-place c =
    let s : List ℕ = c.args.input.now in
    let run : code.ByteRun = c.in-Ok.run' in
    let run-here : (d : ByteRun) × Here (s) c.loop-done.place (run) d = here (s) c.loop-done.place (run) (λ i. (c.shared_slice_known-1.given i).fits)
    (sym c.run_at.ensures ∙ c.in-Ok.is) in
    omega (arith, run-here.1.inside)

pub loop-done-smaller : goal.loop-done-smaller
loop-done-smaller c =
    let s : List ℕ = c.args.input.now in
    let run : code.ByteRun = c.in-Ok.run' in
    let run-here : (d : ByteRun) × Here (s) c.loop-done.place (run) d = here (s) c.loop-done.place (run) (λ i. (c.shared_slice_known-1.given i).fits)
    (sym c.run_at.ensures ∙ c.in-Ok.is) in
    let h = run-here.1 in omega (arith, h.inside, h.takes)
