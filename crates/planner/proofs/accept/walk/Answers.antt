use mathlib.Core.Path.{◌≡◌, sym, ap, ◌∙◌}
use Rattle.std.specs.Prelude.{Some}
use Prim.Native.Nat.{ℕ}
use lib.ListN.{length}
use native.Mathlib.Omega.{arith}
use borrow.Author.Rules.{rules}
use Rattle.planner.specs.Walk.{columns}
use Rattle.planner.proofs.Segments.{are-equal}
use Rattle.planner.proofs.Checking.{along-first, along-short, along-end, along-out, along-taken, along-full, along-next}
use Rattle.planner.proofs.accept.walk.Goals as goal

pub loop-k-init : goal.loop-k-init
loop-k-init c = (search rules, along-first _ _ _ _ c.requires)

pub at-s-requires : goal.at-s-requires
at-s-requires c =
    let a = c.args in
    let e = are-equal (columns a.p) c.requires in
    omega (arith, e.counts, e.forms, e.widths, e.bases)

pub slice_bounds-step_size-end : goal.slice_bounds-step_size-end
slice_bounds-step_size-end c = sym c.loop-k.invariant.0

pub step_size-n-requires : goal.step_size-n-requires
step_size-n-requires c = let l = c.loop-k in (l.invariant.1.row_in, l.invariant.0)

pub returns-then-n-eq0 : goal.returns-then-n-eq0
returns-then-n-eq0 c =
    let l = c.loop-k in
    along-out _ _ _ _ l.k l.row l.bytes l.invariant.1 c.loop-k-test.true c.at-s.result
    c.at-s.ensures _ c.step_size-n.ensures c.if-n-eq0.true

pub overflow_sub-limit : goal.overflow_sub-limit
overflow_sub-limit c = c.loop-k.invariant.1.bytes-in

pub returns-then-limit-bytes : goal.returns-then-limit-bytes
returns-then-limit-bytes c =
    let l = c.loop-k in
    along-full _ _ _ _ l.k l.row l.bytes l.invariant.1 c.loop-k-test.true c.at-s.result
    c.at-s.ensures _ c.step_size-n.ensures c.if-n-eq0.false c.if-limit-bytes.true

pub overflow_add-row : goal.overflow_add-row
overflow_add-row c =
    let l = c.loop-k in
    let t = along-taken _ _ _ _ l.k l.row l.bytes l.invariant.1 c.loop-k-test.true c.at-s.result
    c.at-s.ensures _ c.step_size-n.ensures c.if-n-eq0.false in
    omega (arith, t.within, l.invariant.1.row_in, c.well_formed.0.0)

pub overflow_add-bytes : goal.overflow_add-bytes
overflow_add-bytes c =
    let l = c.loop-k in
    omega (arith, l.invariant.1.bytes-in, c.if-limit-bytes.false, c.well_formed)

pub loop-k-preserved : goal.loop-k-preserved
loop-k-preserved c =
    let l = c.loop-k in (
      search rules,
      along-next _ _ _ _ l.k l.row l.bytes l.invariant.1 c.loop-k-test.true c.at-s.result
          c.at-s.ensures _ c.step_size-n.ensures c.if-n-eq0.false c.if-limit-bytes.false,
    )

pub returns-then-row-rows : goal.returns-then-row-rows
returns-then-row-rows c =
    let l = c.loop-k in
    along-short _ _ _ _ l.k l.row l.bytes l.invariant.1 c.loop-k-test.false c.if-row-rows.true

pub returns : goal.returns
returns c =
    let l = c.loop-k in
    let e : length c.args.p.first.now ≡ l.k = omega arith in
    ap (λ (n : ℕ). Some (record { runs = n; rows = record { rows = l.row }; bytes = record { bytes = l.bytes } })) e
    ∙ along-end _ _ _ _ l.k l.row l.bytes l.invariant.1 c.loop-k-test.false c.if-row-rows.false
