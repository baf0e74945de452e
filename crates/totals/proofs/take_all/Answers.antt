use Rattle.std.proofs.Common.{◌≡◌, ℕ, List, length, sym, refl, ap, ◌∙◌, arith}
use lib.ListN.{length-replicate}
use Rattle.blocks.specs.Blocks.{part}
use Rattle.blocks.specs.declared.reading.Reads.{Reads}
use Rattle.tally.specs.declared.totals.Totals.{Totals}
use Rattle.totals.specs.declared.taking.Next.{Next}
use Rattle.totals.specs.declared.taking.Next.TheVariants.{Begun, Ended, Stopped, Failed}
use Rattle.totals.specs.Program.{Ready, Over}
use Rattle.totals.proofs.Turns.{ready-first, ready-over, turned-ready}
use Rattle.totals.proofs.take_all.Goals as goal

pub loop-init : goal.loop-init
loop-init g c = (
  sym (ap length c.input_places-input.ensures ∙ length-replicate {A = ℕ} 74337 0),
  sym c.row_places-rows.ensures,
  rw c.none.ensures (omega arith),
  ready-first c.empty.result c.none.result c.input_places-input.result c.empty.ensures c.none.ensures,
)

-- where a line has begun the loop goes on
ended-over : (input : List ℕ) (next : Next) (reads : Reads) (t : Totals) → ((from end : ℕ) → next ≡ Begun from end → ⊥) → Ready input next reads t
    → Over next reads t
ended-over input (Begun from end) reads t n r = absurd (n from end refl)
ended-over input Ended reads t n r = r
ended-over input Stopped reads t n r = r
ended-over input Failed reads t n r = r

pub returns-in_default : goal.returns-in_default
returns-in_default g c = let l = c.loop in ended-over l.input l.all.next l.all.reads l.all.totals c.in_default.not-Begun l.invariant.3

pub slice_bounds-turn-end : goal.slice_bounds-turn-end
slice_bounds-turn-end g c = c.loop.invariant.0

pub slice_bounds-turn-end-in-loop : goal.slice_bounds-turn-end-in-loop
slice_bounds-turn-end-in-loop g c = c.loop.invariant.1

pub turn-all-requires : goal.turn-all-requires
turn-all-requires g c =
    let l = c.loop in
    let r = rw c.in-Begun.is at l.invariant.3 in
    (r.0, sym l.invariant.1)

pub loop-preserved : goal.loop-preserved
loop-preserved g c =
    let n = c.in-Begun in
    let l = c.loop in
    let r = rw n.is at l.invariant.3 in (
      l.invariant.0 ∙ sym c.turn-all.auto.input,
      l.invariant.1 ∙ sym c.turn-all.auto.rows,
      rw (c.turn-all.ensures.is, c.turn-all.ensures.once.reads) (omega (arith, l.invariant.2)),
      turned-ready l.all.totals l.all.reads (part n.from n.end l.input) c.turn-all.new.input c.turn-all.result.totals c.turn-all.result.next c.turn-all.result.reads r.0 r.1
          (omega (arith, l.invariant.2)) c.turn-all.ensures,
    )

pub returns : goal.returns
returns g c = let l = c.loop in ready-over l.input l.all.next l.all.reads l.all.totals (omega (arith, l.invariant.2)) l.invariant.3
