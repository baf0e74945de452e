use Rattle.std.proofs.Common.{◌≡◌, ℕ, List, length, sym, refl, ap, ◌∙◌, arith}
use lib.ListN.{length-replicate}
use Rattle.blocks.specs.Blocks.{part}
use Rattle.blocks.specs.declared.reading.Reads.{Reads}
use Rattle.runs.specs.declared.saying.Said.{Said}
use Rattle.runs.specs.declared.Left.{Left}
use Rattle.runs.specs.declared.Left.TheVariants.{Begun, Ended, Failed, Unwritten}
use Rattle.runs.specs.Program.{Ready, Over}
use Rattle.runs.proofs.TextSaid.{reached-first}
use Rattle.runs.proofs.Turns.{turned-ready, ready-over}
use Rattle.runs.proofs.run.Goals as goal

pub loop-init : goal.loop-init
loop-init g c = (
  sym (ap length c.input_places-input.ensures ∙ length-replicate {A = ℕ} 74337 0),
  c.text_places-output.ensures,
  rw c.none.ensures (omega arith),
  (tt, reached-first c.none.result c.nothing.result c.none.ensures c.nothing.ensures),
)

-- where a line has begun the loop goes on
ended-over : (input : List ℕ) (left : Left) (reads : Reads) (said : Said) → ((from end : ℕ) → left ≡ Begun from end → ⊥) → Ready input left reads said
    → Over left reads said
ended-over input (Begun from end) reads said n r = absurd (n from end refl)
ended-over input Ended reads said n r = r
ended-over input Failed reads said n r = r
ended-over input Unwritten reads said n r = r

pub returns-in_default : goal.returns-in_default
returns-in_default g c = let l = c.loop in ended-over l.input l.all.left l.all.reads l.all.said c.in_default.not-Begun l.invariant.3

pub slice_bounds-turn-end : goal.slice_bounds-turn-end
slice_bounds-turn-end g c = c.loop.invariant.0

pub slice_bounds-turn-end-in-loop : goal.slice_bounds-turn-end-in-loop
slice_bounds-turn-end-in-loop g c = c.loop.invariant.1

pub turn-all-requires : goal.turn-all-requires
turn-all-requires g c =
    let l = c.loop in
    let r = rw c.in-Begun.is at l.invariant.3 in
    (omega (arith, l.invariant.2), r, omega (arith, l.invariant.1))

pub loop-preserved : goal.loop-preserved
loop-preserved g c =
    let n = c.in-Begun in
    let l = c.loop in
    let r = rw n.is at l.invariant.3 in (
      l.invariant.0 ∙ sym c.turn-all.auto.input,
      l.invariant.1 ∙ sym c.turn-all.auto.output,
      rw (c.turn-all.ensures.is, c.turn-all.ensures.once.reads) (omega (arith, l.invariant.2)),
      turned-ready l.all.reads l.all.said (part n.from n.end l.input) c.turn-all.new.input c.turn-all.result.left c.turn-all.result.reads c.turn-all.result.said r.0 r.1
          (omega (arith, l.invariant.2)) c.turn-all.ensures,
    )

pub returns : goal.returns
returns g c = let l = c.loop in ready-over l.input l.all.left l.all.reads l.all.said (omega (arith, l.invariant.2)) l.invariant.3
