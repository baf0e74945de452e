use Rattle.std.proofs.Common.{◌≡◌, ◌+◌, ◌-◌, take, drop, sym, refl, ◌∙◌, arith, length-drop, length-take-le, drop-drop}
use Rattle.util.proofs.Grow.{rest-is}
use Rattle.blocks.specs.Blocks.{begun_from}
use Rattle.blocks.proofs.Begun.{whole-more}
use Rattle.runs.proofs.Pieces.{whole-text}
use Rattle.runs.proofs.TextSaid.{lines-due, lines-on, pending-open}
use Rattle.runs.proofs.answer_block.Goals as goal

pub loop-reads-init : goal.loop-reads-init
unfolding begun_from
loop-reads-init g c = (omega arith, refl, refl, c.requires.0)

pub shape_of-output-then-p-eq0 : goal.shape_of-output-then-p-eq0
shape_of-output-then-p-eq0 g c = c.answer_lines-p.auto.out ∙ c.loop-reads.invariant.1

pub returns-then-p-eq0 : goal.returns-then-p-eq0
returns-then-p-eq0 g c =
    let l = c.loop-reads in
    let a = c.args in
    let t = rw (rest-is a.input.now l.from) at c.answer_lines-p.ensures in
    let o = rw c.if-p-eq0.true at (t.all (omega (arith, t.some c.if-p-eq0.true, l.invariant.1, c.requires.1))) in
    (record { ends = refl; order = l.invariant.0; whole = l.invariant.2; begun = o }, pending-open _ _ _ o l.invariant.3)

pub overflow_add-next : goal.overflow_add-next
overflow_add-next g c =
    let l = c.loop-reads in
    let a = c.args in
    let t = rw (rest-is a.input.now l.from) at c.answer_lines-p.ensures in
    omega (arith, t.within, length-drop l.from a.input.now)

pub slice_bounds-say-end : goal.slice_bounds-say-end
slice_bounds-say-end g c =
    let l = c.loop-reads in
    let a = c.args in
    let t = rw (rest-is a.input.now l.from) at c.answer_lines-p.ensures in
    omega (arith, t.within, length-drop l.from a.input.now)

pub slice_bounds-say-end-in-loop-reads : goal.slice_bounds-say-end-in-loop-reads
slice_bounds-say-end-in-loop-reads g c =
    let l = c.loop-reads in
    let a = c.args in
    let t = rw (rest-is a.input.now l.from) at c.answer_lines-p.ensures in
    omega (arith, t.fits, c.answer_lines-p.auto.out)

pub slice_bounds-say-end-in-loop-reads-2 : goal.slice_bounds-say-end-in-loop-reads-2
slice_bounds-say-end-in-loop-reads-2 g c =
    let l = c.loop-reads in
    let a = c.args in
    let t = rw (rest-is a.input.now l.from) at c.answer_lines-p.ensures in
    sym (length-take-le c.answer_lines-p.result.written c.answer_lines-p.new.out (omega (arith, t.fits, c.answer_lines-p.auto.out)))

pub say-said-requires : goal.say-said-requires
say-said-requires g c =
    let l = c.loop-reads in
    let a = c.args in
    let t = rw (rest-is a.input.now l.from) at c.answer_lines-p.ensures in
    let n = c.answer_lines-p.result.taken in
    let z : l.from + n - l.from ≡ n = omega arith in
    rw z (t.text ∙ sym (whole-text (take n (drop l.from a.input.now)) t.whole), lines-due _ _ (drop l.from a.input.now) n t.whole l.invariant.3 _ t.text)

pub shape_of-output-then-is_cut : goal.shape_of-output-then-is_cut
shape_of-output-then-is_cut g c =
    c.answer_lines-p.auto.out ∙ c.loop-reads.invariant.1

pub returns-then-is_cut : goal.returns-then-is_cut
returns-then-is_cut g c = sym c.is_cut.ensures ∙ c.if-is_cut.true

pub loop-reads-smaller : goal.loop-reads-smaller
loop-reads-smaller g c =
    let l = c.loop-reads in
    let a = c.args in
    let t = rw (rest-is a.input.now l.from) at c.answer_lines-p.ensures in
    omega (arith, t.within, length-drop l.from a.input.now)

pub loop-reads-preserved : goal.loop-reads-preserved
loop-reads-preserved g c =
    let l = c.loop-reads in
    let a = c.args in
    let t = rw (rest-is a.input.now l.from) at c.answer_lines-p.ensures in
    let n = c.answer_lines-p.result.taken in
    let p = lines-on _ _ (drop l.from a.input.now) n t.whole l.invariant.3 c.say-said.result _ t.text c.say-said.ensures (sym c.is_cut.ensures ∙ c.if-is_cut.false) in (
      omega (arith, t.within, length-drop l.from a.input.now),
      c.answer_lines-p.auto.out ∙ l.invariant.1,
      whole-more l.from n a.input.now l.invariant.2 t.whole,
      rw (drop-drop n l.from a.input.now) at p,
    )
