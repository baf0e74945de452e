use Rattle.format.proofs.Common.{◌≡◌, sym, ◌∙◌, List, ℕ, ◌%◌, ◌^◌, div-one, arith, get_or, take, drop, length-take-le, length-append, length-drop, drop_of_length-le}
use Rattle.std.proofs.lemmas.List.{append-nil}
use Rattle.writer.proofs.Laws.{same_at}
use Rattle.writer.proofs.Turns.{fill-first, fill-next, fill_end, map_next, map-end}
use Rattle.writer.proofs.values.keep_low.Goals as goal

pub loop-value-init : goal.loop-value-init
loop-value-init c = fill-first _ _ _

pub loop-value-preserved : goal.loop-value-preserved
loop-value-preserved c =
    let l = c.loop-value in
    let a = c.args in
    let vs : List ℕ = take a.rows.rows a.vals.now in
    let n = length-take-le a.rows.rows a.vals.now (omega arith) in
    let g : get_or vs l.value-index 0 ≡ get_or l.value-items l.value-index 0 = sym (same_at l.value-items vs l.value-index l.invariant.others) in
    fill-next l.invariant (omega arith) (omega arith)
    (map_next (λ d. d % 2 ^ a.bits) vs l.value-index (omega arith)) (c.cut.ensures ∙ rw (div-one, g))

pub returns : goal.returns
returns c =
    let a = c.args in
    let vs : List ℕ = take a.rows.rows a.vals.now in
    let n = length-take-le a.rows.rows a.vals.now (omega arith) in
    let e = fill_end c.loop-value.invariant (omega arith) (map-end (λ d. d % 2 ^ a.bits) vs a.rows.rows (omega arith)) in
    rw (e, drop_of_length-le vs {i = a.rows.rows} (omega arith), append-nil)

pub shape_of-vals : goal.shape_of-vals
shape_of-vals c =
    let a = c.args in
    let l = c.loop-value in
    omega (
      arith,
      length-append l.value-items (drop a.rows.rows a.vals.now),
      length-drop a.rows.rows a.vals.now,
      length-take-le a.rows.rows a.vals.now (omega arith),
      l.auto.value-items,
    )
