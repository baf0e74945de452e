-- What is kept stands at the front and leaves room; the system reads into the rest, and the bytes counted are those that it says came. Assumes
-- nothing.
use Rattle.std.proofs.Common.{◌≡◌, ℕ, ◌+◌, ap, ◌∙◌, arith, to_z-of_z, w64}
use Rattle.blocks.specs.Blocks.{came}
use Rattle.blocks.proofs.Moves.{part-le, kept-clamped}
use Rattle.blocks.proofs.Turns.{kept-le, came-is, held-le, room-is, stop_le, front-is}
use Rattle.blocks.proofs.read_on.Goals as goal

pub keep-held-requires : goal.keep-held-requires
keep-held-requires g c = omega (arith, c.min.ensures, c.min-last.ensures)

pub slice_bounds-read_into-start : goal.slice_bounds-read_into-start
slice_bounds-read_into-start g c =
    let a = c.args in
    let held = kept-clamped a.from a.end c.min.result c.min-last.result a.input.now c.min.ensures c.min-last.ensures c.keep-held.ensures in
    let w = part-le a.from a.end a.input.now in
    omega (arith, kept-le _ _ _ _ held w c.keep-held.auto.input)

pub slice_bounds-read_into-count : goal.slice_bounds-read_into-count
slice_bounds-read_into-count g c =
    let a = c.args in
    let held = kept-clamped a.from a.end c.min.result c.min-last.result a.input.now c.min.ensures c.min-last.ensures c.keep-held.ensures in
    let w = part-le a.from a.end a.input.now in
    kept-le _ _ _ _ held w c.keep-held.auto.input

pub slice_bounds-count-count : goal.slice_bounds-count-count
slice_bounds-count-count g c =
    let a = c.args in
    let r = c.read_into-answer in
    let held = kept-clamped a.from a.end c.min.result c.min-last.result a.input.now c.min.ensures c.min-last.ensures c.keep-held.ensures in
    let w = part-le a.from a.end a.input.now in
    held-le _ _ _ r.new.places _ held w c.keep-held.auto.input r.auto.places

pub slice_bounds-count-start : goal.slice_bounds-count-start
slice_bounds-count-start g c =
    let a = c.args in
    let r = c.read_into-answer in
    let held = kept-clamped a.from a.end c.min.result c.min-last.result a.input.now c.min.ensures c.min-last.ensures c.keep-held.ensures in
    let w = part-le a.from a.end a.input.now in
    omega (arith, held-le _ _ _ r.new.places _ held w c.keep-held.auto.input r.auto.places)

pub returns : goal.returns
returns g c =
    let a = c.args in
    let r = c.read_into-answer in
    let held = kept-clamped a.from a.end c.min.result c.min-last.result a.input.now c.min.ensures c.min-last.ensures c.keep-held.ensures in
    let w = part-le a.from a.end a.input.now in
    let n = c.keep-held.result in
    let m = c.count.result in
    let g = to_z-of_z {w = w64} {z = r.result.got} (record { sfits = omega arith }) in
    let v = rw (room-is _ _ _ r.new.places _ held w c.keep-held.auto.input r.auto.places) at c.count.ensures.value in
    let e : m ≡ came r.result.got = (rw g at v) ∙ came-is r.result.got _ (rw r.auto.places at r.ensures) in
    rw g
    record {
      count = held.count;
      front = front-is _ _ _ r.new.places _ held w c.keep-held.auto.input r.auto.places;
      stop_is = ap (λ (i : ℕ). n + i) e;
      within = stop_le _ _ _ r.new.places _ held w c.keep-held.auto.input r.auto.places m c.count.ensures.within;
    }
