-- Below 2^63 the base is its own magnitude; above, the sign bit is added to it, and they do not overlap. Assumes nothing.
use Rattle.format.proofs.Common.{◌≡◌, ◌∙◌, ◌-◌, ◌*◌, ◌^◌, arith, pow_mono, lt-leb, le-leb}
use Rattle.format.specs.Fields.{two64}
use Rattle.writer.proofs.patched_base.sign_magnitude.Goals as goal

pub returns : goal.returns
returns c =
    let base = c.args.base in
    let p = pow_mono {i = 8 * c.args.size.bytes - 1} {j = 63} (omega arith) in
    let t = le-leb (2 ^ 63) base (omega arith) in
    let m : c.magnitude.result ≡ two64 - base = c.magnitude.ensures ∙ rw t in
    rw t (omega (arith, m))

pub returns-then-base-lt-TOP_BIT : goal.returns-then-base-lt-TOP_BIT
returns-then-base-lt-TOP_BIT c = simp (lt-leb _ _ c.if-base-lt-TOP_BIT.true) (omega arith)

pub overflow_add-result : goal.overflow_add-result
overflow_add-result c = let p = pow_mono {i = 8 * c.args.size.bytes - 1} {j = 63} (omega arith) in omega (arith, c.magnitude.ensures)
