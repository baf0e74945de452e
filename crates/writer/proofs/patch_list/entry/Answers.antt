-- A gap of 8 bits above a patch of at most 56 stays below 2^64, so the sum is the entry. Assumes nothing.
use Rattle.format.proofs.Common.{ℕ, ◌*◌, ◌^◌, ◌≤◌, mul-le-mul, arith, pow_mono}
use Rattle.writer.proofs.patch_list.entry.Goals as goal

-- nothing of the gap is dropped
small : (gap pw : ℕ) → gap ≤ 255 → pw ≤ 56 → gap * 2 ^ pw ≤ 255 * 2 ^ 56
small gap pw g p = mul-le-mul {n₂ = 255} {m₂ = 2 ^ 56} g (pow_mono {j = 56} p)

pub overflow_add-result : goal.overflow_add-result
overflow_add-result c = let h = small c.args.gap c.args.pw (omega arith) (omega arith) in let p = pow_mono {i = c.args.pw} {j = 56} (omega arith) in
    omega arith

pub returns : goal.returns
returns c = let h = small c.args.gap c.args.pw (omega arith) (omega arith) in omega arith
