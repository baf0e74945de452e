-- More than the direct runs: they would fit into a byte less. Assumes nothing.
use mathlib.Core.Path.{◌≡◌, sym, ◌∙◌}
use Prim.Native.Nat.{ℕ, ◌+◌, ◌-◌, ◌*◌, ◌/◌, ◌<◌, ◌≤◌}
use lib.Dec.{leb, ltb}
use native.Mathlib.Omega.{arith}
use native.Mathlib.Decide.{dec_lt}
use borrow.Author.Tests.{lt-ltb, le-ltb, le-leb, lt-leb}
use Rattle.planner.proofs.write.is_longer.Goals as goal

less : (a b : ℕ) → 1 ≤ b → Dec (a < b) → leb a (b - 1) ≡ ltb a b
less a b h (yes d) = le-leb a (b - 1) (omega arith) ∙ sym (lt-ltb a b d)
less a b h (no d) = lt-leb a (b - 1) (omega (arith, d)) ∙ sym (le-ltb a b (omega (arith, d)))

pub returns-then-size-eq0 : goal.returns-then-size-eq0
returns-then-size-eq0 c =
    let a = c.args in
    sym (le-ltb (2 * ((a.rows.rows + 511) / 512) + 8 * a.rows.rows) a.bytes.bytes (omega arith))

pub returns : goal.returns
returns c =
    let a = c.args in
    let n : ℕ = 2 * ((a.rows.rows + 511) / 512) + 8 * a.rows.rows in
    c.wide_fits.ensures ∙ less n a.bytes.bytes (omega arith) (dec_lt n a.bytes.bytes)
