-- `turn::convert_run`: the reader finds the run at the byte (`found`); if its width is odd its rows are written again, and else its bytes are copied.
-- Assumes nothing.
use Rattle.std.specs.Prelude.{Option, Some, Ok, Err}
use Rattle.std.proofs.lemmas.Result.{err_from_is_err_and}
use Rattle.format.proofs.Common.{◌≡◌, sym, ◌∙◌, ℕ, ◌+◌, ◌-◌, ◌<◌, arith, Bool, List, length, take, drop, length-take-le, get_or, length-drop, ℤ, rules}
use Rattle.format.specs.Answers.{Answer}
use Rattle.format.specs.declared.Run.{Run}
use Rattle.format.specs.Promises.{RunRead}
use Rattle.format.proofs.Below.{below_all}
use Rattle.format.proofs.Rows.{byte-bounds}
use Rattle.convert.proofs.ConvertTurns.{One, Found, found, turned-odd, turned-even}
use Rattle.convert.proofs.turn.convert_run.Goals as goal

-- what the run reader finds: by its answer
says : (signed : Bool) (s : List ℕ) (p : ℕ) {rows rows' : List ℤ} (a : Answer) → ((i : ℕ) → get_or s i 0 < 256) → length rows ≡ 512
    → RunRead s p signed rows rows' a → Found signed s p rows' a
says signed s p a h l g = found signed s p _ _ a (below_all 256 s h) l g

-- and a run
ran : (signed : Bool) (s : List ℕ) (p : ℕ) {rows rows' : List ℤ} {o : Option Run} {r : Run} → ((i : ℕ) → get_or s i 0 < 256) → length rows ≡ 512
    → RunRead s p signed rows rows' (Ok o) → o ≡ Some r → One signed s p rows' r
ran signed s p {o = o} h l g e = rw e at (says signed s p (Ok o) h l g)

pub returns-in_err-r : goal.returns-in_err-r
returns-in_err-r c =
    let a = c.args in
    let p = err_from_is_err_and c.from_residual.result c.from_residual.ensures.1 in
    rw (p.1, p.2) (says a.signed a.input.now a.at.bytes (Err _) (search rules) (search rules) c.in_err-r.ensures)

pub returns-in_default : goal.returns-in_default
returns-in_default c =
    let a = c.args in
    rw c.in_default.is at (says a.signed a.input.now a.at.bytes (Ok _) (search rules) (search rules) c.in_ok-r.ensures)

pub bounds-input-p : goal.bounds-input-p
bounds-input-p c =
    let a = c.args in
    let o = ran a.signed a.input.now a.at.bytes (search rules) (search rules) c.in_ok-r.ensures c.in-Some.is in
    omega (arith, o.at.within, o.at.some_bytes)

pub rewrite-w-requires : goal.rewrite-w-requires
rewrite-w-requires c =
    let a = c.args in
    let o = ran a.signed a.input.now a.at.bytes (search rules) (search rules) c.in_ok-r.ensures c.in-Some.is in
    omega (arith, o.at.few)

pub returns-then-is_odd : goal.returns-then-is_odd
returns-then-is_odd c =
    let a = c.args in
    let o = ran a.signed a.input.now a.at.bytes (search rules) (search rules) c.in_ok-r.ensures c.in-Some.is in
    turned-odd o c.consumed.ensures c.requires (sym c.is_odd.ensures ∙ c.if-is_odd.true) c.rewrite-w.ensures

pub slice_bounds-source-end : goal.slice_bounds-source-end
slice_bounds-source-end c =
    let a = c.args in
    let o = ran a.signed a.input.now a.at.bytes (search rules) (search rules) c.in_ok-r.ensures c.in-Some.is in
    omega (arith, o.at.within)

pub slice_bounds-copy_from_slice-end : goal.slice_bounds-copy_from_slice-end
slice_bounds-copy_from_slice-end c =
    let a = c.args in
    let o = ran a.signed a.input.now a.at.bytes (search rules) (search rules) c.in_ok-r.ensures c.in-Some.is in
    omega (arith, o.at.bytes-are, byte-bounds o.at.run o.at.valid, c.requires)

pub slice_bounds-copy_from_slice-end-2 : goal.slice_bounds-copy_from_slice-end-2
slice_bounds-copy_from_slice-end-2 c =
    let a = c.args in
    let o = ran a.signed a.input.now a.at.bytes (search rules) (search rules) c.in_ok-r.ensures c.in-Some.is in
    sym (length-take-le c.in-Some.r.consumed.bytes a.run.now (omega (arith, o.at.bytes-are, byte-bounds o.at.run o.at.valid, c.requires)))

pub overflow_add-source : goal.overflow_add-source
overflow_add-source c =
    let a = c.args in
    let o = ran a.signed a.input.now a.at.bytes (search rules) (search rules) c.in_ok-r.ensures c.in-Some.is in
    omega (arith, o.at.within)

pub copy_from_slice-requires : goal.copy_from_slice-requires
copy_from_slice-requires c =
    let a = c.args in
    let o = ran a.signed a.input.now a.at.bytes (search rules) (search rules) c.in_ok-r.ensures c.in-Some.is in
    let n = c.in-Some.r.consumed.bytes in
    let z : (a.at.bytes + n) - a.at.bytes ≡ n = omega arith in
    let k : length (take n a.run.now) ≡ n = length-take-le n a.run.now (omega (arith, o.at.bytes-are, byte-bounds o.at.run o.at.valid, c.requires)) in
    let l : length (take n (drop a.at.bytes a.input.now)) ≡ n = length-take-le n _ (rw length-drop (omega (arith, o.at.within))) in
    rw (z, k, l)

pub returns : goal.returns
returns c =
    let a = c.args in
    let o = ran a.signed a.input.now a.at.bytes (search rules) (search rules) c.in_ok-r.ensures c.in-Some.is in
    let z : (a.at.bytes + c.in-Some.r.consumed.bytes) - a.at.bytes ≡ c.in-Some.r.consumed.bytes = omega arith in
    let q = rw z at c.copy_from_slice.ensures.after in
    turned-even o a.run.now (sym c.is_odd.ensures ∙ c.if-is_odd.false) (rw q)
