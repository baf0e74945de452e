-- A delta run's rows, as they are laid down. Assumes nothing.
use mathlib.Core.Path.{◌≡◌, sym, ap, ◌∙◌}
use Prim.Native.Nat.{ℕ, ◌+◌, ◌-◌, ◌^◌, ◌≤◌}
use native.Mathlib.Omega.{arith}
use mathlib.Core.Bool.{Bool}
use mathlib.Core.List.{List, [], ◌∷◌, ◌++◌, map}
use lib.ListN.{length, take, drop}
use lib.Seq.{drop-drop}
use native.Mathlib.Nat.{add_comm}
use Rattle.util.proofs.Grow.{back_is, rest-is}
use lib.IntN.{ℤ}
use lib.Dec.{leb}
use borrow.Author.Tests.{eq-eqb, ne_eqb}
use Rattle.format.specs.Fields.{row, zigzag}
use Rattle.format.specs.Rows as Rows
use Rattle.format.specs.Rows.{plus, as_i64}
use Rattle.rle_v2.specs.Pass.{stepped, summed, laid}
use Rattle.rle_v2.specs.declared.delta.Found.{Found}
use Rattle.rle_v2.specs.DeltaStart.{delta_rows}
use Rattle.util.specs.Packed.{fields}
use Rattle.rle_v2.proofs.Pass.{stepped-is}

-- the first two rows, and a part from there on that came back with the others
pub laid-is : (first step n : ℕ) (ms out one part : List ℤ) → n + 2 ≤ length out → one ≡ stepped first step (take 2 out) ++ drop 2 out
    → part ≡ summed (leb (2 ^ 63) step) (plus first step) ms ++ drop n (take (length one - 2) (drop 2 one))
    → take 2 one ++ (part ++ drop (length one - 2) (drop 2 one)) ≡ laid first step ms ++ drop (n + 2) out
unfolding Rows.steps
laid-is first step n ms out one part h e f =
    let g : one ≡ (as_i64 first ∷ as_i64 (plus first step) ∷ []) ++ drop 2 out = e ∙ ap (λ (l : List ℤ). l ++ drop 2 out) (stepped-is first step 2 out (omega arith)) in
    let d : drop (2 + n) one ≡ drop (n + 2) out = sym (drop-drop n 2 one) ∙ ap (λ (l : List ℤ). drop n (drop 2 l)) g ∙ drop-drop n 2 out ∙ ap (λ (k : ℕ). drop k out) (add_comm 2 n) in
    let t : take 2 one ≡ as_i64 first ∷ as_i64 (plus first step) ∷ [] = ap (λ (l : List ℤ). take 2 l) g in
    back_is one part (summed (leb (2 ^ 63) step) (plus first step) ms) 2 n (rw (rest-is one 2) at f) ∙ rw (t, d)

module _ (s : List ℕ) (signed : Bool) (f : Found) (out out' : List ℤ) where
  abbrev first : ℕ
  first = row signed f.first

  abbrev step : ℕ
  step = zigzag f.base

  pub steps-laid : f.bits ≡ 0 → f.rows.rows ≤ length out → out' ≡ stepped first step (take f.rows.rows out) ++ drop f.rows.rows out → out' ≡ delta_rows s signed f ++ drop f.rows.rows out
  steps-laid z h e = e ∙ rw (eq-eqb f.bits 0 z, stepped-is first step f.rows.rows out h)

  pub packed-laid : (x y : ℕ) → x ≡ first → y ≡ step → (f.bits ≡ 0 → ⊥) → 2 ≤ f.rows.rows
      → out' ≡ laid x y (map as_i64 (fields f.bits (f.rows.rows - 2) (drop f.next.bytes s))) ++ drop (f.rows.rows - 2 + 2) out → out' ≡ delta_rows s signed f ++ drop f.rows.rows out
  packed-laid x y p q z h e =
      let k : f.rows.rows - 2 + 2 ≡ f.rows.rows = omega arith in
      rw (k, p, q) at e ∙ rw (ne_eqb f.bits 0 z)
