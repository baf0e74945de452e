-- Three pieces are laid one after another, and joined they are the start of the run. Assumes nothing.
use Rattle.format.proofs.Common.{◌≡◌, refl, sym, ap, ◌∙◌, List, ◌++◌, append_assoc, ℕ, length, drop, length-append}
use Rattle.format.specs.Fields.{shortest}
use Rattle.format.specs.Runs.{head}
use Rattle.writer.specs.Start.{start}
use Rattle.writer.proofs.Pieces.{behind}
use Rattle.writer.proofs.delta.write_start.Goals as goal

pub returns : goal.returns
unfolding start
returns c =
    let w3 = c.write-bytes in
    let w2 = c.write-at in
    let w1 = c.write in
    let a = c.args in
    let h : List ℕ = head 3 a.code a.rows.rows in
    let f : List ℕ = shortest a.first in
    let b : List ℕ = shortest a.base in
    let out : List ℕ = a.out.now in
    let one : w2.new.out ≡ (h ++ f) ++ drop (length (h ++ f)) out =
    behind h f out w1.new.out w2.new.out 2 (length f) refl refl w1.ensures w2.ensures.places in
    let at : w2.result ≡ length (h ++ f) = w2.ensures.next ∙ sym (length-append h f) in
    let two : w3.new.out ≡ ((h ++ f) ++ b) ++ drop (length ((h ++ f) ++ b)) out =
    behind (h ++ f) b out w2.new.out w3.new.out w2.result (length b) at refl one w3.ensures.places in
    let all : (h ++ f) ++ b ≡ start a.code a.rows.rows a.first a.base = append_assoc h f b in
    record {
      next = w3.ensures.next ∙ rw (at, ← (length-append (h ++ f) b)) (ap (λ (l : List ℕ). length l) all);
      places = two ∙ ap (λ (l : List ℕ). l ++ drop (length l) out) all;
    }
