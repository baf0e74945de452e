-- Bytes laid behind others, in so much room. Assumes nothing.
use Rattle.format.proofs.Common.{◌≡◌, refl, sym, ap, ◌∙◌, ℕ, ◌+◌, ◌-◌, ◌<◌, ◌≤◌, arith, List, ◌++◌, length, take, drop}
use Rattle.format.proofs.Common.{length-append, length-drop, length-take-le, take_at, drop_at, drop-drop}
use Rattle.std.specs.Prelude.{Some, None}
use Rattle.format.specs.declared.ByteOffset.{ByteOffset}
use Rattle.convert.specs.Walk.{Put, Lays}

module _ (run : List ℕ) (n : ℕ) (room : ℕ) (out : List ℕ) (some : n ≤ length run) where
  longer : (l : List ℕ) → length (l ++ take n run) ≡ length l + n
  longer l = length-append l (take n run) ∙ ap (λ (k : ℕ). length l + k) (length-take-le n run some)

  -- no room before, or none now
  pub lays-full : Lays run n None room out out None
  lays-full = record { long = refl; more = λ l out₀ f. rw (longer l) (omega (arith, f)) }

  pub lays-over : (end : ByteOffset) → room - end.bytes < n → Lays run n (Some end) room out out None
  lays-over end h = record { long = refl; more = λ l out₀ f. rw (longer l) (omega (arith, h, f.end_is, f.end-in)) }

  -- room for them
  module _ (end : ByteOffset) (h : n ≤ room - end.bytes) (i : end.bytes ≤ room) (out' : List ℕ) (p : Put run n end.bytes out out') where
    behind : (l out₀ : List ℕ) → end.bytes ≡ length l → length l ≤ length out₀ → length l + n ≤ length out₀ → out ≡ l ++ drop (length l) out₀
        → out' ≡ (l ++ take n run) ++ drop (length l + n) out₀
    behind l out₀ e a b o =
        let m : length out ≡ length out₀ = ap (λ (x : List ℕ). length x) o ∙ length-append l (drop (length l) out₀)
        ∙ omega (arith, length-drop (length l) out₀) in
        let q : out' ≡ (take (length l) out ++ take n run) ++ drop (length l + n) out = rw e at (p (omega (arith, m, e))) in
        let x : take (length l) out ≡ l = rw o (take_at l (drop (length l) out₀) (length l) refl) in
        let y : drop (length l) out ≡ drop (length l) out₀ = ap (λ (z : List ℕ). drop (length l) z) o ∙ drop_at l (drop (length l) out₀) (length l) refl in
        let w : drop (length l + n) out ≡ drop (length l + n) out₀ =
        sym (drop-drop n (length l) out) ∙ ap (λ (z : List ℕ). drop n z) y ∙ drop-drop n (length l) out₀ in
        q ∙ rw (x, w)

    pub lays_more : length out' ≡ length out → Lays run n (Some end) room out out' (Some (record { bytes = end.bytes + n }))
    lays_more long = record {
      long = long;
      more = λ l out₀ f.
          let e : end.bytes ≡ length l = f.end_is in
          record {
            end_is = rw (longer l) (omega (arith, e));
            end-in = omega (arith, h, i);
            laid = λ q. rw (longer l) (behind l out₀ e (omega (arith, e, i, q)) (omega (arith, e, h, i, q)) (f.laid q));
          };
    }
