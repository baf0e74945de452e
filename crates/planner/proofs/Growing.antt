-- Runs laid one behind the other: what stands so far, then what is still to come, is the whole. Assumes nothing.
use mathlib.Core.Path.{◌≡◌, refl, ap, ◌∙◌}
use Prim.Native.Nat.{ℕ, ◌+◌, ◌-◌, ◌≤◌}
use native.Mathlib.Omega.{arith}
use mathlib.Core.List.{List, [], ◌++◌, append_assoc}
use lib.ListN.{length, take, drop, length-append}
use lib.Seq.{length-take-le}
use Rattle.util.proofs.Grow.{rest-is, back_is, front-is, kept_by, long-by, filled}

pub record Grown (whole out₀ out : List ℕ) (bytes : ℕ) (rest : List ℕ) : Type 0 where
  pub all : take bytes out ++ rest ≡ whole
  pub kept : drop bytes out ≡ drop bytes out₀
  pub long : length out ≡ length out₀
  pub inside : bytes ≤ length out
  pub room : length whole ≤ length out

pub grown-first : (whole out₀ : List ℕ) → length whole ≤ length out₀ → Grown whole out₀ out₀ 0 whole
grown-first whole out₀ h = record { all = refl; kept = refl; long = refl; inside = omega arith; room = h }

module _ {whole out₀ out : List ℕ} {bytes : ℕ} where
  -- there is room for what is to come
  pub grown-sum : {rest : List ℕ} → Grown whole out₀ out bytes rest → bytes + length rest ≡ length whole
  grown-sum {rest} g =
      omega (arith, ap (λ (l : List ℕ). length l) g.all, length-append (take bytes out) rest, length-take-le bytes out g.inside)

  -- one more of them, in the part that was lent and came back
  pub grown-next : (r rest part : List ℕ) → Grown whole out₀ out bytes (r ++ rest) → part ≡ r ++ drop (length r) (take (length out - bytes) (drop bytes out))
      → Grown whole out₀ (take bytes out ++ (part ++ drop (length out - bytes) (drop bytes out))) (bytes + length r) rest
  grown-next r rest part g e =
      let f : part ≡ r ++ drop (length r) (drop bytes out) = rw (rest-is out bytes) at e in
      let b : take bytes out ++ (part ++ drop (length out - bytes) (drop bytes out)) ≡ (take bytes out ++ r) ++ drop (bytes + length r) out =
      back_is out part r bytes (length r) f in
      let s : bytes + length r ≤ length out = omega (arith, grown-sum g, length-append r rest, g.room) in
      let n = long-by out _ r bytes (length r) g.inside refl b s in
      record {
        all = rw (front-is out _ r bytes (length r) g.inside refl b, append_assoc) g.all;
        kept = kept_by out _ r bytes (length r) g.inside refl b out₀ g.kept;
        long = n ∙ g.long;
        inside = rw n s;
        room = rw n g.room;
      }

  pub grown-end : Grown whole out₀ out bytes [] → out ≡ whole ++ drop (length whole) out₀
  grown-end g =
      let n : bytes ≡ length whole = omega (arith, grown-sum g) in
      rw n at (filled out out₀ whole bytes g.all g.kept)
