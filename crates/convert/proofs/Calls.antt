-- From the two walks to the promise of the call. Assumes nothing.
use Rattle.format.proofs.Common.{◌≡◌, refl, sym, ap, ◌∙◌, ℕ, ◌-◌, arith, le_refl, Bool, List, [], ◌∷◌, ◌++◌, append-nil, length, take, drop}
use Rattle.format.proofs.Common.{drop_of_length-le, take_all}
use Rattle.format.specs.declared.Refusal.{Refusal}
use Rattle.format.proofs.Tests.{never}
use Rattle.convert.specs.declared.Conversion.{Conversion}
use Rattle.std.specs.Prelude.{Result}
use Rattle.std.specs.Prelude.{Ok, Err}
use Rattle.convert.specs.Convert.{Outcome, result, own, eight, told_as, convert, Converts}
use Rattle.convert.specs.Walk.{Walked}

none : (l : List ℕ) → length l ≡ 0 → l ≡ []
none [] e = refl
none (x ∷ l) e = absurd (omega arith)

-- a part of no bytes comes back as it went
pub back_none : (out part : List ℕ) → length part ≡ length (take (length out - length out) (drop (length out) out))
    → take (length out) out ++ (part ++ drop (length out - length out) (drop (length out) out)) ≡ out
back_none out part e =
    let d : drop (length out) out ≡ [] = drop_of_length-le out {i = length out} (le_refl _) in
    let z : length out - length out ≡ 0 = omega arith in
    let p : part ≡ [] = none part (rw (d, z) at e) in
    rw (d, z, p, append-nil, take_all (length out) out (le_refl _))

module _ (signed : Bool) (bs out lent part : List ℕ) (r : Result Conversion Refusal) (w : Walked signed bs (length out) lent part r) where
  pub converts-refused : (f : Refusal) → r ≡ Err f → (out' : List ℕ) → out' ≡ out → Converts signed bs out out' (Err f)
  converts-refused f e out' o = by (convert signed bs (length out)) refl (sym e ∙ w.answer)
    where
      by : (m : Outcome) → convert signed bs (length out) ≡ m → Err f ≡ told_as (length bs) (convert signed bs (length out))
          → Converts signed bs out out' (Err f)
      by (result a b) g h = never (cc (rw g at h))
      by (own q place) g h = record { answer = h; places = o ∙ rw g }
      by eight g h = record { answer = h; places = o ∙ rw g }

  pub converts-done : (n : Conversion) → r ≡ Ok n → (mid out' : List ℕ) (r' : Result Conversion Refusal) → mid ≡ out → Walked signed bs (length out) mid out' r'
      → Converts signed bs out out' r'
  converts-done n e mid out' r' o v = by (convert signed bs (length out)) refl (sym e ∙ w.answer)
    where
      by : (m : Outcome) → convert signed bs (length out) ≡ m → Ok n ≡ told_as (length bs) (convert signed bs (length out)) → Converts signed bs out out' r'
      by (result a b) g h = record { answer = v.answer; places = v.places (ap (λ (l : List ℕ). length l) o) a b g ∙ rw (g, o) }
      by (own q place) g h = never (cc (rw g at h))
      by eight g h = never (cc (rw g at h))
