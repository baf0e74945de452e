-- Each promise is an equation for the answer, but two: a size is that of one pair of words only. Assumes nothing.
use Rattle.std.proofs.Common.{◌≡◌, ℕ, ◌+◌, ◌*◌, ◌<◌, sym, ◌∙◌, arith}
use Rattle.format.specs.Fields.{two64}
use Rattle.tally.specs.declared.sums.Wide.{Wide}
use Rattle.tally.specs.declared.sums.Tenth.{Tenth}
use Rattle.tally.specs.Wide.{size_of, IsTenth}
use Rattle.tally.specs.Text.{ShowDetermined}
use Rattle.tally.specs.Outcomes.{OfWide, TallyDetermined}

-- equal to one thing
same : {A : Type 0} {a : A} (r r' : A) → r ≡ a → r' ≡ a → r ≡ r'
same r r' p q = p ∙ sym q

high_same : (h l h' l' : ℕ) → l < two64 → l' < two64 → h * two64 + l ≡ h' * two64 + l' → h ≡ h'
high_same h l h' l' a b e = omega arith

size-wide : (w v : Wide) → OfWide w → OfWide v → size_of w ≡ size_of v → w ≡ v
size-wide w v a b e =
    let h : w.high ≡ v.high = high_same w.high w.low v.high v.low a.low b.low e in
    let l : w.low ≡ v.low = omega arith in
    λ i. record { high = h i; low = l i }

tenth-same : (n : ℕ) (r r' : Tenth) → OfWide r.quotient × IsTenth n (size_of r.quotient) r.digit
    → OfWide r'.quotient × IsTenth n (size_of r'.quotient) r'.digit → r ≡ r'
tenth-same n r r' p q =
    let w = size-wide r.quotient r'.quotient p.0 q.0 (p.1.quotient_is ∙ sym q.1.quotient_is) in
    let d = p.1.digit-is ∙ sym q.1.digit-is in
    λ i. record { quotient = w i; digit = d i }

pub tally-determined : TallyDetermined
tally-determined = record {
  of_row = λ row. same;
  plus = λ w v. same;
  is_negative = λ w. same;
  size = λ w r r' p q. size-wide r r' p.0 q.0 (p.1 ∙ sym q.1);
  tenth = λ w. tenth-same (size_of w);
  lower_of = λ a b. same;
  higher-of = λ a b. same;
  to = λ a. same;
  none = same;
  combine = λ t u. same;
  take = λ t reply rows. same;
}

pub show-determined : ShowDetermined
show-determined t out out' out'' r r' p q = (p.count ∙ sym q.count, p.places ∙ sym q.places)
