-- Byte values: exactly the first n bytes if they are there; if not, refusal 6, whose place and cut field are the call's position. Assumes
-- nothing.
use Rattle.format.proofs.Common.{◌≡◌, refl, ◌↔◌, ℕ, ◌+◌, ◌-◌, ◌<◌, ◌≤◌, arith, List, [], ◌++◌, length, take, le-leb, lt-leb}
use Rattle.format.specs.declared.Kind.TheVariants.{ByteValues}
use Rattle.format.specs.Digits.{AllBelow}
use Rattle.format.specs.Parse.{got, bytes}
use Rattle.format.specs.Answers.{ran, cut_at}
use Rattle.format.specs.ByteValues.{byte_value, value_answer, value_part}
use Rattle.format.proofs.Posts.{Took, of-got}
use Rattle.format.proofs.Fields.{IsBytes, bytes-complete, bytes-sound}

-- what is taken is exactly a value of length n, and what follows it
pub value-exactly : (n : ℕ) (bs v rest : List ℕ) → AllBelow 256 bs → (byte_value n bs ≡ got v rest) ↔ ((length v ≡ n) × (bs ≡ v ++ rest))
value-exactly n bs v rest h = (
  (λ e. let t : Took bs (λ v. v) (IsBytes n) v rest = of-got (rw e at (bytes-sound 6 n bs h)) in (t.ok.count, t.split)),
  (λ p. rw p.1 (bytes-complete 6 n v rest p.0)),
)

module _ (at n : ℕ) (bs : List ℕ) where
  pub value_there : n ≤ length bs → (value_answer at (length bs) n (byte_value n bs) ≡ ran ByteValues 8 n n) × (value_part (byte_value n bs) ≡ take n bs)
  unfolding bytes
  value_there h = rw (le-leb n (length bs) h) (refl, refl)

  pub value-cut : length bs < n → (value_answer at (length bs) n (byte_value n bs) ≡ cut_at 6 at at) × (value_part (byte_value n bs) ≡ [])
  unfolding bytes
  value-cut h =
      let e : at + (length bs - length bs) ≡ at = omega arith in
      rw (lt-leb n (length bs) h, e) (refl, refl)

-- 0 gives an empty part, past the end too
pub value_none : (at : ℕ) (bs : List ℕ) → (value_answer at (length bs) 0 (byte_value 0 bs) ≡ ran ByteValues 8 0 0) × (value_part (byte_value 0 bs) ≡ [])
value_none at bs = value_there at 0 bs (omega arith)
