-- A delta: two varints, and then, unless the code is 0, the magnitudes; its refusals, each with its line. Assumes nothing.
use Rattle.format.proofs.Common.{◌≡◌, refl, ap, ◌∙◌, ◌⊎◌, inl, inr, ℕ, zero, suc, ◌+◌, ◌-◌, ◌/◌, ◌<◌, ◌≤◌, dec_lt, arith, List, ◌∷◌, ◌++◌}
use Rattle.format.proofs.Common.{append_assoc, length, drop, length-append, drop_at, eqb, ne_eqb, eq-eqb}
use Rattle.format.specs.Digits.{AllBelow}
use Rattle.format.specs.Fields.{pick, width, Varint}
use Rattle.format.specs.Runs.{Description, fixed, delta}
use Rattle.format.specs.Parse
use Rattle.format.specs.Parse.{plain, cut_in, Parsed, got, refused, then, unless, block, varint, code_of, rows_less, parse}
use Rattle.format.proofs.Fields.{varint-complete}
use Rattle.format.proofs.Reading.{block_here, block-cut}
use Rattle.promises.specs.Refusals
use Rattle.promises.specs.Refusals.{refusal-4, refusal-5, CutLine, by_number, by_field}
use Rattle.promises.specs.Refusals.{DeltaRun, magnitude_bytes}
use Rattle.promises.proofs.Fates.{VarintRead, read-varint, read_above, read-end, varint-read, Fate, a-run, by-line}

-- ---- delta: two varints, and then, unless the code is 0, the magnitudes

abbrev after_varints : ℕ → ℕ → List ℕ → List ℕ → List ℕ → Parsed Description
after_varints zero rows v w s = got (fixed rows v w) s
after_varints (suc c) rows v w s = then (block 13 (width (suc c)) (rows - 2) s) λ k rest. got (delta (suc c) v w k) rest

-- what stands behind one varint, and behind two
pub behind-one : (a b : ℕ) (s v rest : List ℕ) → s ≡ v ++ rest → drop (2 + length v) (a ∷ b ∷ s) ≡ rest
behind-one a b s v rest e = rw e (drop_at (a ∷ b ∷ v) rest (2 + length v) (omega arith))

pub behind-two : (a b : ℕ) (s v w rest : List ℕ) → s ≡ v ++ (w ++ rest) → drop (2 + (length v + length w)) (a ∷ b ∷ s) ≡ rest
behind-two a b s v w rest e = rw (e, ← (append_assoc v w rest)) (drop_at (a ∷ b ∷ (v ++ w)) rest (2 + (length v + length w)) (omega (arith, length-append v w)))

module _ (places a b : ℕ) (s : List ℕ) (k : a / 64 ≡ 3) where
  cut-there : (n field : ℕ) {rest : List ℕ} → drop field (a ∷ b ∷ s) ≡ rest → CutLine (a ∷ b ∷ s) n field → Fate places (a ∷ b ∷ s) (refused (cut_in n rest))
  cut-there n field e c = rw (← e) (by-line (by_field c))

  pub delta-4 : 1 ≤ code_of a → rows_less a b + 1 ≡ 1 → parse (a ∷ b ∷ s) ≡ refused (plain 4)
  unfolding parse Parse.by_kind Parse.delta_run
  delta-4 h l = rw (k, ne_eqb (code_of a) 0 (omega arith), eq-eqb (rows_less a b) 0 (omega arith))

  module _ (not-4 : (code_of a ≡ 0) ⊎ (2 ≤ rows_less a b + 1)) where
    delta-run : DeltaRun (a ∷ b ∷ s)
    delta-run = record { headed = record { is-kind = k; header = omega arith }; not-4 = not-4 }

    pub delta-body : parse (a ∷ b ∷ s)
        ≡ (then (varint (cut_in 12 s) 10 s) λ v t. then (varint (cut_in 12 t) 10 t) λ w rest. after_varints (code_of a)
        (rows_less a b + 1) v w rest)
    unfolding parse Parse.by_kind Parse.delta_run Parse.fixed_body Parse.delta_body
    delta-body = rw k (go (code_of a) not-4)
      where
        go : (c : ℕ) → (c ≡ 0) ⊎ (2 ≤ rows_less a b + 1)
            → pick (eqb c 0) (Parse.fixed_body (rows_less a b + 1) s) (unless (eqb (rows_less a b) 0) 4 (Parse.delta_body c (rows_less a b - 1) s))
            ≡ (then (varint (cut_in 12 s) 10 s) λ v t. then (varint (cut_in 12 t) 10 t) λ w rest. after_varints c (rows_less a b + 1) v w rest)
        go zero h = refl
        go (suc c) (inl h) = absurd (omega arith)
        go (suc c) (inr h) =
            let e : rows_less a b - 1 ≡ rows_less a b + 1 - 2 = omega arith in
            rw (ne_eqb (suc c) 0 (omega arith), ne_eqb (rows_less a b) 0 (omega arith), e)

    -- behind the first row, and behind both varints
    pub behind-first : (v rest : List ℕ) → s ≡ v ++ rest → Varint 10 v
        → parse (a ∷ b ∷ s) ≡ (then (varint (cut_in 12 rest) 10 rest) λ w t. after_varints (code_of a) (rows_less a b + 1) v w t)
    behind-first v rest e h = delta-body ∙ rw (e, varint-complete _ 10 v rest h)

    pub behind-both : (v w rest : List ℕ) → s ≡ v ++ (w ++ rest) → Varint 10 v → Varint 10 w
        → parse (a ∷ b ∷ s) ≡ after_varints (code_of a) (rows_less a b + 1) v w rest
    behind-both v w rest e h g = behind-first v (w ++ rest) e h ∙ rw (varint-complete _ 10 w rest g)

    pub magnitudes-cut : (c : ℕ) (v w rest : List ℕ) → length rest < magnitude_bytes c (rows_less a b + 1)
        → after_varints c (rows_less a b + 1) v w rest ≡ refused (cut_in 13 rest)
    magnitudes-cut zero v w rest h = absurd (omega (arith, h))
    magnitudes-cut (suc c) v w rest h = rw (block-cut rest 0 13 (width (suc c)) (rows_less a b + 1 - 2) (omega (arith, h)))

    magnitudes-fate : (c : ℕ) → code_of a ≡ c → (v w rest : List ℕ) → s ≡ v ++ (w ++ rest) → Varint 10 v → Varint 10 w
        → Fate places (a ∷ b ∷ s) (after_varints c (rows_less a b + 1) v w rest)
    magnitudes-fate zero e v w rest f h g = a-run
    magnitudes-fate (suc c) e v w rest f h g = go (dec_lt (length rest) (magnitude_bytes (suc c) (rows_less a b + 1)))
      where
        go : Dec (length rest < magnitude_bytes (suc c) (rows_less a b + 1)) → Fate places (a ∷ b ∷ s) (after_varints (suc c) (rows_less a b + 1) v w rest)
        go (yes l) = rw (magnitudes-cut (suc c) v w rest l)
            (cut-there _ _ (behind-two a b s v w rest f) (Refusals.in-magnitudes v w rest delta-run f h g (rw e l)))
        go (no l) = rw (block_here rest 0 13 (width (suc c)) (rows_less a b + 1 - 2) (omega arith)) a-run

    second : (v rest : List ℕ) → s ≡ v ++ rest → Varint 10 v → {m : Parsed (List ℕ)} → VarintRead (cut_in 12 rest) 9 rest m
        → Fate places (a ∷ b ∷ s) (then m λ w t. after_varints (code_of a) (rows_less a b + 1) v w t)
    second v rest e h (read-varint {v = w} {rest = t} g f r) =
        magnitudes-fate (code_of a) refl v w t (e ∙ ap (λ (x : List ℕ). v ++ x) f) h g
    second v rest e h (read_above t) = by-line (by_number (refusal-5 (Refusals.base-delta v rest delta-run e h t)))
    second v rest e h (read-end t) = cut-there _ _ (behind-one a b s v rest e) (Refusals.in-base-delta v rest delta-run e h t)

    first : {m : Parsed (List ℕ)} → VarintRead (cut_in 12 s) 9 s m
        → Fate places (a ∷ b ∷ s) (then m λ v t. then (varint (cut_in 12 t) 10 t) λ w rest. after_varints (code_of a) (rows_less a b + 1) v w rest)
    first (read-varint {v = v} {rest = t} h e r) = second v t e h (varint-read (cut_in 12 t) 9 t r)
    first (read_above t) = by-line (by_number (refusal-5 (Refusals.first-row delta-run t)))
    first (read-end t) = by-line (by_field (Refusals.in-first-row delta-run t))

  pub delta-fate : AllBelow 256 s → Fate places (a ∷ b ∷ s) (parse (a ∷ b ∷ s))
  delta-fate h = go (dec_lt 0 (code_of a)) (dec_lt 1 (rows_less a b + 1))
    where
      by : (code_of a ≡ 0) ⊎ (2 ≤ rows_less a b + 1) → Fate places (a ∷ b ∷ s) (parse (a ∷ b ∷ s))
      by n = rw (delta-body n) (first n (varint-read (cut_in 12 s) 9 s h))

      go : Dec (0 < code_of a) → Dec (1 < rows_less a b + 1) → Fate places (a ∷ b ∷ s) (parse (a ∷ b ∷ s))
      go (no x) y = by (inl (omega arith))
      go (yes x) (yes y) = by (inr y)
      go (yes x) (no y) = rw (delta-4 x (omega arith)) (by-line (by_number (refusal-4 (record { is-kind = k; header = omega arith }, x, omega arith))))
