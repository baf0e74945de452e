-- The outcomes of a varint, each with the line of the table that gives it; and what is to be shown of each outcome of a run. Assumes nothing.
use Rattle.format.proofs.Common.{◌≡◌, refl, ap, ℕ, zero, suc, ◌≤◌, arith, Bool, true, false, List, [], ◌∷◌, ◌++◌, leb, ltb, le-leb, le-ltb}
use Rattle.format.proofs.Common.{leb-true, leb-false, ltb-true, ltb-false}
use Rattle.format.specs.Digits.{AllBelow}
use Rattle.format.specs.Fields.{pick, last_below, Varint, last, more}
use Rattle.format.specs.Runs.{Description}
use Rattle.format.specs.Parse.{Reason, plain, Parsed, end, got, refused, then, unless, varint}
use Rattle.promises.specs.Refusals.{TableGives}
use Rattle.promises.specs.Refusals.{TenthAbove, Unended}

-- ---- varints: each outcome, with its line

pub data VarintRead (c : Reason) (k : ℕ) (s : List ℕ) : Parsed (List ℕ) → Type 0 where
  read-varint : {v rest : List ℕ} → Varint (suc k) v → s ≡ v ++ rest → AllBelow 256 rest → VarintRead c k s (got v rest)
  read_above : TenthAbove k s → VarintRead c k s (refused (plain 5))
  read-end : Unended (suc k) s → VarintRead c k s (refused c)

module _ (c : Reason) where
  pub varint-read : (k : ℕ) (s : List ℕ) → AllBelow 256 s → VarintRead c k s (varint c (suc k) s)
  unfolding varint last_below
  varint-read k [] h = read-end (omega arith, tt)
  varint-read zero (b ∷ s) h = go (ltb b 128) (leb 2 b) refl refl
    where
      go : (t u : Bool) → ltb b 128 ≡ t → leb 2 b ≡ u → VarintRead c 0 (b ∷ s) (pick t (unless u 5 (got (b ∷ []) s)) (refused (plain 5)))
      go true true e f = read_above (omega arith, tt, leb-true 2 b f)
      go true false e f = read-varint (last {k = 0} (leb-false 2 b f)) refl h.1
      go false u e f = read_above (omega arith, tt, omega (arith, ltb-false b 128 e))
  varint-read (suc k) (b ∷ s) h = go (ltb b 128) (leb 128 b) refl refl (varint-read k s h.1)
    where
      behind : {m : Parsed (List ℕ)} → 128 ≤ b → VarintRead c k s m → VarintRead c (suc k) (b ∷ s) (then m λ v rest. got (b ∷ v) rest)
      behind g (read-varint v e r) = read-varint (more g h.0 v) (ap (λ (t : List ℕ). b ∷ t) e) r
      behind g (read_above t) = read_above (omega (arith, t.0), (g, t.1), t.2)
      behind g (read-end t) = read-end (omega (arith, t.0), (g, t.1))

      go : (t u : Bool) → ltb b 128 ≡ t → leb 128 b ≡ u → VarintRead c k s (varint c (suc k) s)
          → VarintRead c (suc k) (b ∷ s) (pick t (unless u 5 (got (b ∷ []) s)) (then (varint c (suc k) s) λ v rest. got (b ∷ v) rest))
      go true true e f r = absurd (omega (arith, ltb-true b 128 e, leb-true 128 b f))
      go true false e f r = read-varint (last {k = suc k} (ltb-true b 128 e)) refl h.1
      go false u e f r = behind (ltb-false b 128 e) r

  pub tenth-above : (k : ℕ) (s : List ℕ) → TenthAbove k s → varint c (suc k) s ≡ refused (plain 5)
  unfolding varint last_below
  tenth-above k [] h = absurd (omega (arith, h.0))
  tenth-above zero (b ∷ s) h = go (ltb b 128)
    where
      go : (t : Bool) → pick t (unless (leb 2 b) 5 (got (b ∷ []) s)) (refused (plain 5)) ≡ refused (plain 5)
      go true = rw (le-leb 2 b h.2)
      go false = refl
  tenth-above (suc k) (b ∷ s) h = rw (le-ltb b 128 h.1.0, tenth-above k s (omega (arith, h.0), h.1.1, h.2))

  pub unended : (k : ℕ) (s : List ℕ) → Unended k s → varint c k s ≡ refused c
  unfolding varint
  unended zero s h = absurd (omega (arith, h.0))
  unended (suc k) [] h = refl
  unended (suc k) (b ∷ s) h = rw (le-ltb b 128 h.1.0, unended k s (omega (arith, h.0), h.1.1))

-- ---- what is to be shown of each outcome

pub data Fate (places : ℕ) (bs : List ℕ) : Parsed Description → Type 0 where
  no_run : Fate places bs end
  a-run : {d : Description} {rest : List ℕ} → Fate places bs (got d rest)
  by-line : {r : Reason} → TableGives places bs r → Fate places bs (refused r)
