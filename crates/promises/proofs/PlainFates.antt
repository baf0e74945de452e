-- Short repeats and direct runs: their refusals, each with its line. Assumes nothing.
use Rattle.format.proofs.Common.{◌≡◌, ℕ, ◌+◌, ◌*◌, ◌/◌, ◌%◌, ◌<◌, ◌≤◌, dec_lt, arith, List, ◌∷◌, length, take, drop}
use Rattle.format.specs.Fields.{width, bytes_for}
use Rattle.format.specs.Runs.{short, direct}
use Rattle.format.specs.Parse
use Rattle.format.specs.Parse.{cut_in, got, refused, code_of, rows_less, parse}
use Rattle.format.proofs.Reading.{bytes-here, bytes_cut, block_at, block_here, block-cut}
use Rattle.promises.specs.Refusals
use Rattle.promises.specs.Refusals.{by_field}
use Rattle.promises.proofs.Fates.{Fate, a-run, by-line}

-- ---- short repeat and direct

module _ (places a : ℕ) (s : List ℕ) (k : a / 64 ≡ 0) where
  pub short_cut : length (a ∷ s) < 1 + (a / 8 + 1) → parse (a ∷ s) ≡ refused (cut_in 6 s)
  unfolding parse Parse.by_kind Parse.short_run
  short_cut h = rw (k, bytes_cut (a ∷ s) 1 6 (a / 8 + 1) (omega arith))

  short-got : 1 + (a / 8 + 1) ≤ length (a ∷ s) → parse (a ∷ s) ≡ got (short (a % 8 + 3) (take (a / 8 + 1) s)) (drop (1 + (a / 8 + 1)) (a ∷ s))
  unfolding parse Parse.by_kind Parse.short_run
  short-got h = rw (k, bytes-here (a ∷ s) 1 6 (a / 8 + 1) (omega arith))

  pub short-fate : Fate places (a ∷ s) (parse (a ∷ s))
  short-fate = go (dec_lt (length (a ∷ s)) (1 + (a / 8 + 1)))
    where
      go : Dec (length (a ∷ s) < 1 + (a / 8 + 1)) → Fate places (a ∷ s) (parse (a ∷ s))
      go (yes h) = rw (short_cut h) (by-line (by_field (Refusals.in-value (record { is-kind = k; header = omega arith }) h)))
      go (no h) = rw (short-got (omega arith)) a-run

module _ (places a b : ℕ) (s : List ℕ) (k : a / 64 ≡ 1) where
  pub direct-cut : length (a ∷ b ∷ s) < 2 + bytes_for ((rows_less a b + 1) * width (code_of a)) → parse (a ∷ b ∷ s) ≡ refused (cut_in 13 s)
  unfolding parse Parse.by_kind Parse.direct_run
  direct-cut h = rw (k, block-cut (a ∷ b ∷ s) 2 13 (width (code_of a)) (rows_less a b + 1) (omega arith))

  direct-got : 2 + bytes_for ((rows_less a b + 1) * width (code_of a)) ≤ length (a ∷ b ∷ s)
      → parse (a ∷ b ∷ s) ≡ got (direct (code_of a) (block_at (a ∷ b ∷ s) 2 (width (code_of a)) (rows_less a b + 1)))
      (drop (2 + bytes_for ((rows_less a b + 1) * width (code_of a))) (a ∷ b ∷ s))
  unfolding parse Parse.by_kind Parse.direct_run
  direct-got h = rw (k, block_here (a ∷ b ∷ s) 2 13 (width (code_of a)) (rows_less a b + 1) (omega arith))

  pub direct-fate : Fate places (a ∷ b ∷ s) (parse (a ∷ b ∷ s))
  direct-fate = go (dec_lt (length (a ∷ b ∷ s)) (2 + bytes_for ((rows_less a b + 1) * width (code_of a))))
    where
      go : Dec (length (a ∷ b ∷ s) < 2 + bytes_for ((rows_less a b + 1) * width (code_of a))) → Fate places (a ∷ b ∷ s) (parse (a ∷ b ∷ s))
      go (yes h) = rw (direct-cut h) (by-line (by_field (Refusals.in_rows (record { is-kind = k; header = omega arith }) h)))
      go (no h) = rw (direct-got (omega arith)) a-run
