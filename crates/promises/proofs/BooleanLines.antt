-- From the line to the refusal of booleans. Assumes nothing.
use Rattle.format.proofs.Common.{◌≡◌, ap, ℕ, zero, suc, ◌+◌, ◌-◌, ◌<◌, ◌≤◌, le_refl, arith, List, [], ◌∷◌, ◌++◌, append_assoc, append-nil}
use Rattle.format.proofs.Common.{length, drop, length-append, drop_of_length-le, drop-append-add, ne_eqb}
use Rattle.format.specs.Parse.{Reason, cut_in, refused}
use Rattle.format.specs.Booleans.{ByteRun, AllValidRuns, run_layout, run_bytes, byte_count, joined_runs, joined_bytes, byte_run, byte_runs}
use Rattle.format.proofs.ByteRuns.{layout-pos, run-complete}
use Rattle.format.proofs.Booleans.{length_run}
use Rattle.promises.specs.BooleansAndValues.{behind, CutShort, no-control, in-run}
use Rattle.promises.proofs.BooleanFates.{cut-run}

-- ---- and back: from the line to the refusal

module _ (t : List ℕ) (r : Reason) (stuck : (f m : ℕ) → 0 < m → length t ≤ f → byte_runs f m t ≡ refused r) where
  behind-runs : (f m : ℕ) (ds : List ByteRun) → AllValidRuns ds → length (joined_bytes ds) < m → length (joined_runs ds ++ t) ≤ f
      → byte_runs f m (joined_runs ds ++ t) ≡ refused r
  unfolding byte_runs joined_runs joined_bytes
  behind-runs f m [] v l h = stuck f m (omega arith) h
  behind-runs zero m (d ∷ ds) v l h =
      absurd (omega (arith, h, layout-pos d, length-append (run_layout d ++ joined_runs ds) t, length-append (run_layout d) (joined_runs ds)))
  behind-runs (suc f) m (d ∷ ds) v l h =
      let k : length (run_bytes d ++ joined_bytes ds) ≡ byte_count d + length (joined_bytes ds) =
      omega (arith, length-append (run_bytes d) (joined_bytes ds), length_run d) in
      rw (
        ne_eqb m 0 (omega arith),
        append_assoc (run_layout d) (joined_runs ds) t,
        run-complete d (joined_runs ds ++ t) v.0,
        behind-runs f (m - byte_count d) ds v.1 (omega arith)
            (omega (arith, h, layout-pos d, length-append (run_layout d) (joined_runs ds ++ t), ap length (append_assoc (run_layout d) (joined_runs ds) t))),
      )

stuck-none : (f m : ℕ) → 0 < m → 0 ≤ f → byte_runs f m [] ≡ refused (cut_in 6 [])
unfolding byte_runs byte_run
stuck-none zero m h l = rw (ne_eqb m 0 (omega arith))
stuck-none (suc f) m h l = rw (ne_eqb m 0 (omega arith))

stuck-cut : (c : ℕ) (rest : List ℕ) → length rest < behind c → (f m : ℕ) → 0 < m → length (c ∷ rest) ≤ f → byte_runs f m (c ∷ rest) ≡ refused (cut_in 13 rest)
unfolding byte_runs
stuck-cut c rest k zero m h l = absurd (omega arith)
stuck-cut c rest k (suc f) m h l = rw (ne_eqb m 0 (omega arith), cut-run c rest k)

pub line : (m : ℕ) (bs : List ℕ) {k field : ℕ} → CutShort bs m k field → byte_runs (length bs) m bs ≡ refused (cut_in k (drop field bs))
line m bs (no-control ds v l e) =
    rw (e, drop_of_length-le (joined_runs ds) {i = length (joined_runs ds)} (le_refl _))
    (rw (append-nil (joined_runs ds)) at
    (behind-runs [] (cut_in 6 []) stuck-none (length (joined_runs ds)) m ds v l (rw (append-nil (joined_runs ds)) (le_refl _))))
line m bs (in-run ds c rest v l e h) =
    rw (e, drop-append-add (joined_runs ds) (c ∷ rest) 1) (behind-runs (c ∷ rest) (cut_in 13 rest) (stuck-cut c rest h) _ m ds v l (le_refl _))

-- the field begins in the input
pub field-le : (m : ℕ) (bs : List ℕ) {k field : ℕ} → CutShort bs m k field → field ≤ length bs
field-le m bs (no-control ds v l e) = omega (arith, ap length e)
field-le m bs (in-run ds c rest v l e h) = omega (arith, ap length e, length-append (joined_runs ds) (c ∷ rest))
