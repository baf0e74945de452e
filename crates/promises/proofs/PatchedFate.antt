-- A patched base run: its refusals, each with its line. Assumes nothing.
use Rattle.format.proofs.Common.{◌≡◌, refl, ℕ, ◌+◌, ◌*◌, ◌/◌, ◌%◌, ◌<◌, ◌≤◌, dec_lt, arith, Bool, true, false, List, ◌∷◌, length, take, drop}
use Rattle.format.proofs.Common.{T_not, lt-ltb, le-ltb}
use Rattle.format.specs.Fields.{width, bytes_for}
use Rattle.format.specs.Runs.{Description, patched, patches, too_large, out_of_place, entry_width}
use Rattle.format.specs.Parse
use Rattle.format.specs.Parse.{plain, cut_in, got, refused, unless, code_of, rows_less, parse}
use Rattle.format.proofs.Reading.{bytes-here, bytes_cut, block_at, block_here, block-cut}
use Rattle.promises.specs.Refusals
use Rattle.promises.specs.Refusals.{refusal-2, refusal-3, refusal-7, by_number, by_field}
use Rattle.promises.specs.Refusals.{PatchedRun, list_from, list_to, entries}
use Rattle.promises.proofs.PatchCases.{too_large_lem, out-of-place}
use Rattle.promises.proofs.Fates.{Fate, a-run, by-line}

-- ---- patched

module _ (places a b c e : ℕ) (s : List ℕ) (k : a / 64 ≡ 2) where
  abbrev bs : List ℕ
  bs = a ∷ b ∷ c ∷ e ∷ s

  abbrev rows : ℕ
  rows = rows_less a b + 1

  abbrev value : ℕ
  value = width (code_of a)

  abbrev pc : ℕ
  pc = c % 32

  abbrev gw : ℕ
  gw = e / 32 + 1

  pub patched-2 : 64 < width pc + gw → parse bs ≡ refused (plain 2)
  unfolding parse Parse.by_kind Parse.patched_run Parse.patched_body
  patched-2 h = rw (k, lt-ltb 64 (width pc + gw) h)

  module _ (not-2 : width pc + gw ≤ 64) where
    pub patched-base : length bs < 4 + (c / 32 + 1) → parse bs ≡ refused (cut_in 6 (drop 4 bs))
    unfolding parse Parse.by_kind Parse.patched_run Parse.patched_body
    patched-base h = rw (k, le-ltb 64 (width pc + gw) not-2, bytes_cut bs 4 6 (c / 32 + 1) (omega arith))

    pub patched-values : 4 + (c / 32 + 1) ≤ length bs → length bs < list_from bs → parse bs ≡ refused (cut_in 13 (drop (4 + (c / 32 + 1)) bs))
    unfolding parse Parse.by_kind Parse.patched_run Parse.patched_body
    patched-values l h =
        rw (
          k,
          le-ltb 64 (width pc + gw) not-2,
          bytes-here bs 4 6 (c / 32 + 1) (omega arith),
          block-cut bs (4 + (c / 32 + 1)) 13 value rows (omega arith),
        )

    pub patched-list : list_from bs ≤ length bs → length bs < list_to bs → parse bs ≡ refused (cut_in 14 (drop (list_from bs) bs))
    unfolding parse Parse.by_kind Parse.patched_run Parse.patched_body
    patched-list l h =
        rw (
          k,
          le-ltb 64 (width pc + gw) not-2,
          bytes-here bs 4 6 (c / 32 + 1) (omega arith),
          block_here bs (4 + (c / 32 + 1)) 13 value rows (omega arith),
          block-cut bs (4 + (c / 32 + 1) + bytes_for (rows * value)) 14 (entry_width pc gw) (e % 32) (omega arith),
        )

    pub patched-all : list_to bs ≤ length bs → (d : Description) × (rest : List ℕ)
        × (parse bs ≡ unless (too_large value (patches (width pc) (entries bs))) 3 (unless (out_of_place (width pc) rows (entries bs)) 7 (got d rest)))
    unfolding parse Parse.by_kind Parse.patched_run Parse.patched_body
    patched-all h = (
      patched (code_of a) (take (c / 32 + 1) (drop 4 bs)) pc gw (block_at bs (4 + (c / 32 + 1)) value rows)
          (block_at bs (4 + (c / 32 + 1) + bytes_for (rows * value)) (entry_width pc gw) (e % 32)),
      drop (4 + (c / 32 + 1) + bytes_for (rows * value) + bytes_for (e % 32 * entry_width pc gw)) bs,
      rw (
        k,
        le-ltb 64 (width pc + gw) not-2,
        bytes-here bs 4 6 (c / 32 + 1) (omega arith),
        block_here bs (4 + (c / 32 + 1)) 13 value rows (omega arith),
        block_here bs (4 + (c / 32 + 1) + bytes_for (rows * value)) 14 (entry_width pc gw) (e % 32) (omega arith),
      ),
    )

    patched-run : PatchedRun bs
    patched-run = record { headed = record { is-kind = k; header = omega arith }; not-2 = not-2 }

    patched-body : Fate places bs (parse bs)
    patched-body = go (dec_lt (length bs) (4 + (c / 32 + 1))) (dec_lt (length bs) (list_from bs)) (dec_lt (length bs) (list_to bs))
      where
        listed : (d : Description) (rest : List ℕ) (h : list_to bs ≤ length bs) (t u : Bool) → too_large value (patches (width pc) (entries bs)) ≡ t
            → out_of_place (width pc) rows (entries bs) ≡ u → Fate places bs (unless t 3 (unless u 7 (got d rest)))
        listed d rest h true u e f = by-line (by_number (refusal-3 (patched-run, h, (too_large_lem (width pc) value (entries bs)).0 (rw e tt))))
        listed d rest h false true e f =
            by-line (by_number (refusal-7 (
              patched-run,
              h,
              λ o. T_not (too_large value (patches (width pc) (entries bs))) (rw e tt) ((too_large_lem (width pc) value (entries bs)).1 o),
              (out-of-place (width pc) rows (entries bs)).0 (rw f tt),
            )))
        listed d rest h false false e f = a-run

        go : Dec (length bs < 4 + (c / 32 + 1)) → Dec (length bs < list_from bs) → Dec (length bs < list_to bs) → Fate places bs (parse bs)
        go (yes x) y z = rw (patched-base x) (by-line (by_field (Refusals.in-base patched-run x)))
        go (no x) (yes y) z = rw (patched-values (omega arith) y) (by-line (by_field (Refusals.in-values patched-run (omega arith) y)))
        go (no x) (no y) (yes z) = rw (patched-list (omega arith) z) (by-line (by_field (Refusals.in_list patched-run (omega arith) z)))
        go (no x) (no y) (no z) =
            let (d, rest, f) = patched-all (omega arith) in
            rw f (listed d rest (omega arith) (too_large value (patches (width pc) (entries bs))) (out_of_place (width pc) rows (entries bs)) refl refl)

  pub patched-fate : Fate places bs (parse bs)
  patched-fate = go (dec_lt 64 (width pc + gw))
    where
      go : Dec (64 < width pc + gw) → Fate places bs (parse bs)
      go (yes x) = rw (patched-2 x) (by-line (by_number (refusal-2 (record { is-kind = k; header = omega arith }, x))))
      go (no x) = patched-body (omega arith)
