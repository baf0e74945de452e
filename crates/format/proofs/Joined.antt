-- Runs one after another: their rows and bytes are those of each, joined. Assumes nothing.
use Rattle.format.proofs.Common.{◌≡◌, refl, Bool, ◌+◌, ◌*◌, ◌≤◌, arith, List, [], ◌∷◌, ◌++◌, append_assoc, append-nil, length}
use Rattle.format.proofs.Common.{length-append}
use Rattle.format.specs.Runs.{Description, layout, row_count, AllValid, joined}
use Rattle.format.specs.Rows.{i64_rows}
use Rattle.format.specs.Streams.{total_rows, joined_rows}
use Rattle.format.proofs.Rows.{row-bounds}
use Rattle.format.proofs.Runs.{layout-pos}

-- ---- runs one after another

pub total-append : (ds es : List Description) → total_rows (ds ++ es) ≡ total_rows ds + total_rows es
unfolding total_rows
total-append [] es = omega arith
total-append (d ∷ ds) es = omega (arith, total-append ds es)

pub joined-append : (ds es : List Description) → joined (ds ++ es) ≡ joined ds ++ joined es
unfolding joined
joined-append [] es = refl
joined-append (d ∷ ds) es = rw (joined-append ds es, append_assoc)

pub rows_append : (signed : Bool) (ds es : List Description) → joined_rows signed (ds ++ es) ≡ joined_rows signed ds ++ joined_rows signed es
unfolding joined_rows
rows_append signed [] es = refl
rows_append signed (d ∷ ds) es = rw (rows_append signed ds es, append_assoc)

pub joined_snoc : (ds : List Description) (d : Description) → joined (ds ++ (d ∷ [])) ≡ joined ds ++ layout d
unfolding joined
joined_snoc ds d = rw (joined-append ds (d ∷ []), append-nil (layout d))

pub total-snoc : (ds : List Description) (d : Description) → total_rows (ds ++ (d ∷ [])) ≡ total_rows ds + row_count d
unfolding total_rows
total-snoc ds d = omega (arith, total-append ds (d ∷ []))

pub rows_snoc : (signed : Bool) (ds : List Description) (d : Description) → joined_rows signed (ds ++ (d ∷ [])) ≡ joined_rows signed ds ++ i64_rows signed d
unfolding joined_rows
rows_snoc signed ds d = rw (rows_append signed ds (d ∷ []), append-nil (i64_rows signed d))

pub valid-behind : (ds es : List Description) → AllValid (ds ++ es) → AllValid es
valid-behind [] es v = v
valid-behind (d ∷ ds) es v = valid-behind ds es v.1

-- a run takes a byte at least and holds 512 rows at most
pub rows-le : (ds : List Description) → AllValid ds → total_rows ds ≤ 512 * length (joined ds)
unfolding total_rows joined
rows-le [] v = omega arith
rows-le (d ∷ ds) v = omega (arith, rows-le ds v.1, row-bounds d v.0, layout-pos d, length-append (layout d) (joined ds))
