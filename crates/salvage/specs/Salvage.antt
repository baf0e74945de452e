-- SALVAGE (FORMAT.md, "Salvage"): the groups of a damaged stream, which of them are kept, what stands for the others, and the report.
-- Assumes nothing.
use Rattle.std.specs.Prelude.{◌≡◌, ℕ, suc, ◌-◌, ◌/◌, ◌%◌, Bool, true, false, not, ◌&&◌, ◌||◌, List, [], ◌∷◌, ◌++◌, map, length, take, drop, replicate, leb, ltb, eqb, ℤ, Result, Ok, Err}
use Rattle.format.specs.declared.Form.TheVariants.{FixedDelta}
use Rattle.format.specs.Answers.{refusing}
use Rattle.format.specs.Fields.{pick}
use Rattle.format.specs.Runs.{Description, joined}
use Rattle.format.specs.Rows.{as_u64}
use Rattle.format.specs.Streams.{Reading, whole, broken, stream, total_rows}
use Rattle.format.specs.Writing.{described}
use Rattle.text.specs.Ascii.{ascii}
use Rattle.text.specs.Decimal.{decimal}
use Rattle.format.specs.declared.Refusal.{Refusal}
use Rattle.salvage.specs.declared.Sizes.{Sizes}

-- ---- GROUPS: the bytes from each start up to the next, or the end; and the row count

pub record Group : Type 0 where
  pub bytes : List ℕ
  pub rows : ℕ

unfoldable pub groups : List ℕ → List ℕ → List ℕ → List Group
groups bs [] ns = []
groups bs (s ∷ ss) [] = []
groups bs (s ∷ []) (n ∷ ns) = record { bytes = drop s bs; rows = n } ∷ []
groups bs (s ∷ t ∷ ss) (n ∷ ns) = record { bytes = take (t - s) (drop s bs); rows = n } ∷ groups bs (t ∷ ss) ns

-- starts after s rise strictly, and the last does not pass the end
unfoldable pub rising : ℕ → ℕ → List ℕ → Bool
rising end s [] = leb s end
rising end s (t ∷ ss) = ltb s t && rising end t ss

-- starts begin at 0; an empty list only with an empty stream
unfoldable pub starts_right : ℕ → List ℕ → Bool
starts_right end [] = eqb end 0
starts_right end (s ∷ ss) = eqb s 0 && rising end s ss

-- ---- KEPT: exactly if its bytes read as a whole stream of exactly its rows, with room enough

abbrev pub kept_of : ℕ → Reading → Bool
kept_of n (whole ds) = eqb (total_rows ds) n
kept_of n (broken ds r rest) = false

unfoldable pub kept : Group → Bool
kept g = kept_of g.rows (stream g.bytes)

-- ---- REPLACED: by fixed delta runs of the fill row, as the writer lays them down: 512 rows each, and the remainder last; none for 0 rows

abbrev pub fill_run : Bool → ℤ → ℕ → Description
fill_run signed fill n = described signed FixedDelta 0 (map as_u64 (replicate n fill))

unfoldable pub fill_runs : Bool → ℤ → ℕ → List Description
fill_runs signed fill n =
    replicate (n / 512) (fill_run signed fill 512) ++ pick (eqb (n % 512) 0) [] (fill_run signed fill (n % 512) ∷ [])

-- ---- THE NEW STREAM

unfoldable pub mended : Bool → ℤ → Group → List ℕ
mended signed fill g = pick (kept g) g.bytes (joined (fill_runs signed fill g.rows))

unfoldable pub salvaged : Bool → ℤ → List Group → List ℕ
salvaged signed fill [] = []
salvaged signed fill (g ∷ gs) = mended signed fill g ++ salvaged signed fill gs

-- ---- THE REPORT: one line a group, in order: `kept` or `replaced`, the group number, its rows

abbrev pub verdict : Bool → List ℕ
verdict keep = pick keep (ascii "kept ") (ascii "replaced ")

unfoldable pub line : Bool → ℕ → ℕ → List ℕ
line keep i n = verdict keep ++ (decimal i ++ (ascii " " ++ (decimal n ++ ascii "\n")))

-- the first group's number is i
unfoldable pub report : ℕ → List Group → List ℕ
report i [] = []
report i (g ∷ gs) = line (kept g) i g.rows ++ report (suc i) gs

-- ---- THE CALL: a refusal, or the new stream and the report

pub data Call : Type 0 where
  refused : ℕ → Call
  written : List ℕ → List ℕ → Call

-- refuse with a number if the test passes, and else go on
abbrev pub unless : Bool → ℕ → Call → Call
unless true n m = refused n
unless false n m = m

-- 17, then 8; the places are those for the stream and those for the report
unfoldable pub salvaging : Bool → ℤ → List ℕ → List ℕ → List ℕ → ℕ → ℕ → Call
salvaging signed fill bs starts counts places lines =
    let gs = groups bs starts counts in
    let new = salvaged signed fill gs in
    let text = report 0 gs in
    unless (not (eqb (length starts) (length counts) && starts_right (length bs) starts)) 17
    (unless (ltb places (length new) || ltb lines (length text)) 8
    (written new text))

-- ---- THE ANSWER: how many bytes were written, or the refusal, by its number, at place 0

abbrev pub Outcome : Type 0
Outcome = Result Sizes Refusal

abbrev pub written_of : ℕ → ℕ → Outcome
written_of stream lines = Ok (record { stream = record { bytes = stream }; report = record { bytes = lines } })

abbrev pub refused_with : ℕ → Outcome
refused_with number = Err (refusing number 0)

abbrev pub outcome_of : Call → Outcome
outcome_of (refused n) = refused_with n
outcome_of (written new text) = written_of (length new) (length text)

-- the lent bytes at exit: what is written in the first of them, and what stood in the others; a refused call leaves every byte unchanged
abbrev pub stream_in : List ℕ → Call → List ℕ
stream_in out (refused n) = out
stream_in out (written new text) = new ++ drop (length new) out

abbrev pub report_in : List ℕ → Call → List ℕ
report_in out (refused n) = out
report_in out (written new text) = text ++ drop (length text) out

-- ---- THE PROMISE, for every stream, all starts and counts, every fill row, both flags and all lent bytes

pub record Salvaged (input starts counts : List ℕ) (fill : ℤ) (signed : Bool) (out out' lines lines' : List ℕ) (r : Outcome) : Type 0 where
  pub answer : r ≡ outcome_of (salvaging signed fill input starts counts (length out) (length lines))
  pub new-stream : out' ≡ stream_in out (salvaging signed fill input starts counts (length out) (length lines))
  pub report-is : lines' ≡ report_in lines (salvaging signed fill input starts counts (length out) (length lines))
