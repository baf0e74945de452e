-- One segment, and the walks over all of them, as their functions are stated. Assumes nothing.
use Rattle.std.specs.Prelude.{◌≡◌, ℕ, zero, suc, ◌-◌, Bool, ◌&&◌, List, ◌++◌, length, drop, get_or, leb, eqb, ℤ}
use Rattle.format.specs.declared.Form.{Form}
use Rattle.format.specs.declared.Form.TheVariants.{ShortRepeat, Direct, FixedDelta, PackedDelta}
use Rattle.format.specs.Fields.{pick}
use Rattle.format.specs.Runs.{Description, joined}
use Rattle.format.specs.Parse.{plain, Parsed, refused}
use Rattle.format.specs.Writing.{bytes_in}
use Rattle.writer.specs.Sizes.{size_in}
use Rattle.planner.specs.declared.segment.Segment.{Segment}
use Rattle.planner.specs.declared.segment.Proposal.{Proposal}
use Rattle.planner.specs.declared.Columned.{Columned}
use Rattle.planner.specs.Check.{Columns, proposal, run_in, wide, told}

-- ---- ONE SEGMENT

-- the forms that have no base
unfoldable pub form_of : ℕ → Form
form_of zero = ShortRepeat
form_of (suc zero) = Direct
form_of (suc (suc zero)) = FixedDelta
form_of (suc (suc (suc n))) = PackedDelta

-- the columns that a proposal is lent
abbrev pub columns : Proposal → Columns
columns p = proposal p.first.now p.counts.now p.forms.now p.widths.now p.bases.now

abbrev pub segment_at : Columns → ℕ → Segment
segment_at c k = record {
  start = get_or c.starts k 0;
  count = get_or c.counts k 0;
  form = get_or c.forms k 0;
  width = get_or c.widths k 0;
  base = get_or c.bases k 0;
}

-- a segment that begins at this row and ends within the column
abbrev pub in_place : ℕ → ℕ → Segment → Bool
in_place rows at s = eqb s.start at && leb s.count (rows - at)

-- what its writer answers in so much room; one that is out of place is not accepted
unfoldable pub step_in : Bool → List ℤ → ℕ → Segment → ℕ → Parsed Description
step_in signed rows at s room = pick (in_place (length rows) at s) (run_in signed rows s room) (refused (plain 10))

-- a writer's answer m, told by its bytes, and the lent bytes at exit
pub record Ran (m : Parsed Description) (out out' : List ℕ) (r : ℕ) : Type 0 where
  pub size : r ≡ size_in m
  pub places : out' ≡ bytes_in out m

-- ---- ALL OF THEM

-- the runs stand in the first bytes, and what stood there in the others
abbrev pub ColumnLaid : List Description → List ℕ → List ℕ → Type 0
ColumnLaid ds out out' = out' ≡ joined ds ++ drop (length (joined ds)) out

-- the direct runs, and what the answer tells of them
pub record WideLaid (signed : Bool) (rows : List ℤ) (out out' : List ℕ) (r : Columned) : Type 0 where
  pub answer : r ≡ told (wide signed rows)
  pub places : ColumnLaid (wide signed rows) out out'
