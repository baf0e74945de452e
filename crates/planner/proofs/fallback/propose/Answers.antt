-- If each column has a place for each direct run, these are laid, and the check accepts them; otherwise none is proposed. Assumes nothing.
use mathlib.Core.Path.{sym, ◌∙◌}
use Rattle.planner.specs.Check.{proposal}
use Rattle.planner.specs.Plan.{too_few, laid}
use Rattle.planner.proofs.Falling.{all-places, same-places, direct-sound}
use Rattle.planner.proofs.fallback.propose.Goals as goal

pub returns-then-not-have_places : goal.returns-then-not-have_places
returns-then-not-have_places c =
    λ signed. too_few (rw c.runs_of-runs.ensures at (sym c.have_places.ensures ∙ c.if-not-have_places.true))

pub lay-requires : goal.lay-requires
lay-requires c =
    let a = c.args in (
      c.runs_of-runs.ensures,
      all-places _ (proposal a.first.now a.counts.now a.forms.now a.widths.now a.bases.now)
          (sym c.have_places.ensures ∙ c.if-not-have_places.false),
    )

pub returns : goal.returns
returns c =
    let a = c.args in
    let last = c.lay.new in
    let kept = c.lay.auto in
    let c₀ = proposal a.first.now a.counts.now a.forms.now a.widths.now a.bases.now in
    let c₁ = proposal last.first last.counts last.forms last.widths last.bases in
    let p = all-places c.runs_of-runs.result c₀ (sym c.have_places.ensures ∙ c.if-not-have_places.false) in
    let q = same-places c₀ c₁ c.runs_of-runs.result p kept.first kept.counts kept.forms kept.widths kept.bases in
    λ signed. laid (direct-sound signed a.rows.now c₁ c.runs_of-runs.result c.know.ensures c.runs_of-runs.ensures q c.lay.ensures)
