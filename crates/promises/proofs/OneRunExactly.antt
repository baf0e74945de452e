-- Demand 2, from the laws of one run. Assumes nothing.
use Rattle.std.specs.Prelude.{None, Ok}
use Rattle.format.proofs.Common.{◌≡◌, sym, ◌∙◌, ℕ, ◌≤◌, List, [], length, drop, ℤ}
use Rattle.format.specs.Answers.{Answer}
use Rattle.format.specs.Runs.{Description, row_count}
use Rattle.format.specs.Parse.{Parsed, got, parse, into}
use Rattle.format.specs.Promises.{answer_of}
use Rattle.format.proofs.Below.{below-drop}
use Rattle.format.proofs.RunComplete.{parse-complete}
use Rattle.format.proofs.Runs.{parse-empty, layout-unique}
use Rattle.format.proofs.Streams.{Into, into-nothing, into-run, into-refusal, into-outcome, into-got, into-end}
use Rattle.format.proofs.Tests.{never}
use Rattle.promises.specs.OneRunExactly.{Begins, IsRun, OneRunExactlyHolds}

module _ (bs : List ℕ) (at total : ℕ) (out : List ℤ) (r : Answer) where
  read-run : (d : Description) → (b : Begins bs d) → row_count d ≤ length out → into (length out) (parse bs) ≡ got d b.rest
  read-run d b l = rw (b.bytes, parse-complete d b.rest b.valid) (into-got (length out) d b.rest l)

  begins : {m : Parsed Description} → Into (length out) bs m → r ≡ answer_of at total m → IsRun r → (d : Description) × Begins bs d × (row_count d ≤ length out)
  begins (into-nothing z) a (kind, width, rows, bytes, w) = never (cc)
  begins (into-run {d} {rest} t l) a w = (d, record { valid = t.ok; rest = rest; bytes = t.split }, l)
  begins (into-refusal z) a (kind, width, rows, bytes, w) = never (cc)

  empty : {m : Parsed Description} → Into (length out) bs m → r ≡ answer_of at total m → r ≡ Ok None → bs ≡ []
  empty (into-nothing z) a w = z
  empty (into-run {d} {rest} t l) a w = never (cc)
  empty (into-refusal z) a w = never (cc)

pub one-run-exactly : OneRunExactlyHolds
one-run-exactly input h at signed out out' r s =
    let bs : List ℕ = drop at input in
    let o : Into (length out) bs (into (length out) (parse bs)) = into-outcome (length out) bs (below-drop 256 at input h) in
    record {
      ends = (empty bs at _ out r o s.answer, λ e. s.answer ∙ rw (e, parse-empty, into-end (length out)));
      exactly = (
        begins bs at _ out r o s.answer,
        λ (d, b, l). (_, _, _, _, rw (read-run bs at 0 out r d b l) at s.answer),
      );
      counts = λ d b l. rw (read-run bs at 0 out r d b l) at s.answer;
      rows = λ d b l. rw (read-run bs at 0 out r d b l) at s.places;
      only = λ d d' b b'. (layout-unique d d' b.rest b'.rest b.valid b'.valid (sym b.bytes ∙ b'.bytes)).0;
    }
