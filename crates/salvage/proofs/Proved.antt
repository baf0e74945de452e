-- All that specs/Laws.antt states. Assumes nothing.
use mathlib.Core.Path.{◌≡◌, refl, sym, ap, ◌∙◌}
use Prim.Native.Nat.{ℕ}
use mathlib.Core.List.{List}
use lib.ListN.{length, take, drop}
use lib.Seq.{take_at}
use Rattle.format.specs.Runs.{Description}
use Rattle.format.specs.Streams.{stream, whole, total_rows}
use Rattle.format.proofs.Tests.{never}
use Rattle.format.specs.Digits.{sum}
use Rattle.std.specs.Prelude.{Ok, Err}
use Rattle.salvage.specs.Salvage.{Outcome, groups, Call, refused, written, salvaging, written_of, refused_with, outcome_of, stream_in, report_in}
use Rattle.salvage.specs.Laws.{SalvageProved, SalvageGiven, SalvageDetermined}
use Rattle.salvage.proofs.Filling.{fill_holds, fill-size}
use Rattle.salvage.proofs.Grouping.{kept-exactly, kept-bytes, salvaged-holds}
use Rattle.salvage.proofs.Starting.{make-up, of-bytes, back, damage}
use Rattle.salvage.proofs.Calling.{call-holds, true-kept, true-groups, new-starts, twice}

pub salvage-proved : SalvageProved
salvage-proved signed fill fits = record {
  fill-run = fill_holds signed fill fits;
  fill-size = fill-size signed fill fits;
  keeps = λ g h. record { exactly = kept-exactly g h; same_bytes = kept-bytes signed fill fits g };
  salvages = salvaged-holds signed fill fits;
  calls = call-holds signed fill fits;
  starts = record {
    make-up = make-up;
    of-bytes = of-bytes;
    back = back;
    damage = damage;
    true-kept = true-kept signed fill fits;
    true-groups = true-groups signed fill fits;
    new-starts = new-starts signed fill fits;
    twice = twice signed fill fits;
  };
}

-- how many bytes the new stream has
abbrev bytes_written : Outcome → ℕ
bytes_written (Ok n) = n.stream.bytes
bytes_written (Err f) = 0

pub salvage-given : SalvageGiven
salvage-given input starts ns fill signed out out' lines lines' r fits bytes s = record {
  reads = λ m k e. reads m (salvaging signed fill input starts ns (length out) (length lines)) refl s.new-stream (sym s.answer ∙ e);
  untouched = λ n e. untouched (salvaging signed fill input starts ns (length out) (length lines)) s.new-stream s.report-is (sym s.answer ∙ e);
}
  where
    reads : (m : ℕ) {k : ℕ} (c : Call) → salvaging signed fill input starts ns (length out) (length lines) ≡ c → out' ≡ stream_in out c
        → outcome_of c ≡ written_of m k
        → (ds : List Description) × (stream (take m out') ≡ whole ds) × (total_rows ds ≡ sum ns)
    reads m (refused n) q o e = never (cc)
    reads m (written new text) q o e =
        let (right, is, _, _) = ((call-holds signed fill fits input starts ns (length out) (length lines)).otherwise new text).0 q in
        let h = salvaged-holds signed fill fits (groups input starts ns) (of-bytes input starts ns bytes) in
        let b : length new ≡ m = ap bytes_written e in
        let t : take m out' ≡ new = ap (take m) o ∙ take_at new (drop (length new) out) m b in
        (h.runs, ap stream (t ∙ is) ∙ h.reads_whole, h.total ∙ ap sum (make-up input starts ns right).1)

    untouched : {n : ℕ} (c : Call) → out' ≡ stream_in out c → lines' ≡ report_in lines c → outcome_of c ≡ refused_with n → (out' ≡ out) × (lines' ≡ lines)
    untouched (refused n) o l e = (o, l)
    untouched (written new text) o l e = never (cc)

pub salvage-determined : SalvageDetermined
salvage-determined input starts ns fill signed out out' out'' lines lines' lines'' r r' p q =
    (p.new-stream ∙ sym q.new-stream, p.report-is ∙ sym q.report-is, p.answer ∙ sym q.answer)
