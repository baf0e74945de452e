-- Demand 3, from the law of streams. Assumes nothing.
use Rattle.format.proofs.Common.{◌≡◌, sym, ◌∙◌, ℕ, ◌≤◌, Bool, List, [], ◌∷◌, ◌++◌, length, drop, ℤ}
use Rattle.format.specs.Answers.{Stream}
use Rattle.format.specs.Runs.{Description, joined}
use Rattle.format.specs.Streams.{Reading, whole, read_all, total_rows}
use Rattle.format.specs.Promises.{stream_answer}
use Rattle.format.proofs.Below.{below-drop}
use Rattle.format.proofs.Streams.{Reads, reads_whole, reads-broken, stream-post, stream-whole, joined-unique, last_snoc}
use Rattle.format.proofs.Tests.{never}
use Rattle.promises.specs.WholeStreamExactly.{LaidOut, IsWhole, WholeStreamExactlyHolds}

module _ (bs : List ℕ) (at : ℕ) (signed : Bool) (out out' : List ℤ) (r : Stream) where
  -- the descriptions of a stream that was read whole
  laid_out : {m : Reading} → Reads (length out) bs m → r ≡ stream_answer at m → IsWhole r
      → (ds : List Description) × LaidOut bs ds × (total_rows ds ≤ length out)
  laid_out (reads_whole {ds} v e l) a w = (ds, record { valid = v; bytes = e }, l)
  laid_out (reads-broken v e l f) a (rows, bytes, last, w) = never (cc)

  read_whole : (ds : List Description) → LaidOut bs ds → total_rows ds ≤ length out → read_all (length out) bs ≡ whole ds
  read_whole ds d l = rw d.bytes (stream-whole (length out) ds d.valid l)

pub whole-stream-exactly : WholeStreamExactlyHolds
whole-stream-exactly input h at signed out out' r s =
    let bs : List ℕ = drop at input in
    record {
      exactly = (
        laid_out bs at signed out out' r (stream-post (length out) bs (below-drop 256 at input h)) s.answer,
        λ p. (total_rows p.0, length (joined p.0), _, rw (read_whole bs at signed out out' r p.0 p.1 p.2) at s.answer),
      );
      counts = λ ds d l. rw (read_whole bs at signed out out' r ds d l, ← d.bytes) at s.answer;
      last-run = λ before x d l. rw (read_whole bs at signed out out' r (before ++ x ∷ []) d l, ← d.bytes, last_snoc _ before x) at s.answer;
      rows = λ ds d l. rw (read_whole bs at signed out out' r ds d l) at s.places;
      only = λ ds ds' d d'. joined-unique ds ds' d.valid d'.valid (sym d.bytes ∙ d'.bytes);
    }
