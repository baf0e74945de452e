-- The stream with room enough: it is read run by run, and more room than enough changes nothing. Assumes nothing.
use Rattle.format.proofs.Common.{◌≡◌, refl, sym, ap, ◌∙◌, ◌≢◌, ℕ, ◌-◌, ◌*◌, ◌^◌, ◌<◌, ◌≤◌, arith, List, [], ◌∷◌, ◌++◌, append_assoc}
use Rattle.format.proofs.Common.{length, length-append}
use Rattle.format.specs.Digits.{AllBelow}
use Rattle.format.specs.Runs.{Description, Valid, layout, AllValid, joined}
use Rattle.format.specs.Parse.{Reason, Parsed, refused, parse, into}
use Rattle.format.specs.Streams.{Reading, whole, broken, after, read_all, total_rows, stream}
use Rattle.format.proofs.Below.{behind-below}
use Rattle.format.specs.Fields.{two64}
use Rattle.format.proofs.Rows.{row-bounds}
use Rattle.format.proofs.Runs.{Outcome, nothing, run, refusal, outcome, layout-pos}
use Rattle.format.proofs.Streams.{into-end, into-refused, into-got, append-nonempty, Reads, reads_whole, reads-broken, stream-post}
use Rattle.format.proofs.Streams.{stream-whole, stream-broken}
use Rattle.format.proofs.Joined.{rows-le}
use Rattle.format.proofs.Tests.{never}

-- ---- THE STREAM WITH ROOM ENOUGH

pub stream-is : (ds : List Description) → AllValid ds → stream (joined ds) ≡ whole ds
unfolding stream
stream-is ds v = stream-whole (512 * length (joined ds)) ds v (rows-le ds v)

-- a refusal with room for a run of any size is a refusal with any room
pub more_room : (n m : ℕ) (rest : List ℕ) (r : Reason) → AllBelow 256 rest → (rest ≢ [] → 512 ≤ m) → into m (parse rest) ≡ refused r
    → into n (parse rest) ≡ refused r
more_room n m rest r b l e = go (outcome rest b) e
  where
    go : {p : Parsed Description} → Outcome rest p → into m p ≡ refused r → into n p ≡ refused r
    go (nothing z) e = never (cc (into-end m))
    go (run {d} {rest = s} t) e =
        let k : 512 ≤ m = l λ z. append-nonempty (layout d) s (layout-pos d) (sym t.split ∙ z) in
        never (cc (into-got m d s (omega (arith, row-bounds d t.ok))))
    go (refusal {r = q} z) e = into-refused n q ∙ sym (into-refused m q) ∙ e

pub not-empty : (s : List ℕ) → s ≢ [] → 1 ≤ length s
not-empty [] h = absurd (h refl)
not-empty (x ∷ s) h = omega arith

-- more room than enough changes nothing
pub room-enough : (bs : List ℕ) → AllBelow 256 bs → (n : ℕ) → 512 * length bs ≤ n → read_all n bs ≡ stream bs
unfolding stream
room-enough bs h n l = go (stream-post (512 * length bs) bs h)
  where
    go : {m : Reading} → Reads (512 * length bs) bs m → read_all n bs ≡ m
    go (reads_whole {ds} v e t) = rw e (stream-whole n ds v (omega arith))
    go (reads-broken {ds} {r} {rest} v e t f) =
        let enough : rest ≢ [] → 512 ≤ 512 * length bs - total_rows ds =
        λ z. omega (arith, rows-le ds v, length-append (joined ds) rest, ap length e, not-empty rest z) in
        rw e
        (stream-broken n ds rest r v (omega arith)
        (more_room (n - total_rows ds) (512 * length bs - total_rows ds) rest r (behind-below 256 (joined ds) rest (rw e at h)) enough f))

-- what the stream's measure counts is all, in less than 2^55 bytes
pub counted-all : (bs : List ℕ) → AllBelow 256 bs → length bs < 2 ^ 55 → read_all (two64 - 1) bs ≡ stream bs
counted-all bs h l = room-enough bs h (two64 - 1) (omega arith)

-- ---- the stream, run by run

pub stream-reads : (bs : List ℕ) → AllBelow 256 bs → Reads (512 * length bs) bs (stream bs)
unfolding stream
stream-reads bs h = stream-post (512 * length bs) bs h

pub stream-none : stream [] ≡ whole []
unfolding joined
stream-none = stream-is [] tt

pub stream-refused : (rest : List ℕ) (r : Reason) → parse rest ≡ refused r → stream rest ≡ broken [] r rest
unfolding stream joined total_rows
stream-refused rest r e = stream-broken (512 * length rest) [] rest r tt (omega arith) (rw e (into-refused (512 * length rest - 0) r))

-- a stream that is refused after some runs, by a refusal with room for any run
broken-at : (bs : List ℕ) (ds : List Description) (t : List ℕ) (r : Reason) (m : ℕ) → AllValid ds → bs ≡ joined ds ++ t → AllBelow 256 t → (t ≢ [] → 512 ≤ m)
    → into m (parse t) ≡ refused r → stream bs ≡ broken ds r t
unfolding stream
broken-at bs ds t r m v e b k f =
    rw e (stream-broken (512 * length (joined ds ++ t)) ds t r v (omega (arith, rows-le ds v, length-append (joined ds) t))
    (more_room (512 * length (joined ds ++ t) - total_rows ds) m t r b k f))

pub stream-cons : (d : Description) (rest : List ℕ) → Valid d → AllBelow 256 rest → stream (layout d ++ rest) ≡ after d (stream rest)
unfolding joined
stream-cons d rest v h = go (stream-reads rest h)
  where
    go : {m : Reading} → Reads (512 * length rest) rest m → stream (layout d ++ rest) ≡ after d m
    go (reads_whole {ds} vs e l) = rw e (stream-is (d ∷ ds) (v, vs))
    go (reads-broken {ds} {r} {rest = t} vs e l f) =
        broken-at (layout d ++ rest) (d ∷ ds) t r (512 * length rest - total_rows ds) (v, vs)
        (ap (λ (x : List ℕ). layout d ++ x) e ∙ sym (append_assoc (layout d) (joined ds) t))
        (behind-below 256 (joined ds) t (rw e at h))
        (λ z. omega (arith, rows-le ds vs, length-append (joined ds) t, ap length e, not-empty t z)) f
