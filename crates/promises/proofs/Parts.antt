-- The reader in parts gives what the whole-stream reader gives of the joined bytes, however they are cut. Assumes nothing.
use Rattle.format.proofs.Common.{◌≡◌, refl, sym, ap, ◌∙◌, ℕ, suc, ◌+◌, ◌-◌, ◌%◌, ◌<◌, ◌≤◌, arith, List, [], ◌∷◌, ◌++◌, append_assoc, append-nil}
use Rattle.format.proofs.Common.{length, length-append, le-ltb}
use Rattle.format.specs.Digits.{AllBelow}
use Rattle.format.specs.Fields.{two64}
use Rattle.format.specs.Runs.{Description, layout, joined}
use Rattle.format.specs.Parse.{plain, cut}
use Rattle.format.specs.Streams.{Reading, read_all, runs_of, total_rows}
use Rattle.format.proofs.Runs.{parse-empty}
use Rattle.format.proofs.RunComplete.{parse-complete}
use Rattle.format.proofs.Streams.{into-refused, stream-whole, stream-broken, Reads, reads_whole, reads-broken, stream-post}
use Rattle.format.specs.Parts as reader
use Rattle.format.specs.Parts.{Handed, State, start, on_part, take_part, close}
use Rattle.promises.specs.Parts.{Fed, GivenInParts, offer, feed, joined_parts, read_parts, starting, stream_gives, rows_in, SameAsStream, AnyCut}
use Rattle.promises.specs.Parts.{AtOnce, ByThatCall, Begins}
use Rattle.promises.proofs.Feeding.{nothing-held, begun, after, Result, waiting, barred, fed}

-- ---- starts and rows of runs one after another

after_is : (at : ℕ) (ds : List Description) → at < two64 → after at ds ≡ (at + length (joined ds)) % two64
unfolding after joined
after_is at [] h = omega arith
after_is at (d ∷ ds) h = after_is ((at + length (layout d)) % two64) ds (omega arith) ∙ omega (arith, length-append (layout d) (joined ds))

pub rows_of : (at : ℕ) (ds : List Description) → rows_in (starting at ds) ≡ total_rows ds
unfolding rows_in starting total_rows
rows_of at [] = refl
rows_of at (d ∷ ds) = rw (rows_of ((at + length (layout d)) % two64) ds)

-- the byte of a cut field, by its run's start modulo 2^64
cut-there : (start field : ℕ) → (start % two64 + field) % two64 ≡ (start + field) % two64
cut-there start field = omega arith

-- ---- the theorem

given : {bs : List ℕ} {f : Fed} → Result 0 bs f → (n : ℕ) → rows_in f.runs ≤ n
    → ◌≡◌ {A = GivenInParts} (record { runs = f.runs; answer = (close 512 f.state).reply }) (stream_gives (read_all n bs))
unfolding close reader.in_places reader.unless_stopped reader.on_close
given (waiting ds v e (nothing-held z)) n l =
    rw (e, z, append-nil (joined ds), stream-whole n ds v (rw (rows_of 0 ds) at l), parse-empty)
given (waiting ds {rest} v e (begun {r = plain k} b p u)) n l =
    rw (e, stream-broken n ds rest (plain k) v (rw (rows_of 0 ds) at l) (rw p (into-refused (n - total_rows ds) (plain k))), p, after_is 0 ds (omega arith))
given (waiting ds {rest} v e (begun {r = cut k left} b p u)) n l =
    rw (
      e,
      stream-broken n ds rest (cut k left) v (rw (rows_of 0 ds) at l) (rw p (into-refused (n - total_rows ds) (cut k left))),
      p,
      after_is 0 ds (omega arith),
      cut-there (0 + length (joined ds)) (length rest - left),
    )
given (barred ds rest k v e w p u) n l =
    rw (e, stream-broken n ds rest (plain k) v (rw (rows_of 0 ds) at l) (rw p (into-refused (n - total_rows ds) (plain k))), after_is 0 ds (omega arith))

pub all-fed : (ps : List (List ℕ)) → AllBelow 256 (joined_parts ps) → Result 0 (joined_parts ps) (feed start ps)
all-fed ps h = fed [] 0 ps (nothing-held refl) h

in-room : {n : ℕ} {bs : List ℕ} {m : Reading} → Reads n bs m → total_rows (runs_of m) ≤ n
in-room (reads_whole v e l) = l
in-room (reads-broken v e l r) = l

pub same-as-stream : SameAsStream
same-as-stream ps h n = (
  λ e. rw (← (rows_of 0 (runs_of (read_all n (joined_parts ps)))), ← (ap (λ (g : GivenInParts). g.runs) e)) at (in-room (stream-post n (joined_parts ps) h)),
  λ l. given (all-fed ps h) n l,
)

pub any-cut : AnyCut
any-cut ps qs h e =
    let n : ℕ = rows_in (read_parts ps).runs + rows_in (read_parts qs).runs in
    given (all-fed ps h) n (omega arith) ∙ ap (λ (bs : List ℕ). stream_gives (read_all n bs)) e ∙ sym (given (all-fed qs (rw e at h)) n (omega arith))

-- ---- before closing

pub at_once : AtOnce
at_once ps h n l = ap (λ (g : GivenInParts). g.runs) (given (all-fed ps h) n l)

pub by-that-call : ByThatCall
unfolding take_part reader.in_places reader.unless_stopped on_part
by-that-call places s part d rest h o v e = rw (le-ltb places 512 h, o, e, parse-complete d rest v)

feed-append : (s : State) (ps qs : List (List ℕ)) → (feed s (ps ++ qs)).runs ≡ (feed s ps).runs ++ (feed (feed s ps).state qs).runs
unfolding feed
feed-append s [] qs = refl
feed-append s (p ∷ ps) qs =
    let f : Fed = offer (suc (length p)) s p in
    ap (λ (hs : List Handed). f.runs ++ hs) (feed-append f.state ps qs)
    ∙ sym (append_assoc f.runs (feed f.state ps).runs (feed (feed f.state ps).state qs).runs)

joined-parts-append : (ps qs : List (List ℕ)) → joined_parts (ps ++ qs) ≡ joined_parts ps ++ joined_parts qs
joined-parts-append [] qs = refl
joined-parts-append (p ∷ ps) qs = rw (joined-parts-append ps qs, append_assoc)

pub begins : Begins
begins ps qs h n l = (
  (feed (feed start ps).state qs).runs,
  rw (← (joined-parts-append ps qs)) (sym (at_once (ps ++ qs) (rw (joined-parts-append ps qs) h) n l)) ∙ feed-append start ps qs,
)
