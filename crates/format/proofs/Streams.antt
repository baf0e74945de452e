-- The stream: `read_all` takes exactly the joined layouts of valid descriptions with at most n rows in all, and stops at the first refusal with the
-- descriptions before it. Assumes nothing.
use Rattle.std.specs.Prelude.{Some}
use Rattle.format.proofs.Common.{◌≡◌, refl, sym, ap, ◌∙◌, ◌≢◌, ◌↔◌, Bool, true, false, ℕ, zero, suc, ◌+◌, ◌-◌, ◌≤◌, le_refl}
use Rattle.format.proofs.Common.{sub-zero, arith, List, [], ◌∷◌, ◌++◌, append_assoc, append-nil, length, length-append, T, ltb}
use Rattle.format.proofs.Common.{nltb→le, le-ltb}
use Rattle.format.specs.Digits.{AllBelow}
use Rattle.format.specs.Runs.{Description, row_count, Valid, layout, AllValid, joined}
use Rattle.format.specs.Parse.{Reason, unfinished, Parsed, end, got, refused, parse, into}
use Rattle.format.specs.Streams.{Reading, whole, broken, after, next, runs_from, read_all, total_rows}
use Rattle.format.specs.Promises.{run_of, last_or}
use Rattle.format.specs.Answers.{LastRun}
use Rattle.format.proofs.Posts.{Took}
use Rattle.format.proofs.Cut.{cut-number}
use Rattle.format.proofs.Runs.{Outcome, nothing, run, refusal, outcome, parse-empty, layout-pos, got-inj}
use Rattle.format.proofs.RunComplete.{parse-complete}
use Rattle.format.proofs.Tests.{never}

-- ---- one run, into n places

pub into-end : (n : ℕ) → into n end ≡ end
unfolding into
into-end n = refl

pub into-refused : (n : ℕ) (r : Reason) → into n (refused r) ≡ refused r
unfolding into
into-refused n r = refl

pub into-got : (n : ℕ) (d : Description) (rest : List ℕ) → row_count d ≤ n → into n (got d rest) ≡ got d rest
unfolding into
into-got n d rest h = rw (le-ltb n (row_count d) h)

-- each outcome of reading a run into n places: as without them, and a run has room
pub data Into (n : ℕ) (bs : List ℕ) : Parsed Description → Type 0 where
  into-nothing : bs ≡ [] → Into n bs end
  into-run : {d : Description} {rest : List ℕ} → Took bs layout Valid d rest → row_count d ≤ n → Into n bs (got d rest)
  into-refusal : {r : Reason} → bs ≢ [] → Into n bs (refused r)

pub append-nonempty : (s t : List ℕ) → 1 ≤ length s → s ++ t ≢ []
append-nonempty s t h e = omega (arith, h, length-append s t, ap length e)

pub into-outcome : (n : ℕ) (bs : List ℕ) → AllBelow 256 bs → Into n bs (into n (parse bs))
unfolding into
into-outcome n bs h = go (outcome bs h)
  where
    room : {d : Description} {rest : List ℕ} (t : Bool) → ltb n (row_count d) ≡ t → Took bs layout Valid d rest → Into n bs (into n (got d rest))
    room {d} {rest} true e t = rw e (into-refusal λ z. append-nonempty (layout d) rest (layout-pos d) (sym t.split ∙ z))
    room {d} {rest} false e t = rw e (into-run t (nltb→le n (row_count d) (rw e tt)))

    go : {m : Parsed Description} → Outcome bs m → Into n bs (into n m)
    go (nothing z) = into-nothing z
    go (run {d} t) = room (ltb n (row_count d)) refl t
    go (refusal z) = into-refusal z

-- ---- what the stream reader says of bs

pub data Reads (n : ℕ) (bs : List ℕ) : Reading → Type 0 where
  reads_whole : {ds : List Description} → AllValid ds → bs ≡ joined ds → total_rows ds ≤ n → Reads n bs (whole ds)
  reads-broken : {ds : List Description} {r : Reason} {rest : List ℕ} → AllValid ds → bs ≡ joined ds ++ rest → total_rows ds ≤ n
      → into (n - total_rows ds) (parse rest) ≡ refused r → Reads n bs (broken ds r rest)

pub sub-sub : (n a b : ℕ) → n - a - b ≡ n - (a + b)
sub-sub n a b = omega arith

reads-after : {n : ℕ} {bs : List ℕ} {d : Description} {rest : List ℕ} {r : Reading} → Took bs layout Valid d rest → row_count d ≤ n
    → Reads (n - row_count d) rest r → Reads n bs (after d r)
unfolding joined total_rows
reads-after {d} t h (reads_whole {ds} v e l) = reads_whole {ds = d ∷ ds} (t.ok, v) (t.split ∙ ap (λ (x : List ℕ). layout d ++ x) e) (omega arith)
reads-after {n} {d} t h (reads-broken {ds} {rest} v e l r) =
    reads-broken {ds = d ∷ ds} (t.ok, v) (t.split ∙ ap (λ (x : List ℕ). layout d ++ x) e ∙ sym (append_assoc (layout d) (joined ds) rest)) (omega arith)
    (rw (sub-sub n (row_count d) (total_rows ds)) at r)

fuel-post : (f n : ℕ) (bs : List ℕ) → AllBelow 256 bs → length bs ≤ f → Reads n bs (runs_from f n bs)
unfolding runs_from joined total_rows
fuel-post zero n [] h l = reads_whole {ds = []} tt refl (omega arith)
fuel-post zero n (a ∷ bs) h l = absurd (omega arith)
fuel-post (suc f) n bs h l = go (into n (parse bs)) refl (into-outcome n bs h) (λ m rest. fuel-post f m rest)
  where
    go : (m : Parsed Description) → into n (parse bs) ≡ m → Into n bs m
        → ((k : ℕ) (rest : List ℕ) → AllBelow 256 rest → length rest ≤ f → Reads k rest (runs_from f k rest))
        → Reads n bs (next (λ k rest. runs_from f k rest) n bs m)
    go m e (into-nothing z) ih = reads_whole {ds = []} tt z (omega arith)
    go m e (into-run {d} {rest} t h) ih =
        reads-after t h (ih (n - row_count d) rest t.rest-bytes (omega (arith, l, layout-pos d, length-append (layout d) rest, ap length t.split)))
    go m e (into-refusal {r} z) ih = reads-broken {ds = []} {r = r} {rest = bs} tt refl (omega arith) (rw sub-zero e)

pub stream-post : (n : ℕ) (bs : List ℕ) → AllBelow 256 bs → Reads n bs (read_all n bs)
unfolding read_all
stream-post n bs h = fuel-post (length bs) n bs h (le_refl (length bs))

-- ---- and the other way. `stop` is what the reader says of the bytes after the runs, however much fuel it has.

abbrev pub after_all : List Description → Reading → Reading
after_all [] stop = stop
after_all (d ∷ ds) stop = after d (after_all ds stop)

module _ (m : ℕ) (rest : List ℕ) (stop : Reading) (stops : (f : ℕ) → length rest ≤ f → runs_from f m rest ≡ stop) where
  fuel-joined : (f n : ℕ) (ds : List Description) → AllValid ds → total_rows ds ≤ n → m ≡ n - total_rows ds → length (joined ds ++ rest) ≤ f
      → runs_from f n (joined ds ++ rest) ≡ after_all ds stop
  unfolding runs_from joined total_rows
  fuel-joined f n [] v h e l = rw (← (sub-zero n), ← e) (stops f l)
  fuel-joined zero n (d ∷ ds) v h e l =
      absurd (omega (arith, l, layout-pos d, length-append (layout d ++ joined ds) rest, length-append (layout d) (joined ds)))
  fuel-joined (suc f) n (d ∷ ds) v h e l =
      rw (append_assoc (layout d) (joined ds) rest, parse-complete d (joined ds ++ rest) v.0, into-got n d (joined ds ++ rest) (omega arith))
      (ap (after d) (fuel-joined f (n - row_count d) ds v.1 (omega arith) (omega arith)
      (omega (arith, l, layout-pos d, length-append (layout d) (joined ds ++ rest), ap length (append_assoc (layout d) (joined ds) rest)))))

pub after-whole : (ds : List Description) → after_all ds (whole []) ≡ whole ds
after-whole [] = refl
after-whole (d ∷ ds) = ap (after d) (after-whole ds)

pub after-broken : (ds : List Description) (r : Reason) (rest : List ℕ) → after_all ds (broken [] r rest) ≡ broken ds r rest
after-broken [] r rest = refl
after-broken (d ∷ ds) r rest = ap (after d) (after-broken ds r rest)

pub stops-empty : (n f : ℕ) → 0 ≤ f → runs_from f n [] ≡ whole []
unfolding runs_from
stops-empty n zero l = refl
stops-empty n (suc f) l = rw (parse-empty, into-end n)

pub stops-refused : (n : ℕ) (rest : List ℕ) (r : Reason) → into n (parse rest) ≡ refused r → (f : ℕ) → length rest ≤ f → runs_from f n rest ≡ broken [] r rest
unfolding runs_from
stops-refused n [] r e f l = never (cc (into-end n, parse-empty))
stops-refused n (a ∷ rest) r e zero l = absurd (omega arith)
stops-refused n (a ∷ rest) r e (suc f) l = rw e

pub stream-whole : (n : ℕ) (ds : List Description) → AllValid ds → total_rows ds ≤ n → read_all n (joined ds) ≡ whole ds
unfolding read_all
stream-whole n ds v h =
    rw (← (append-nil (joined ds)))
    (fuel-joined (n - total_rows ds) [] (whole []) (stops-empty (n - total_rows ds)) (length (joined ds ++ [])) n ds v h refl (le_refl _) ∙ after-whole ds)

pub stream-broken : (n : ℕ) (ds : List Description) (rest : List ℕ) (r : Reason) → AllValid ds → total_rows ds ≤ n
    → into (n - total_rows ds) (parse rest) ≡ refused r → read_all n (joined ds ++ rest) ≡ broken ds r rest
unfolding read_all
stream-broken n ds rest r v h e =
    fuel-joined (n - total_rows ds) rest (broken [] r rest) (stops-refused (n - total_rows ds) rest r e) (length (joined ds ++ rest)) n ds v h refl (le_refl _)
    ∙ after-broken ds r rest

-- ---- THE LAW OF STREAMS: the reader of n places says "whole" exactly of the joined layouts of valid descriptions with at most n rows in all ..

of-whole : {n : ℕ} {bs : List ℕ} {ds : List Description} → Reads n bs (whole ds) → AllValid ds × (bs ≡ joined ds) × (total_rows ds ≤ n)
of-whole (reads_whole v e l) = (v, e, l)

pub whole-exactly : (n : ℕ) (bs : List ℕ) (ds : List Description) → AllBelow 256 bs
    → (read_all n bs ≡ whole ds) ↔ (AllValid ds × (bs ≡ joined ds) × (total_rows ds ≤ n))
whole-exactly n bs ds h = ((λ e. of-whole (rw e at (stream-post n bs h))), (λ p. ap (read_all n) p.1 ∙ stream-whole n ds p.0 p.2))

-- .. and no second list of valid descriptions has the same bytes
pub joined-unique : (ds ds' : List Description) → AllValid ds → AllValid ds' → joined ds ≡ joined ds' → ds ≡ ds'
unfolding joined
joined-unique [] [] v v' e = refl
joined-unique [] (d ∷ ds) v v' e = absurd (append-nonempty (layout d) (joined ds) (layout-pos d) (sym e))
joined-unique (d ∷ ds) [] v v' e = absurd (append-nonempty (layout d) (joined ds) (layout-pos d) e)
joined-unique (d ∷ ds) (d' ∷ ds') v v' e =
    let p : (d ≡ d') × (joined ds ≡ joined ds') = got-inj (sym (parse-complete d (joined ds) v.0) ∙ ap parse e ∙ parse-complete d' (joined ds') v'.0) in
    let q : ds ≡ ds' = joined-unique ds ds' v.1 v'.1 p.1 in
    let r : d ≡ d' = p.0 in
    cc

-- a stream that is cut inside a run is not whole: its runs before that one, and then the refusal of a run that is cut
pub stream-cut : (n : ℕ) (ds : List Description) (d : Description) (p q : List ℕ) → AllValid ds → Valid d → total_rows ds ≤ n
    → layout d ≡ p ++ q → p ≢ [] → q ≢ []
    → (r : Reason) × (read_all n (joined ds ++ p) ≡ broken ds r p) × T (unfinished r)
stream-cut n ds d p q vs v h e pe qe =
    let (r, f, c) = cut-number d p q v e pe qe in
    (r, stream-broken n ds p r vs h (rw f (into-refused (n - total_rows ds) r)), c)

-- the last run of a list that ends in one
pub last_snoc : (none : LastRun) (ds : List Description) (d : Description) → last_or none (ds ++ d ∷ []) ≡ Some (run_of d)
last_snoc before [] d = refl
last_snoc before (e ∷ ds) d = last_snoc (Some (run_of e)) ds d
