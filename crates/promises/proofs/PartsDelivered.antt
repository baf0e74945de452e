-- The code's calls, one after another, hand out what `feed` hands out. Assumes nothing.
use Rattle.format.proofs.Common.{◌≡◌, refl, sym, ap, ◌∙◌, ℕ, zero, suc, ◌+◌, ◌%◌, ◌<◌, ◌≤◌, arith, Bool, List, [], ◌∷◌, ◌++◌, map, length}
use Rattle.format.proofs.Common.{take, drop, length-append, length-drop, take_at, drop-append_seam, ℤ}
use Rattle.format.specs.declared.Run as run
use Rattle.format.specs.declared.PartReader.{PartReader}
use Rattle.format.specs.declared.PartStep.{PartStep}
use Rattle.format.specs.Answers.{Stream}
use Rattle.format.specs.Digits.{AllBelow}
use Rattle.format.specs.Fields.{two64}
use Rattle.format.specs.Runs.{Description, row_count, layout}
use Rattle.format.specs.Rows.{i64_rows}
use Rattle.format.specs.Streams.{Reading, read_all, runs_of, total_rows, joined_rows}
use Rattle.format.specs.Parts as reader
use Rattle.format.specs.Parts.{Handed, State, Call, take_part, close, state_of, answered, places_after, room}
use Rattle.format.proofs.Below.{append-below, below-drop}
use Rattle.format.proofs.Rows.{i64-count, joined-count}
use Rattle.promises.specs.Parts.{Fed, go_on, offer, feed, GivenInParts, read_parts, joined_parts, starting, last_answer, stream_gives, rows_in}
use Rattle.promises.specs.PartsCalls.{rows_shown, AsStreamHolds, StandsHolds, Shown, shown, Offers, last, gives, Offered, no_part, a-part, Delivers}
use Rattle.promises.proofs.Feeding.{nothing-held}
use Rattle.promises.proofs.Parts.{same-as-stream}
use Rattle.promises.proofs.PartsStanding.{before-closing}
use Rattle.promises.proofs.PartsFollow.{follows}
use Rattle.promises.proofs.PartsCalls.{Ready, opened, Onward, onward, ready-after, no_run, Gave, gave, taking, closing}

-- ---- one part, and a list of parts

record Did (signed : Bool) (t : PartReader) (b : List ℕ) (hs : List Shown) (f : Fed) : Type 0 where
  runs : hs ≡ map (shown signed) f.runs
  state : state_of t b ≡ f.state

made : {at at' : ℕ} {x x' : run.Run} {rows rows' : List ℤ} → at ≡ at' → x ≡ x' → rows ≡ rows'
    → ◌≡◌ {A = Shown} (record { at = at; run = x; rows = rows }) (record { at = at'; run = x'; rows = rows' })
made p q r = cc

cons : {h k : Shown} {hs ks : List Shown} → h ≡ k → hs ≡ ks → h ∷ hs ≡ k ∷ ks
cons p q = cc

joins : {hs ks ms ns : List Shown} → hs ≡ ms → ks ≡ ns → hs ++ ks ≡ ms ++ ns
joins p q = cc

offers-is : {signed : Bool} {s t : PartReader} {buffer b bytes : List ℕ} {hs : List Shown} → Offers signed s buffer bytes hs t b → AllBelow 256 bytes
    → Ready (state_of s buffer) → (calls : ℕ) → length bytes < calls → Did signed t b hs (offer calls (state_of s buffer) bytes)
unfolding offer
offers-is (last l t n) below ready zero h = absurd (omega arith)
offers-is (gives l t e rest) below ready zero h = absurd (omega arith)
offers-is {signed} {s} {buffer} {bytes} (last {buffer'} {out} {out'} {r} l t n) below ready (suc calls) h =
    let c : Call = take_part 512 (state_of s buffer) bytes in
    let same : take_part (room buffer out) (state_of s buffer) bytes ≡ c = taking l (state_of s buffer) bytes in
    let a : r.answer ≡ answered c.reply = ap (λ (x : PartStep). x.answer) t.step ∙ ap (λ (x : Call). answered x.reply) same in
    let stops : go_on (λ u rest. offer calls u rest) bytes c c.reply ≡ record { runs = []; state = c.state } = no_run (λ u rest. offer calls u rest) bytes c c.reply (rw a at n) in
    record {
      runs = sym (ap (λ (f : Fed). map (shown signed) f.runs) stops);
      state = follows s bytes buffer buffer' signed out out' r l.bytes below t ∙ ap (λ (x : Call). x.state) same ∙ sym (ap (λ (f : Fed). f.state) stops);
    }
offers-is {signed} {s} {buffer} {b} {bytes} (gives {t = u} {buffer'} {out} {out'} {r} {at} {x} {hs} l t e rest) below ready (suc calls) h =
    let c : Call = take_part 512 (state_of s buffer) bytes in
    let same : take_part (room buffer out) (state_of s buffer) bytes ≡ c = taking l (state_of s buffer) bytes in
    let a : r.answer ≡ answered c.reply = ap (λ (y : PartStep). y.answer) t.step ∙ ap (λ (y : Call). answered y.reply) same in
    let g : Gave c.reply at x = gave c.reply (sym a ∙ e) in
    let o : Onward bytes c = onward bytes g.given ready below g.reply in
    let k : state_of r.reader buffer' ≡ c.state = follows s bytes buffer buffer' signed out out' r l.bytes below t ∙ ap (λ (y : Call). y.state) same in
    let n : r.taken.bytes ≡ c.taken = ap (λ (y : PartStep). y.taken.bytes) t.step ∙ ap (λ (y : Call). y.taken) same in
    let left : List ℕ = drop r.taken.bytes bytes in
    let d : Did signed u b hs (offer calls (state_of r.reader buffer') left)
    = offers-is rest (below-drop 256 r.taken.bytes bytes below) (rw k o.ready) calls
    (omega (arith, length-drop r.taken.bytes bytes, o.some, o.within, n)) in
    let f : Fed = offer calls c.state (drop c.taken bytes) in
    let moved : offer calls (state_of r.reader buffer') left ≡ f
    = ap (λ (y : State). offer calls y left) k ∙ ap (λ (m : ℕ). offer calls c.state (drop m bytes)) n in
    let goes : go_on (λ v w. offer calls v w) bytes c c.reply ≡ record { runs = g.given ∷ f.runs; state = f.state }
    = ap (go_on (λ v w. offer calls v w) bytes c) g.reply in
    let rows : take x.rows.rows out' ≡ i64_rows signed g.given.run
    = ap (λ (y : run.Run). take y.rows.rows out') g.named
    ∙ ap (take (row_count g.given.run)) (t.places ∙ ap (λ (y : Call). places_after signed out y.reply) same ∙ ap (places_after signed out) g.reply)
    ∙ take_at (i64_rows signed g.given.run) _ (row_count g.given.run) (i64-count signed g.given.run) in
    let first : record { at = at.bytes; run = x; rows = take x.rows.rows out' } ≡ shown signed g.given = made g.start g.named rows in
    record {
      runs = cons first (d.runs ∙ ap (λ (y : Fed). map (shown signed) y.runs) moved) ∙ sym (ap (λ (y : Fed). map (shown signed) y.runs) goes);
      state = d.state ∙ ap (λ (y : Fed). y.state) moved ∙ sym (ap (λ (y : Fed). y.state) goes);
    }

map-append : (f : Handed → Shown) (xs ys : List Handed) → map f (xs ++ ys) ≡ map f xs ++ map f ys
map-append f [] ys = refl
map-append f (x ∷ xs) ys = ap (λ (zs : List Shown). f x ∷ zs) (map-append f xs ys)

offered-is : {signed : Bool} {s t : PartReader} {buffer b : List ℕ} {ps : List (List ℕ)} {hs : List Shown}
    → Offered signed s buffer ps hs t b → AllBelow 256 (joined_parts ps)
    → Ready (state_of s buffer) → Did signed t b hs (feed (state_of s buffer) ps)
unfolding feed
offered-is no_part below ready = record { runs = refl; state = refl }
offered-is {signed} {s} {buffer} (a-part {t} {b} {p} {ps} {hs} {ks} o os) below ready =
    let here : AllBelow 256 p = append-below 256 p (joined_parts ps) below in
    let behind : AllBelow 256 (joined_parts ps) = rw (drop-append_seam p (joined_parts ps)) at (below-drop 256 (length p) (p ++ joined_parts ps) below) in
    let f : Fed = offer (suc (length p)) (state_of s buffer) p in
    let d : Did signed t b hs f = offers-is o here ready (suc (length p)) (omega arith) in
    let e = offered-is os behind (rw d.state (ready-after p ready here)) in
    let g : feed (state_of t b) ps ≡ feed f.state ps = ap (λ (y : State). feed y ps) d.state in
    record {
      runs =
          joins d.runs (e.runs ∙ ap (λ (y : Fed). map (shown signed) y.runs) g) ∙ sym (map-append (shown signed) f.runs (feed f.state ps).runs);
      state = e.state ∙ ap (λ (y : Fed). y.state) g;
    }

pub delivers : Delivers
delivers signed ps buffer b hs t out out' r below o l c =
    let d : Did signed t b hs (feed reader.start ps) = offered-is o below (opened (nothing-held refl)) in (
      d.runs,
      ap (λ (x : PartStep). x.answer) c.step ∙ ap (λ (x : Call). answered x.reply) (closing l (state_of t b))
          ∙ ap (λ (x : State). answered (close 512 x).reply) d.state,
    )

-- ---- beside the stream reader

counted : (signed : Bool) (hs : List Handed) → length (rows_shown (map (shown signed) hs)) ≡ rows_in hs
unfolding rows_in
counted signed [] = refl
counted signed (h ∷ hs) =
    omega (arith, length-append (i64_rows signed h.run) (rows_shown (map (shown signed) hs)), i64-count signed h.run, counted signed hs)

rows_are : (signed : Bool) (at : ℕ) (ds : List Description) → rows_shown (map (shown signed) (starting at ds)) ≡ joined_rows signed ds
unfolding starting joined_rows
rows_are signed at [] = refl
rows_are signed at (d ∷ ds) = ap (λ (x : List ℤ). i64_rows signed d ++ x) (rows_are signed ((at + length (layout d)) % two64) ds)

pub as-stream : AsStreamHolds
as-stream signed ps buffer b hs t out out' r below o l c all all' w s room =
    let (runs, answer) = delivers signed ps buffer b hs t out out' r below o l c in
    let m : Reading = read_all (length all) (joined_parts ps) in
    let n : rows_in (read_parts ps).runs ≤ length all = omega (arith, ap (λ (x : List Shown). length (rows_shown x)) runs, counted signed (read_parts ps).runs) in
    let given : read_parts ps ≡ stream_gives m = (same-as-stream ps below (length all)).1 n in
    let shows : hs ≡ map (shown signed) (starting 0 (runs_of m)) = runs ∙ ap (λ (g : GivenInParts). map (shown signed) g.runs) given in
    let rows : rows_shown hs ≡ joined_rows signed (runs_of m) = ap rows_shown shows ∙ rows_are signed 0 (runs_of m) in
    let count : length (rows_shown hs) ≡ total_rows (runs_of m) = ap length rows ∙ joined-count signed (runs_of m) in
    record {
      rows = rw (count, rows) s.places;
      runs = shows;
      answer = answer ∙ ap (λ (g : GivenInParts). answered g.answer) given ∙ ap (λ (x : Stream). answered (last_answer x)) (sym s.answer);
    }

pub stands : StandsHolds
stands signed ps buffer b hs t below o all all' w s room =
    let d : Did signed t b hs (feed reader.start ps) = offered-is o below (opened (nothing-held refl)) in
    let n : rows_in (feed reader.start ps).runs ≤ length all =
    omega (arith, ap (λ (x : List Shown). length (rows_shown x)) d.runs, counted signed (feed reader.start ps).runs) in
    let e : t.standing ≡ (feed reader.start ps).state.standing = ap (λ (x : State). x.standing) d.state in
    rw (e, s.answer) (before-closing ps below (length all) n)
