-- The first run of a stream that lacks room, and that the stream reader stops there with refusal 8. Assumes nothing.
use Rattle.format.proofs.Common.{◌≡◌, refl, ap, ◌∙◌, ℕ, ◌+◌, ◌-◌, ◌<◌, ◌≤◌, dec_lt, arith, List, [], ◌∷◌, ◌++◌, append_assoc}
use Rattle.format.specs.Runs.{Description, row_count, AllValid, layout, joined}
use Rattle.format.specs.Parse.{plain}
use Rattle.format.specs.Streams.{broken, read_all, total_rows}
use Rattle.format.proofs.Joined.{joined-append, valid-behind}
use Rattle.format.proofs.Streams.{stream-broken}
use Rattle.promises.specs.Refusals.{refusal-8, by_number}
use Rattle.promises.proofs.Lines.{line}

pub valid-front : (ds es : List Description) → AllValid (ds ++ es) → AllValid ds
valid-front [] es v = tt
valid-front (d ∷ ds) es v = (v.0, valid-front ds es v.1)

pub record Short (room : ℕ) (ds : List Description) : Type 0 where
  pub before : List Description
  pub short : Description
  pub later : List Description
  pub runs : ds ≡ before ++ (short ∷ later)
  pub enough : total_rows before ≤ room
  pub lacks : room < total_rows before + row_count short

pub first_short : (room : ℕ) (ds : List Description) → room < total_rows ds → Short room ds
unfolding total_rows
first_short room [] h = absurd (omega arith)
first_short room (d ∷ ds) h = go (dec_lt room (row_count d)) (λ l. first_short (room - row_count d) ds l)
  where
    go : Dec (room < row_count d) → (room - row_count d < total_rows ds → Short (room - row_count d) ds) → Short room (d ∷ ds)
    go (yes l) ih = record { before = []; short = d; later = ds; runs = refl; enough = omega arith; lacks = omega arith }
    go (no l) ih =
        let p : Short (room - row_count d) ds = ih (omega arith) in
        record {
          before = d ∷ p.before;
          short = p.short;
          later = p.later;
          runs = ap (λ (t : List Description). d ∷ t) p.runs;
          enough = omega (arith, l, p.enough);
          lacks = omega (arith, l, p.lacks);
        }

pub stops-short : (room : ℕ) (ds : List Description) (rest : List ℕ) → AllValid ds → (s : Short room ds)
    → read_all room (joined ds ++ rest) ≡ broken s.before (plain 8) (layout s.short ++ (joined s.later ++ rest))
unfolding joined
stops-short room ds rest v s =
    let w : AllValid (s.before ++ (s.short ∷ s.later)) = rw s.runs at v in
    let tail : List ℕ = joined s.later ++ rest in
    let e : joined ds ++ rest ≡ joined s.before ++ (layout s.short ++ tail) =
    ap (λ (t : List Description). joined t ++ rest) s.runs
    ∙ ap (λ (t : List ℕ). t ++ rest) (joined-append s.before (s.short ∷ s.later)) ∙ simp append_assoc in
    ap (read_all room) e
    ∙ stream-broken room s.before (layout s.short ++ tail) (plain 8) (valid-front s.before (s.short ∷ s.later) w) s.enough
    (line _ _ (by_number (refusal-8 (
      s.short,
      tail,
      (valid-behind s.before (s.short ∷ s.later) w).0,
      refl,
      omega (arith, s.enough, s.lacks),
    ))))
