-- Where the reader in parts stands before closing: as the whole-stream reader's answer over the bytes so far says. Assumes nothing.
use Rattle.format.proofs.Common.{◌≡◌, refl, sym, ap, ◌∙◌, ℕ, ◌*◌, ◌≤◌, arith, List, ◌++◌, length, length-append, eqb, T_not}
use Rattle.format.specs.declared.Refusal.{Refusal}
use Rattle.format.specs.declared.Standing.TheVariants.{Opened, Broken}
use Rattle.format.specs.Answers.{Stream, refusing}
use Rattle.format.specs.Digits.{AllBelow}
use Rattle.format.specs.Runs.{Description, AllValid, joined}
use Rattle.format.specs.Parse.{plain}
use Rattle.format.specs.Streams.{read_all}
use Rattle.format.specs.Promises.{stream_answer}
use Rattle.format.specs.Parts as reader
use Rattle.format.specs.Parts.{refusal_from, broke, ended, close}
use Rattle.format.proofs.Below.{behind-below}
use Rattle.format.proofs.Joined.{rows-le}
use Rattle.format.proofs.Runs.{parse-empty}
use Rattle.format.proofs.Tests.{never}
use Rattle.promises.specs.Parts.{Fed, GivenInParts, joined_parts, starting, last_answer, rows_in, OfUnfinished, Stands, BeforeClosing, EnoughRoom}
use Rattle.promises.proofs.Feeding.{nothing-held, begun, after, Result, waiting, barred}
use Rattle.promises.proofs.Parts.{rows_of, all-fed, same-as-stream}
use Rattle.promises.proofs.PartsRefused.{the-numbers}

pub before-closing : BeforeClosing
unfolding close reader.in_places reader.unless_stopped reader.on_close
before-closing ps h n l = go (all-fed ps h) (ap (λ (g : GivenInParts). g.answer) ((same-as-stream ps h n).1 l))
  where
    w : Stream
    w = stream_answer 0 (read_all n (joined_parts ps))

    -- open: the stream's answer is the end, or one of the five
    opened : ((f : Refusal) → last_answer w ≡ broke f → OfUnfinished f.number) → Stands Opened w
    opened u = record {
      refused = λ f. ((λ e. never (cc)), λ (e, n). absurd (n (u f e)));
      still_open = ((λ e. u), λ v. refl);
    }

    go : {f : Fed} → Result 0 (joined_parts ps) f → (close 512 f.state).reply ≡ last_answer w → Stands f.state.standing w
    go (waiting ds v e (nothing-held z)) c =
        let q : ended ≡ last_answer w = rw (z, parse-empty) at c in
        opened (λ f g. never (cc))
    go (waiting ds {rest} v e (begun {r} b p u)) c =
        let q : broke (refusal_from (after 0 ds) (length rest) r) ≡ last_answer w = rw p at c in
        opened (λ f g.
        let y : refusal_from (after 0 ds) (length rest) r ≡ f = cc in
        rw y at ((the-numbers rest b r p (after 0 ds)).0 u))
    go (barred ds rest k v e w' p u) c =
        let b : AllBelow 256 rest = behind-below 256 (joined ds) rest (rw e at h) in
        let none : OfUnfinished k → ⊥ = λ o. T_not (eqb k 1) u ((the-numbers rest b (plain k) p 0).1 o) in
        record {
          refused = λ f. (
            (λ g. let y : refusing k (after 0 ds) ≡ f = cc in (sym c ∙ ap broke y, rw (← y) none)),
            λ (g, o). let y : refusing k (after 0 ds) ≡ f = cc in ap Broken y,
          );
          still_open = ((λ g. never (cc)), λ o. absurd (none (o _ (sym c))));
        }

pub enough-room : EnoughRoom
enough-room ps h = go (all-fed ps h)
  where
    few : (ds : List Description) (rest : List ℕ) → AllValid ds → joined_parts ps ≡ joined ds ++ rest
        → rows_in (starting 0 ds) ≤ 512 * length (joined_parts ps)
    few ds rest v e = omega (arith, rows_of 0 ds, rows-le ds v, ap length e, length-append (joined ds) rest)

    go : {f : Fed} → Result 0 (joined_parts ps) f → rows_in f.runs ≤ 512 * length (joined_parts ps)
    go (waiting ds {rest} v e w) = few ds rest v e
    go (barred ds rest n v e w p u) = few ds rest v e
