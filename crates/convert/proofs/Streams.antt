-- The stream and the call. Assumes nothing.
use Rattle.format.proofs.Common.{◌≡◌, refl, sym, ap, subst, ◌∙◌, ℕ, ◌*◌, arith, Bool, true, false, List, [], ◌∷◌, length, length-map, ltb}
use Rattle.format.proofs.Common.{lt-ltb, le-ltb, ltb-true, ltb-false}
use Rattle.format.specs.Digits.{AllBelow}
use Rattle.format.specs.Fields.{pick}
use Rattle.format.specs.Runs.{Description, AllValid, layout, joined}
use Rattle.format.specs.Rows.{i64_rows}
use Rattle.format.specs.Streams.{Reading, whole, read_all, stream, total_rows, joined_rows}
use Rattle.format.proofs.Below.{below-append}
use Rattle.format.proofs.Rows.{joined-count}
use Rattle.format.proofs.Runs.{layout-below}
use Rattle.format.proofs.Streams.{Reads, reads_whole, reads-broken, stream-post, stream-whole}
use Rattle.format.proofs.StreamRoom
use Rattle.convert.specs.Convert as c
use Rattle.convert.specs.Convert.{is_odd, converted, converted_all, odd_runs, result, eight, outcome_of, convert}
use Rattle.convert.specs.Laws.{StreamsHold, Gives, gives-own, gives-eight, gives-result, ConvertExactly, Result, ResultsHold, RoomEnough}
use Rattle.convert.specs.Laws.{ConvertDetermined}
use Rattle.convert.proofs.Runs.{runs-hold}

-- ---- the runs

module _ (signed : Bool) where
  all_valid : (ds : List Description) → AllValid ds → AllValid (converted_all signed ds)
  all_valid [] v = tt
  all_valid (d ∷ ds) v = ((runs-hold signed d v.0).valid, all_valid ds v.1)

  same_rows : (ds : List Description) → AllValid ds → joined_rows signed (converted_all signed ds) ≡ joined_rows signed ds
  unfolding joined_rows i64_rows
  same_rows [] v = refl
  same_rows (d ∷ ds) v = rw ((runs-hold signed d v.0).rows, same_rows ds v.1)

  none-odd : (ds : List Description) → AllValid ds → odd_runs (converted_all signed ds) ≡ 0
  unfolding odd_runs
  none-odd [] v = refl
  none-odd (d ∷ ds) v = rw ((runs-hold signed d v.0).not-odd, none-odd ds v.1)

  copied : (ds : List Description) → AllValid ds → odd_runs ds ≡ 0 → converted_all signed ds ≡ ds
  unfolding odd_runs
  copied [] v e = refl
  copied (d ∷ ds) v e = rw ((runs-hold signed d v.0).copied (even (is_odd d) (omega arith)), copied ds v.1 (omega arith))
    where
      even : (t : Bool) → ◌≡◌ {A = ℕ} (pick t 1 0) 0 → t ≡ false
      even true e = absurd (omega arith)
      even false e = refl

pub streams-hold : StreamsHold
streams-hold signed ds v = record {
  runs = length-map ds (converted signed);
  valid = all_valid signed ds v;
  rows = same_rows signed ds v;
  none-odd = none-odd signed ds v;
  copied = copied signed ds v;
  again = copied signed (converted_all signed ds) (all_valid signed ds v) (none-odd signed ds v);
}

-- ---- room enough

pub joined-below : (ds : List Description) → AllValid ds → AllBelow 256 (joined ds)
unfolding joined
joined-below [] v = tt
joined-below (d ∷ ds) v = below-append 256 (layout d) (joined ds) (layout-below d v.0) (joined-below ds v.1)

pub room-enough : RoomEnough
room-enough bs n h l = StreamRoom.room-enough bs h n l

-- ---- the call

pub whole_in : (bs : List ℕ) (ds : List Description) → AllValid ds → bs ≡ joined ds → stream bs ≡ whole ds
whole_in bs ds v e = ap stream e ∙ StreamRoom.stream-is ds v

gives : (signed : Bool) (bs : List ℕ) (places : ℕ) → AllBelow 256 bs → Gives signed bs places (convert signed bs places)
unfolding convert stream
gives signed bs places h = go (stream-post (512 * length bs) bs h) refl
  where
    fit : (ds : List Description) → AllValid ds → bs ≡ joined ds → (t : Bool) → ltb places (length (joined (converted_all signed ds))) ≡ t
        → Gives signed bs places (pick t eight (result (odd_runs ds) (joined (converted_all signed ds))))
    fit ds v e true f = gives-eight ds v e (ltb-true places (length (joined (converted_all signed ds))) f)
    fit ds v e false f = gives-result ds v e (ltb-false places (length (joined (converted_all signed ds))) f)

    go : {m : Reading} → Reads (512 * length bs) bs m → stream bs ≡ m → Gives signed bs places (outcome_of signed places m)
    go (reads_whole {ds} v e k) f = fit ds v e (ltb places (length (joined (converted_all signed ds)))) refl
    go (reads-broken {ds} {r} {rest} v e k g) f = gives-own ds r rest f

given : {signed : Bool} {bs : List ℕ} {places : ℕ} {r : c.Outcome} → Gives signed bs places r → convert signed bs places ≡ r
unfolding convert
given (gives-own ds r rest e) = rw e
given {signed} {bs} {places} (gives-eight ds v e l) = rw (whole_in bs ds v e, lt-ltb places (length (joined (converted_all signed ds))) l)
given {signed} {bs} {places} (gives-result ds v e l) = rw (whole_in bs ds v e, le-ltb places (length (joined (converted_all signed ds))) l)

pub convert-exactly : ConvertExactly
convert-exactly signed bs places r h = (λ e. subst (λ (x : c.Outcome). Gives signed bs places x) e (gives signed bs places h), λ g. given g)

-- ---- what comes out

pub same_count : (signed : Bool) (ds : List Description) → AllValid ds → total_rows (converted_all signed ds) ≡ total_rows ds
same_count signed ds v =
    sym (joined-count signed (converted_all signed ds)) ∙ ap (λ l. length l) (same_rows signed ds v) ∙ joined-count signed ds

result-of : {signed : Bool} {bs : List ℕ} {places altered : ℕ} {out : List ℕ} → Gives signed bs places (result altered out) → Result signed bs altered out
result-of {signed} (gives-result ds v f l) =
    let s = streams-hold signed ds v in
    record {
      before = ds;
      read-before = λ n k. ap (read_all n) f ∙ stream-whole n ds v k;
      read-after = λ n k. stream-whole n (converted_all signed ds) s.valid (rw (same_count signed ds v) k);
      rows = s.rows;
      none-odd = s.none-odd;
      count = refl;
      same_bytes = λ z. ap joined (s.copied z) ∙ sym f;
      again = λ more k. given (gives-result (converted_all signed ds) s.valid refl (rw s.again k)) ∙ rw (s.none-odd, s.again);
    }

pub results-hold : ResultsHold
results-hold signed bs places altered out h e = result-of ((convert-exactly signed bs places (result altered out) h).0 e)

pub convert-determined : ConvertDetermined
convert-determined signed bs out o o' r r' p q = (p.answer ∙ sym q.answer, p.places ∙ sym q.places)
