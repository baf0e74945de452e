-- The turns of the walk: the runs so far, the runs that they are converted to, and where the stream ends or is refused. Assumes nothing.
use Rattle.format.proofs.Common.{◌≡◌, refl, sym, ap, ◌∙◌, ℕ, ◌+◌, ◌-◌, ◌*◌, ◌≤◌, arith, Bool, true, false, List, [], ◌∷◌, ◌++◌}
use Rattle.format.proofs.Common.{append_assoc, append-nil, length, drop, length-append, ltb, lt-ltb, le-ltb}
use Rattle.format.specs.declared.Refusal.{Refusal}
use Rattle.format.specs.Digits.{AllBelow}
use Rattle.format.specs.Runs.{Description, AllValid, Valid, layout, joined}
use Rattle.format.specs.Streams.{whole, broken, total_rows, stream}
use Rattle.format.proofs.Below.{below-drop}
use Rattle.format.proofs.Runs.{layout-pos}
use Rattle.format.proofs.Streams.{stream-broken}
use Rattle.format.proofs.StreamRoom.{more_room}
use Rattle.format.proofs.Joined.{joined_snoc, rows-le}
use Rattle.format.proofs.Tests.{never}
use Rattle.std.specs.Prelude.{Option, Some, None, Err}
use Rattle.format.specs.declared.ByteOffset.{ByteOffset}
use Rattle.convert.specs.declared.turn.Turn.{Turn}
use Rattle.convert.specs.Convert.{is_odd, converted, converted_all, odd_runs, result, convert}
use Rattle.convert.specs.Turn.{Turned, NoRun}
use Rattle.convert.specs.Walk.{counted, finished, Within, Filled, Lays, Walked}
use Rattle.convert.proofs.Streams.{whole_in}

-- ---- one run more

all_snoc : (ds : List Description) (d : Description) → AllValid ds → Valid d → AllValid (ds ++ (d ∷ []))
all_snoc [] d v w = (w, tt)
all_snoc (x ∷ ds) d v w = (v.0, all_snoc ds d v.1 w)

converted-snoc : (signed : Bool) (ds : List Description) (d : Description)
    → converted_all signed (ds ++ (d ∷ [])) ≡ converted_all signed ds ++ (converted signed d ∷ [])
converted-snoc signed [] d = refl
converted-snoc signed (x ∷ ds) d = ap (λ (l : List Description). converted signed x ∷ l) (converted-snoc signed ds d)

odd-snoc : (ds : List Description) (d : Description) → odd_runs (ds ++ (d ∷ [])) ≡ odd_runs ds + counted (is_odd d)
unfolding odd_runs
odd-snoc [] d = omega arith
odd-snoc (x ∷ ds) d = rw (odd-snoc ds d) (omega arith)

pub counted-le : (t : Bool) → counted t ≤ 1
counted-le true = omega arith
counted-le false = omega arith

result-inj : {a a' : ℕ} {l l' : List ℕ} → result a l ≡ result a' l' → l ≡ l'
result-inj e = cc

pub within : (l : List ℕ) (room : ℕ) (out₀ out : List ℕ) (at : Option ByteOffset) → Filled l room out₀ out at → Within at room
within l room out₀ out None f = tt
within l room out₀ out (Some end) f = f.end-in

module _ (signed : Bool) (bs : List ℕ) (limit : ℕ) (out₀ : List ℕ) where
  -- the runs ds are behind the walk
  pub record Along (out : List ℕ) (p altered : ℕ) (at : Option ByteOffset) : Type 0 where
    pub ds : List Description
    pub valid : AllValid ds
    pub split : bs ≡ joined ds ++ drop p bs
    pub place : p ≡ length (joined ds)
    pub count : altered ≡ odd_runs ds
    pub few : altered ≤ p
    pub long : length out ≡ length out₀
    pub fill : Filled (joined (converted_all signed ds)) limit out₀ out at

  pub along-first : Along out₀ 0 0 (Some (record { bytes = 0 }))
  unfolding joined odd_runs
  along-first = record {
    ds = [];
    valid = tt;
    split = refl;
    place = refl;
    count = refl;
    few = omega arith;
    long = refl;
    fill = record { end_is = refl; end-in = omega arith; laid = λ e. refl };
  }

  module _ (out : List ℕ) (p altered : ℕ) (at : Option ByteOffset) (w : Along out p altered at) where
    pub along-next : (made out' : List ℕ) (t : Turn) (at' : Option ByteOffset) → Turned signed bs p made t → Lays made t.given.bytes at limit out out' at'
        → Along out' (p + t.taken.bytes) (altered + counted t.odd) at'
    along-next made out' t at' u l =
        let d = u.which in
        let j : joined (converted_all signed (w.ds ++ (d ∷ []))) ≡ joined (converted_all signed w.ds) ++ layout (converted signed d) =
        ap joined (converted-snoc signed w.ds d) ∙ joined_snoc (converted_all signed w.ds) (converted signed d) in
        record {
          ds = w.ds ++ (d ∷ []);
          valid = all_snoc w.ds d w.valid u.valid;
          split = w.split ∙ ap (λ (x : List ℕ). joined w.ds ++ x) u.split ∙ sym (append_assoc (joined w.ds) (layout d) _)
              ∙ ap (λ (x : List ℕ). x ++ drop (p + t.taken.bytes) bs) (sym (joined_snoc w.ds d));
          place = rw (joined_snoc w.ds d, length-append (joined w.ds) (layout d)) (omega (arith, w.place, u.taken_is));
          count = rw (odd-snoc w.ds d, ← u.odd_is) (omega (arith, w.count));
          few = omega (arith, w.few, counted-le t.odd, u.taken_is, layout-pos d);
          long = l.long ∙ w.long;
          fill = rw (j, ← u.bytes) (l.more (joined (converted_all signed w.ds)) out₀ w.fill);
        }

    -- the bytes end
    pub along-end : drop p bs ≡ [] → Walked signed bs limit out₀ out (finished altered at)
    unfolding convert
    along-end z = by at w.fill
      where
        e : stream bs ≡ whole w.ds
        e = whole_in bs w.ds w.valid (w.split ∙ rw (z, append-nil))

        made : List ℕ
        made = joined (converted_all signed w.ds)

        by : (at : Option ByteOffset) → Filled made limit out₀ out at → Walked signed bs limit out₀ out (finished altered at)
        by None f =
            let h : ltb limit (length made) ≡ true = lt-ltb limit (length made) f in
            record { answer = rw (e, h); long = w.long; places = λ q a bytes r. never (cc (rw (e, h) at r)) }
        by (Some end) f =
            let h : ltb limit (length made) ≡ false = le-ltb limit (length made) (omega (arith, f.end_is, f.end-in)) in
            record {
              answer = rw (e, h, w.count, f.end_is);
              long = w.long;
              places = λ q a bytes r.
                  let b : made ≡ bytes = result-inj (rw (e, h) at r) in
                  rw (← b) (f.laid q);
            }

    -- a run is refused
    pub along-refused : (f : Refusal) → AllBelow 256 bs → NoRun signed bs p f → Walked signed bs limit out₀ out (Err f)
    unfolding convert stream
    along-refused f h n =
        let n₀ = 512 * length bs in
        let r = more_room (n₀ - total_rows w.ds) 512 (drop p bs) n.reason (below-drop 256 p bs h) (λ z. omega arith) n.read in
        let k : total_rows w.ds ≤ n₀ = omega (arith, rows-le w.ds w.valid, ap length w.split, length-append (joined w.ds) (drop p bs)) in
        let e : stream bs ≡ broken w.ds n.reason (drop p bs) = rw (← w.split) at (stream-broken n₀ w.ds (drop p bs) n.reason w.valid k r) in
        record {
          answer = rw (e, ← w.place) (ap Err n.refusal_is);
          long = w.long;
          places = λ q a bytes r. never (cc (rw e at r));
        }
