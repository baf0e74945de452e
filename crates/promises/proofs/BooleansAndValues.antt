-- Booleans and byte values, from the law of booleans. Assumes nothing.
use Rattle.std.specs.Prelude.{Some, None, Err}
use Rattle.format.proofs.Common.{◌≡◌, refl, sym, ap, ◌∙◌, subst, ℕ, ◌+◌, ◌-◌, ◌<◌, ◌≤◌, dec_lt, le_refl, arith, List, ◌++◌, length, drop}
use Rattle.format.proofs.Common.{length-drop, lt-ltb, le-ltb, le-leb, lt-leb}
use Rattle.format.specs.declared.Kind.TheVariants.{Booleans}
use Rattle.format.specs.declared.Refusal.{Refusal}
use Rattle.format.specs.Answers.{CutField, Answer, ran, refused_at, cut_at, answer_number, answer_cut}
use Rattle.format.specs.Digits.{AllBelow}
use Rattle.format.specs.Fields.{bytes_for}
use Rattle.format.specs.Parse.{cut_in, Parsed, got, refused, bytes}
use Rattle.format.specs.Booleans.{ByteRun, joined_runs, booleans_of, booleans, booleans_into, BooleansRead}
use Rattle.format.proofs.Posts.{Took, of-got}
use Rattle.format.proofs.Below.{below-drop}
use Rattle.format.proofs.Runs.{got-inj}
use Rattle.format.proofs.ByteRuns.{ValidNeeded}
use Rattle.format.proofs.Booleans.{booleans-complete, booleans-sound}
use Rattle.format.proofs.Tests.{never}
use Rattle.promises.specs.BooleansAndValues.{CutShort, Hold, BooleansExactly, BooleansHold, ValueHolds}
use Rattle.promises.proofs.BooleanFates.{Fate, all_read, stops, fate}
use Rattle.promises.proofs.BooleanLines.{line, field-le}

-- ---- the promise

byte_of : CutField → ℕ
byte_of None = 0
byte_of (Some o) = o.bytes

module _ (input : List ℕ) (at n : ℕ) (out out' : List ℕ) (r : Answer) (p : BooleansRead input at n out out' r) where
  abbrev bs : List ℕ
  bs = drop at input

  read_back : (ds : List ByteRun) → (h : Hold bs n ds) → booleans n bs ≡ got ds h.rest
  read_back ds h = rw h.bytes (booleans-complete n ds h.rest h.valid h.needed)

  full : (ds : List ByteRun) → Hold bs n ds → n ≤ length out → (r ≡ ran Booleans 1 n (length (joined_runs ds))) × (out' ≡ booleans_of n ds ++ drop n out)
  unfolding booleans_into
  full ds h l = (rw (read_back ds h, le-ltb (length out) n l) at p.answer, rw (read_back ds h, le-ltb (length out) n l) at p.places)

  few : (ds : List ByteRun) → Hold bs n ds → length out < n → (r ≡ refused_at 8 at) × (out' ≡ out)
  unfolding booleans_into
  few ds h l = (rw (read_back ds h, lt-ltb (length out) n l) at p.answer, rw (read_back ds h, lt-ltb (length out) n l) at p.places)

  module _ (k field : ℕ) (c : CutShort bs (bytes_for n) k field) where
    stop : booleans n bs ≡ refused (cut_in k (drop field bs))
    unfolding booleans
    stop = line (bytes_for n) bs c

    off : (r ≡ cut_at k at (at + field)) × (out' ≡ out)
    unfolding booleans_into
    off =
        let e : length input - at - length (drop field bs) ≡ field = omega (arith, length-drop at input, length-drop field bs, field-le (bytes_for n) bs c) in
        (rw (stop, e) at p.answer, rw stop at p.places)

    unheld : (ds : List ByteRun) → Hold bs n ds → ⊥
    unheld ds h = never (cc (read_back ds h, stop))

  -- a run is no refusal, and no refusal with a byte is one without
  run-no-refusal : (b : ℕ) (f : Refusal) → r ≡ ran Booleans 1 n b → r ≡ Err f → ⊥
  run-no-refusal b f e g = never (cc)

  byte-or-none : (k l b : ℕ) → r ≡ refused_at k at → r ≡ cut_at l at b → ⊥
  byte-or-none k l b e g =
      let q : None ≡ Some _ = ap answer_cut (sym e ∙ g) in
      never (cc)

  same-field : (k field k' byte : ℕ) → CutShort bs (bytes_for n) k field → r ≡ cut_at k' at byte
      → (field : ℕ) × CutShort bs (bytes_for n) k' field × (byte ≡ at + field)
  unfolding byte_of
  same-field k field k' byte c e =
      let f : cut_at k at (at + field) ≡ cut_at k' at byte = sym (off k field c).0 ∙ e in
      (field, subst (λ (x : ℕ). CutShort bs (bytes_for n) x field) (ap answer_number f) c, sym (ap (λ (x : Answer). byte_of (answer_cut x)) f))

  -- what a call gives
  data Gave : Type 0 where
    gave-booleans : (ds : List ByteRun) → Hold bs n ds → n ≤ length out → Gave
    gave-8 : (ds : List ByteRun) → Hold bs n ds → length out < n → Gave
    gave-cut : (k field : ℕ) → CutShort bs (bytes_for n) k field → Gave

  gave : AllBelow 256 input → Gave
  unfolding booleans
  gave h = go refl (fate (length bs) (bytes_for n) bs (below-drop 256 at input h) (le_refl _)) (dec_lt (length out) n)
    where
      go : {x : Parsed (List ByteRun)} → booleans n bs ≡ x → Fate (bytes_for n) bs x → Dec (length out < n) → Gave
      go e (stops {k} {field} c) room = gave-cut k field c
      go e (all_read {ds} {rest}) room = by room
        where
          held : Hold bs n ds
          held =
              let t : Took bs joined_runs (ValidNeeded (bytes_for n)) ds rest = of-got (rw e at (booleans-sound n bs (below-drop 256 at input h))) in
              record { valid = t.ok.0; needed = t.ok.1; rest = rest; bytes = t.split }

          by : Dec (length out < n) → Gave
          by (yes l) = gave-8 ds held l
          by (no l) = gave-booleans ds held (omega arith)

  only_one : (ds ds' : List ByteRun) → Hold bs n ds → Hold bs n ds' → ds ≡ ds'
  only_one ds ds' h h' = (got-inj (sym (read_back ds h) ∙ read_back ds' h')).0

  exactly : Gave → BooleansExactly bs at n out out' r
  exactly (gave-booleans ds h l) = record {
    answer = λ ds h l. (full ds h l).0;
    places = λ ds h l. (full ds h l).1;
    only = only_one;
    fields = λ k byte. (λ e. absurd (run-no-refusal _ _ (full ds h l).0 e), λ (field, c, e). absurd (unheld k field c ds h));
    input-ends = (λ (k, b, e). absurd (run-no-refusal _ _ (full ds h l).0 e), λ f. absurd (f ds h));
    eight = λ k. (λ e. absurd (run-no-refusal _ _ (full ds h l).0 e), λ (e, ds, h, few). absurd (omega arith));
    unchanged = λ f e. absurd (run-no-refusal _ f (full ds h l).0 e);
  }
  exactly (gave-8 ds h l) = record {
    answer = λ ds h l. (full ds h l).0;
    places = λ ds h l. (full ds h l).1;
    only = only_one;
    fields = λ k byte. (λ e. absurd (byte-or-none 8 k _ (few ds h l).0 e), λ (field, c, e). absurd (unheld k field c ds h));
    input-ends = (λ (k, b, e). absurd (byte-or-none 8 k b (few ds h l).0 e), λ f. absurd (f ds h));
    eight = λ k. (λ e. (ap answer_number (sym e ∙ (few ds h l).0), ds, h, l), λ q. rw q.0 (few ds h l).0);
    unchanged = λ f e. (few ds h l).1;
  }
  exactly (gave-cut k field c) = record {
    answer = λ ds h l. (full ds h l).0;
    places = λ ds h l. (full ds h l).1;
    only = only_one;
    fields = λ k' byte. (λ e. same-field k field k' byte c e, λ (field', c', e). rw e (off k' field' c').0);
    input-ends = (λ e. unheld k field c, λ f. (k, at + field, (off k field c).0));
    eight = λ k'. (λ e. absurd (byte-or-none k' k _ e (off k field c).0), λ (e, ds, h, few). absurd (unheld k field c ds h));
    unchanged = λ f e. (off k field c).1;
  }

pub booleans-hold : BooleansHold
booleans-hold input h at n out out' r p = exactly input at n out out' r p (gave input at n out out' r p h)

pub value-holds : ValueHolds
unfolding bytes
value-holds input at n part r p q = record {
  there = λ l. (rw (le-leb n (length (drop at input)) l) at p.answer, rw (le-leb n (length (drop at input)) l) at q.part-is);
  six = λ l.
      let e : at + (length input - at - length (drop at input)) ≡ at = omega (arith, length-drop at input) in
      (rw (lt-leb n (length (drop at input)) l, e) at p.answer, rw (lt-leb n (length (drop at input)) l) at q.part-is);
}
