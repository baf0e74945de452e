-- A file that is cut inside a run is refused there, or with 8 at a run before it that lacks room. Assumes nothing.
use Rattle.format.proofs.Common.{◌≡◌, refl, sym, ap, ◌∙◌, ◌≢◌, ℕ, suc, ◌+◌, ◌-◌, ◌<◌, ◌≤◌, dec_lt, arith, Bool, List, [], ◌∷◌, ◌++◌, length}
use Rattle.format.proofs.Common.{take, drop, length-append, take-append-drop, take-append-le, take-append-add, length-take-le, T, eqb→eq, ℤ}
use Rattle.format.specs.Answers.{Stream, refusal}
use Rattle.format.specs.Digits.{AllBelow}
use Rattle.format.specs.Runs.{Description, Valid, AllValid, layout, joined}
use Rattle.format.specs.Parse.{Reason, unfinished, into}
use Rattle.format.specs.Streams.{broken, read_all, total_rows}
use Rattle.format.specs.Promises.{StreamRead}
use Rattle.format.proofs.Below.{append-below}
use Rattle.format.proofs.Runs.{layout-below}
use Rattle.format.proofs.Cut.{cut-number}
use Rattle.format.proofs.Joined.{joined-append, valid-behind}
use Rattle.format.proofs.Streams.{into-refused, stream-broken}
use Rattle.format.proofs.Tests.{never}
use Rattle.promises.specs.CutFile.{EndInside, CutBetween, in-header, in_field, Inside, Refuses, LacksRoom, CutFileHolds}
use Rattle.promises.specs.WholeStreamExactly.{IsWhole}
use Rattle.promises.specs.Refusals.{TableGives, by_number, by_field}
use Rattle.promises.proofs.Refusals.{refusals, field-le, field-pos, field-here}
use Rattle.promises.proofs.ShortOfRoom.{valid-front, Short, first_short, stops-short}

-- ---- the run that the cut is in

inside : (n : ℕ) (ds : List Description) → EndInside n ds → Inside n ds
unfolding joined
inside n [] (h, i) = absurd (omega arith)
inside n (d ∷ ds) (h, i) = go (dec_lt n (length (layout d))) (λ j. inside (n - length (layout d)) ds j)
  where
    go : Dec (n < length (layout d)) → (EndInside (n - length (layout d)) ds → Inside (n - length (layout d)) ds) → Inside n (d ∷ ds)
    go (yes l) ih =
        let some : n ≢ 0 = i 0 in
        record { before = []; cut = d; later = ds; runs = refl; begun = omega arith; ended = omega arith }
    go (no l) ih =
        let p : Inside (n - length (layout d)) ds =
        ih (
          omega (arith, length-append (layout d) (joined ds)),
          λ k e. i (suc k) (omega (arith, l, length-append (layout d) (joined (take k ds)))),
        ) in
        record {
          before = d ∷ p.before;
          cut = p.cut;
          later = p.later;
          runs = ap (λ (t : List Description). d ∷ t) p.runs;
          begun = omega (arith, l, p.begun, length-append (layout d) (joined p.before));
          ended = omega (arith, l, p.ended, length-append (layout d) (joined p.before));
        }

nonempty : (s : List ℕ) → 0 < length s → s ≢ []
nonempty s h e = omega (arith, ap length e)

module _ (n : ℕ) (ds : List Description) (v : AllValid ds) (i : Inside n ds) where
  -- how many of its bytes are left, and which
  abbrev size : ℕ
  size = n - length (joined i.before)

  abbrev left : List ℕ
  left = take size (layout i.cut)

  left-size : length left ≡ size
  left-size = length-take-le size (layout i.cut) (omega (arith, i.ended))

  valid : AllValid (i.before ++ (i.cut ∷ i.later))
  valid = rw i.runs at v

  valid-before : AllValid i.before
  valid-before = valid-front i.before (i.cut ∷ i.later) valid

  valid-cut : Valid i.cut
  valid-cut = (valid-behind i.before (i.cut ∷ i.later) valid).0

  -- what is left of the file: the runs before it, and those bytes
  kept : take n (joined ds) ≡ joined i.before ++ left
  unfolding joined
  kept =
      let e : n ≡ length (joined i.before) + size = omega (arith, i.begun) in
      ap (λ (t : List Description). take n (joined t)) i.runs ∙ ap (take n) (joined-append i.before (i.cut ∷ i.later))
      ∙ ap (λ (k : ℕ). take k (joined i.before ++ (layout i.cut ++ joined i.later))) e
      ∙ take-append-add (joined i.before) (layout i.cut ++ joined i.later) size
      ∙ ap (λ (t : List ℕ). joined i.before ++ t) (take-append-le size (layout i.cut) (joined i.later) (omega (arith, i.ended)))

  -- ---- why it is refused, if the rows before it have room, and what reading the rest of the file gives
  broken-there : (r : Reason) × T (unfinished r) × TableGives 0 left r
      × ((room : ℕ) → total_rows i.before ≤ room → read_all room (take n (joined ds)) ≡ broken i.before r left)
  broken-there =
      let right : List ℕ = drop size (layout i.cut) in
      let bytes : layout i.cut ≡ left ++ right = sym (take-append-drop size (layout i.cut)) in
      let all : length (layout i.cut) ≡ length left + length right = ap length bytes ∙ length-append left right in
      let (r, f, c) =
      cut-number i.cut left right valid-cut bytes (nonempty left (omega (arith, i.begun, left-size)))
      (nonempty right (omega (arith, i.ended, i.begun, left-size))) in
      let below : AllBelow 256 left = append-below 256 left right (rw bytes at (layout-below i.cut valid-cut)) in (
        r,
        c,
        (refusals 0 left below r).0 (ap (into 0) f ∙ into-refused 0 r),
        λ room h. ap (read_all room) kept ∙ stream-broken room i.before left r valid-before h (ap (into _) f ∙ into-refused _ r),
      )

  -- where it begins, and the file ends
  cut-between : (at : ℕ) (r : Reason) → TableGives 0 left r → T (unfinished r)
      → CutBetween (at + length (joined i.before)) (at + n) (refusal (at + length (joined i.before)) (length left) r)
  cut-between at r (by_number {n = k} t) c = rw (eqb→eq k 1 c) in-header
  cut-between at r (by_field {n = k} {field} l) c =
      rw (field-here 0 (at + length (joined i.before)) left k field l)
      (in_field {byte = at + length (joined i.before) + field} (field-pos left l).1 (omega (arith, (field-pos left l).0))
      (omega (arith, i.begun, left-size, field-le left l)))

-- ---- the theorem

module _ (input : List ℕ) (at : ℕ) (signed : Bool) (out out' : List ℤ) (r : Stream) (s : StreamRead input at signed out out' r)
    (n : ℕ) (ds : List Description) (v : AllValid ds) (e : drop at input ≡ take n (joined ds)) (i : Inside n ds) where
  cut-refused : total_rows i.before ≤ length out → Refuses i at signed out out' r
  cut-refused room =
      let (k, c, t, stops) = broken-there n ds v i in
      let f = stops (length out) room in
      record { refusal = _; where-cut = cut-between n ds v i at k t c; answer = rw (e, f) at s.answer; places = rw (e, f) at s.places }

  room-lacking : length out < total_rows i.before → LacksRoom i.before at signed out out' r
  room-lacking h =
      let p : Short (length out) i.before = first_short (length out) i.before h in
      let f = stops-short (length out) i.before (left n ds v i) (valid-before n ds v i) p in
      let k = kept n ds v i in
      record {
        before = p.before;
        short = p.short;
        later = p.later;
        runs = p.runs;
        room = p.enough;
        lacks = p.lacks;
        answer = rw (e, k, f) at s.answer;
        places = rw (e, k, f) at s.places;
      }

  not-whole : IsWhole r → ⊥
  not-whole (rows, bytes, last, w) = go (dec_lt (length out) (total_rows i.before))
    where
      go : Dec (length out < total_rows i.before) → ⊥
      go (yes l) =
          let a = (room-lacking l).answer in
          never (cc)
      go (no l) =
          let a = (cut-refused (omega arith)).answer in
          never (cc)

pub cut-file : CutFileHolds
cut-file input at signed out out' r s n ds v i e = record {
  inside = inside n ds i;
  refuses = cut-refused input at signed out out' r s n ds v e;
  lacks-room = room-lacking input at signed out out' r s n ds v e;
  never-whole = not-whole input at signed out out' r s n ds v e (inside n ds i);
}
