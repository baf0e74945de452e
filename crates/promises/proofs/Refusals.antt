-- The table of numbers: each refusal is given exactly when its line holds. Assumes nothing.
use Rattle.std.specs.Prelude.{Some, None, Err}
use Rattle.format.proofs.Common.{◌≡◌, refl, sym, ap, ◌∙◌, subst, ◌↔◌, ℕ, ◌+◌, ◌-◌, ◌<◌, ◌≤◌, arith, Bool, true, false, List, ◌++◌, length}
use Rattle.format.proofs.Common.{drop, length-drop, length-append, ltb, ltb-true}
use Rattle.format.specs.declared.Refusal.{Refusal}
use Rattle.format.specs.Answers.{CutField, refusing, cutting, refusal}
use Rattle.format.specs.Runs.{Description, row_count, Valid, layout}
use Rattle.format.specs.Parse.{Reason, plain, cut_in, Parsed, end, got, refused, unless, parse, into}
use Rattle.format.specs.Promises.{answer_of}
use Rattle.format.proofs.Posts.{Took}
use Rattle.format.proofs.Below.{below-drop}
use Rattle.format.proofs.Runs.{parse-sound}
use Rattle.format.proofs.Tests.{never}
use Rattle.promises.specs.Refusals
use Rattle.promises.specs.Refusals.{Table, refusal-8, CutLine, CutNumber, six, twelve, thirteen, fourteen, TableGives, by_number}
use Rattle.promises.specs.Refusals.{by_field, RefusalsHold, AnswersHold}
use Rattle.promises.proofs.Fates.{Fate, no_run, a-run, by-line}
use Rattle.promises.proofs.Fated.{fate}
use Rattle.promises.proofs.Lines.{line}

pub refusals : RefusalsHold
unfolding into
refusals places bs h r = (λ e. to (fate places bs h) refl e, λ t. line places bs t)
  where
    room : {d : Description} {rest : List ℕ} (t : Bool) → ltb places (row_count d) ≡ t → parse bs ≡ got d rest
        → unless t 8 (got d rest) ≡ refused r → TableGives places bs r
    room {d} {rest} true l f e =
        let k : plain 8 ≡ r = cc in
        let t : Took bs layout Valid d rest = parse-sound bs d rest h f in
        subst (λ (x : Reason). TableGives places bs x) k (by_number (refusal-8 (d, rest, t.ok, t.split, ltb-true places (row_count d) l)))
    room {d} {rest} false l f e = never (cc)

    to : {m : Parsed Description} → Fate places bs m → parse bs ≡ m → into places m ≡ refused r → TableGives places bs r
    to no_run f e = never (cc)
    to (a-run {d} {rest}) f e = room (ltb places (row_count d)) refl f e
    to (by-line {r = q} t) f e =
        let k : q ≡ r = cc in
        subst (λ (x : Reason). TableGives places bs x) k t

-- ---- the same of the answer

-- a cut field begins in the input
pub field-le : (bs : List ℕ) {n field : ℕ} → CutLine bs n field → field ≤ length bs
field-le bs (Refusals.in-value h l) = h.header
field-le bs (Refusals.in-base r l) = r.headed.header
field-le bs (Refusals.in-first-row r t) = r.headed.header
field-le bs (Refusals.in-base-delta v rest r e h t) = omega (arith, r.headed.header, length-drop 2 bs, ap length e, length-append v rest)
field-le bs (Refusals.in_rows h l) = h.header
field-le bs (Refusals.in-magnitudes v w rest r e h g l) =
    omega (arith, r.headed.header, length-drop 2 bs, ap length e, length-append v (w ++ rest), length-append w rest)
field-le bs (Refusals.in-values r m l) = m
field-le bs (Refusals.in_list r m l) = m

-- .. behind its first byte, and has one of the numbers
pub field-pos : (bs : List ℕ) {n field : ℕ} → CutLine bs n field → (0 < field) × CutNumber n
field-pos bs (Refusals.in-value h l) = (omega arith, six)
field-pos bs (Refusals.in-base r l) = (omega arith, six)
field-pos bs (Refusals.in-first-row r t) = (omega arith, twelve)
field-pos bs (Refusals.in-base-delta v rest r e h t) = (omega arith, twelve)
field-pos bs (Refusals.in_rows h l) = (omega arith, thirteen)
field-pos bs (Refusals.in-magnitudes v w rest r e h g l) = (omega arith, thirteen)
field-pos bs (Refusals.in-values r m l) = (omega arith, thirteen)
field-pos bs (Refusals.in_list r m l) = (omega arith, fourteen)

answer-refused : (at total : ℕ) (f : Refusal) (m : Parsed Description) → answer_of at total m ≡ Err f
    → (r : Reason) × (m ≡ refused r) × (refusal at total r ≡ f)
answer-refused at total f end e = never (cc)
answer-refused at total f (got d rest) e = never (cc)
answer-refused at total f (refused r) e =
    let z : refusal at total r ≡ f = cc in
    (r, refl, z)

byte_of : CutField → ℕ
byte_of None = 0
byte_of (Some o) = o.bytes

module _ (places at : ℕ) (bs : List ℕ) (n : ℕ) where
  of_number : {r : Reason} → TableGives places bs r → refusal at (length bs) r ≡ refusing n at → Table places bs n
  of_number (by_number t) e = subst (λ (x : ℕ). Table places bs x) (ap (λ (f : Refusal). f.number) e) t
  of_number (by_field l) e =
      let q : Some _ ≡ None = ap (λ (f : Refusal). f.cut) e in
      never (cc)

  pub field-here : (field : ℕ) → CutLine bs n field → refusal at (length bs) (cut_in n (drop field bs)) ≡ cutting n at (at + field)
  field-here field l =
      let e : length bs - length (drop field bs) ≡ field = omega (arith, length-drop field bs, field-le bs l) in
      rw e

  of_field : (byte : ℕ) {r : Reason} → TableGives places bs r → refusal at (length bs) r ≡ cutting n at byte
      → (field : ℕ) × CutLine bs n field × (byte ≡ at + field)
  unfolding byte_of
  of_field byte (by_number t) e =
      let q : None ≡ Some _ = ap (λ (f : Refusal). f.cut) e in
      never (cc)
  of_field byte (by_field {n = k} {field} l) e =
      let j : at + (length bs - length (drop field bs)) ≡ byte = ap (λ (f : Refusal). byte_of f.cut) e in
      (field, subst (λ (x : ℕ). CutLine bs x field) (ap (λ (f : Refusal). f.number) e) l, omega (arith, j, length-drop field bs, field-le bs l))

pub answers : AnswersHold
answers input h at signed out out' r p =
    let bs : List ℕ = drop at input in
    let law : (q : Reason) → (into (length out) (parse bs) ≡ refused q) ↔ TableGives (length out) bs q = refusals (length out) bs (below-drop 256 at input h) in
    let a : r ≡ answer_of at (length bs) (into (length out) (parse bs)) = rw (length-drop at input) p.answer in
    let why : (f : Refusal) → r ≡ Err f → (q : Reason) × TableGives (length out) bs q × (refusal at (length bs) q ≡ f) =
    λ f e. let (q, i, j) = answer-refused at (length bs) f _ (sym a ∙ e) in (q, (law q).0 i, j) in
    record {
      numbers = λ n. (
        λ e. let (q, t, j) = why _ e in of_number (length out) at bs n t j,
        λ t. a ∙ rw ((law (plain n)).1 (by_number t)),
      );
      fields = λ n byte. (
        λ e. let (q, t, j) = why _ e in of_field (length out) at bs n byte t j,
        λ (field, l, e). a ∙ rw ((law _).1 (by_field l), field-here (length out) at bs n field l, e),
      );
    }
