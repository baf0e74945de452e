-- No valid runs of the same bytes have fewer bytes. With a run in front of some bytes what is written grows by no more than the run's own
-- bytes: two of a repeat; of literals the control byte, and one for each byte that joins the open run. So by induction no list of runs has
-- fewer. Assumes nothing.
use Rattle.format.proofs.Common.{◌≡◌, refl, ap, ◌∙◌, ℕ, zero, suc, ◌+◌, ◌-◌, ◌%◌, ◌<◌, ◌≤◌, min, arith, dec_lt, le_refl, Bool, true, false}
use Rattle.format.proofs.Common.{List, [], ◌∷◌, ◌++◌, length, take, drop, replicate, length-append, length-drop, length-replicate}
use Rattle.format.proofs.Common.{take-append-drop, drop-drop, drop-append_seam, length-take-le, eq-eqb, leb-true, le-leb, lt-leb}
use Rattle.format.specs.Booleans.{ByteRun, repeat, literals, AllValidRuns, run_layout, run_bytes, joined_runs, joined_bytes}
use Rattle.byte_writer.specs.Choice.{same_as, stretch, repeats, before, alone, in_literals, written}
use Rattle.byte_writer.specs.Laws.{Fewest, enough_for}
use Rattle.byte_writer.proofs.Stretches.{stretch-le, before-stop}
use Rattle.byte_writer.proofs.Cuts.{Alone, is-alone, alone-none}
use Rattle.byte_writer.proofs.Choosing.{written_none}
use Rattle.byte_writer.proofs.Fronts.{size, same-stretch, stretch-drop}
use Rattle.byte_writer.proofs.Open.{groups, literally, opens, before-cons, literals-cons, literals-none}
use Rattle.byte_writer.proofs.Ends.{repeat_bytes, whole-left, without, one_left, repeat-left}

-- ---- a literal run

-- m literals, of which an open run has room for r, and what is written of the rest
abbrev joining : ℕ → ℕ → List ℕ → ℕ
joining r m bs = m + groups (m - r) + size (drop m bs)

abbrev after : ℕ → List ℕ → ℕ
after r bs = min (joining r (before bs) bs) (joining r (in_literals bs) bs)

-- an open run costs nothing more, and a new one a control byte
after-le : (r : ℕ) (bs : List ℕ) → after r bs ≤ size bs
after-le r bs = omega (arith, opens bs)

le-after : (bs : List ℕ) → size bs ≤ 1 + after 128 bs
le-after bs = omega (arith, opens bs)

joining-cons : (x : ℕ) (bs : List ℕ) (r m : ℕ) → joining (suc r) (suc m) (x ∷ bs) ≡ suc (joining r m bs)
joining-cons x bs r m = omega arith

-- what follows an open run, if it is a stretch
after-stretch : (bs : List ℕ) (r a : ℕ) → 3 ≤ stretch bs → alone (stretch bs) ≡ a → after r bs ≡ min (size bs) (joining r a bs)
after-stretch bs r a h e =
    let z : before bs ≡ 0 = before-stop bs 0 (le-leb 3 (stretch bs) h) in
    rw (z, literals-none bs z, e) (omega arith)

-- one byte of a long stretch
after-long : (x : ℕ) (bs : List ℕ) (r : ℕ) → 3 < stretch (x ∷ bs) → after (suc r) (x ∷ bs) ≤ 1 + after r bs
after-long x bs r d = by (is-alone (stretch (x ∷ bs))) (is-alone (stretch (x ∷ bs) - 1))
  where
    three : 3 ≤ stretch (x ∷ bs)
    three = omega arith

    rest : stretch bs ≡ stretch (x ∷ bs) - 1
    rest = stretch-drop 1 (x ∷ bs) (omega arith)

    first : (a : ℕ) → alone (stretch (x ∷ bs)) ≡ a → after (suc r) (x ∷ bs) ≡ min (size (x ∷ bs)) (joining (suc r) a (x ∷ bs))
    first a e = after-stretch (x ∷ bs) (suc r) a three e

    then : (a : ℕ) → alone (stretch (x ∷ bs) - 1) ≡ a → after r bs ≡ min (size bs) (joining r a bs)
    then a e = after-stretch bs r a (omega (arith, rest)) (rw rest e)

    -- without a byte, or two, no fewer repeats are needed
    one_less : Alone (stretch (x ∷ bs) - 1) → alone (stretch (x ∷ bs)) ≡ 0 → size (x ∷ bs) ≤ 1 + size bs
    one_less (Alone.one q f) e =
        omega (
          arith,
          rw e at (whole-left (x ∷ bs) three),
          rw f at (without (x ∷ bs) three 1 (omega arith)),
          (one_left (x ∷ bs) three).0,
        )
    one_less (Alone.none q f) e = omega (arith, rw e at (whole-left (x ∷ bs) three), rw f at (without (x ∷ bs) three 1 (omega arith)))

    two-less : (stretch (x ∷ bs) - 1) % 130 ≡ 1 → alone (stretch (x ∷ bs)) ≡ 0 → size (x ∷ bs) ≤ 2 + size (drop 1 bs)
    two-less q e =
        let g : alone (stretch (x ∷ bs) - 2) ≡ 0 = alone-none (stretch (x ∷ bs) - 2) (λ e. omega arith) in
        omega (arith, rw e at (whole-left (x ∷ bs) three), rw g at (without (x ∷ bs) three 2 (omega arith)))

    by : Alone (stretch (x ∷ bs)) → Alone (stretch (x ∷ bs) - 1) → after (suc r) (x ∷ bs) ≤ 1 + after r bs
    by (Alone.one p e) (Alone.one q f) = absurd (omega arith)
    by (Alone.one p e) (Alone.none q f) = rw (first 1 e, then 0 f) (omega arith)
    by (Alone.none p e) (Alone.one q f) = rw (first 0 e, then 1 f) (omega (arith, one_less (Alone.one q f) e, two-less q e))
    by (Alone.none p e) (Alone.none q f) = rw (first 0 e, then 0 f) (omega (arith, one_less (Alone.none q f) e))

-- one byte of three equal ones
two-short : (bs : List ℕ) → stretch bs ≡ 2 → (before bs ≡ 2 + before (drop 2 bs)) × (in_literals bs ≡ 2 + in_literals (drop 2 bs))
two-short [] h = absurd (omega (arith, stretch-le []))
two-short (a ∷ []) h = absurd (omega (arith, stretch-le (a ∷ [])))
two-short (a ∷ b ∷ bs) h =
    let t : stretch (b ∷ bs) ≡ 1 = stretch-drop 1 (a ∷ b ∷ bs) (omega arith) ∙ omega arith in
    let e : repeats (a ∷ b ∷ bs) ≡ false = lt-leb 3 (stretch (a ∷ b ∷ bs)) (omega arith) in
    let f : repeats (b ∷ bs) ≡ false = lt-leb 3 (stretch (b ∷ bs)) (omega arith) in (
      omega (arith, before-cons a (b ∷ bs) e, before-cons b bs f),
      omega (arith, literals-cons a (b ∷ bs) e, literals-cons b bs f),
    )

joining-two : (bs : List ℕ) (r m : ℕ) → r < 128 → size (drop 2 bs) ≤ literally m (drop 2 bs) → 1 + size (drop 2 bs) ≤ joining r (2 + m) bs
joining-two bs r m q h = omega (arith, rw (drop-drop m 2 bs) at h)

after-three : (x : ℕ) (bs : List ℕ) (r : ℕ) → r < 128 → stretch (x ∷ bs) ≡ 3 → after (suc r) (x ∷ bs) ≤ 1 + after r bs
after-three x bs r q d =
    let e : alone (stretch (x ∷ bs)) ≡ 0 = alone-none (stretch (x ∷ bs)) (λ e. omega arith) in
    let z : stretch (x ∷ bs) - 0 ≡ 3 = omega arith in
    let a : size (x ∷ bs) ≡ repeat_bytes (stretch (x ∷ bs)) + size (drop 2 bs) = rw (e, z) at (whole-left (x ∷ bs) (omega arith)) in
    let t = two-short bs (stretch-drop 1 (x ∷ bs) (omega arith) ∙ omega arith) in
    let m = before (drop 2 bs) in
    let n = in_literals (drop 2 bs) in
    let u = joining-two bs r m q (omega (arith, opens (drop 2 bs))) in
    let v = joining-two bs r n q (omega (arith, opens (drop 2 bs))) in
    rw (after-stretch (x ∷ bs) (suc r) 0 (omega arith) e, t.0, t.1) (omega (arith, a, u, v))

after-cons : (x : ℕ) (bs : List ℕ) (r : ℕ) → r < 128 → after (suc r) (x ∷ bs) ≤ 1 + after r bs
after-cons x bs r q = by (repeats (x ∷ bs)) refl (dec_lt 3 (stretch (x ∷ bs)))
  where
    by : (t : Bool) → repeats (x ∷ bs) ≡ t → Dec (3 < stretch (x ∷ bs)) → after (suc r) (x ∷ bs) ≤ 1 + after r bs
    by false e d =
        rw (before-cons x bs e, literals-cons x bs e)
        (omega (arith, joining-cons x bs r (before bs), joining-cons x bs r (in_literals bs)))
    by true e (yes d) = after-long x bs r d
    by true e (no d) = after-three x bs r q (omega (arith, leb-true 3 (stretch (x ∷ bs)) e))

after-literals : (xs bs : List ℕ) (r : ℕ) → length xs + r ≤ 128 → after (length xs + r) (xs ++ bs) ≤ length xs + after r bs
after-literals [] bs r q = omega arith
after-literals (x ∷ xs) bs r q =
    let z : suc (length xs) + r ≡ suc (length xs + r) = omega arith in
    rw z (omega (arith, after-cons x (xs ++ bs) (length xs + r) (omega arith), after-literals xs bs r (omega arith)))

literals-least : (xs bs : List ℕ) → length xs ≤ 128 → size (xs ++ bs) ≤ 1 + length xs + size bs
literals-least xs bs q =
    let z : length xs + (128 - length xs) ≡ 128 = omega arith in
    omega (arith, le-after (xs ++ bs), rw z at (after-literals xs bs (128 - length xs) (omega arith)), after-le (128 - length xs) bs)

-- ---- any valid runs

same-repeated : (k x : ℕ) (bs : List ℕ) → same_as x (replicate k x ++ bs) ≡ k + same_as x bs
unfolding same_as
same-repeated zero x bs = omega arith
same-repeated (suc k) x bs = rw (eq-eqb x x refl) (omega (arith, same-repeated k x bs))

repeat-least : (k x : ℕ) (bs : List ℕ) → 3 ≤ k → k ≤ 130 → size (replicate k x ++ bs) ≤ 2 + size bs
repeat-least k x bs l m =
    let all = replicate k x ++ bs in
    let e : stretch all ≡ k + same_as x bs = same-stretch x all (omega (arith, same-repeated k x bs)) ∙ same-repeated k x bs in
    let d : drop k all ≡ bs = rw length-replicate at (drop-append_seam (replicate k x) bs) in
    rw d at (repeat-left all k l m (omega arith))

least : (ds : List ByteRun) → AllValidRuns ds → size (joined_bytes ds) ≤ length (joined_runs ds)
unfolding joined_bytes joined_runs run_bytes run_layout
least [] v = omega (arith, ap length written_none)
least (repeat k x ∷ ds) v = omega (arith, repeat-least k x (joined_bytes ds) v.0.few v.0.many, least ds v.1)
least (literals xs ∷ ds) v =
    omega (arith, literals-least xs (joined_bytes ds) v.0.many, least ds v.1, length-append xs (joined_runs ds))

pub fewest : Fewest
fewest bs ds v e = rw e at (least ds v)

-- ---- so literal runs alone are enough

enough-in : (f : ℕ) (bs : List ℕ) → length bs ≤ f → size bs ≤ enough_for (length bs)
enough-in zero [] h = omega (arith, ap length written_none)
enough-in zero (b ∷ bs) h = absurd (omega arith)
enough-in (suc f) [] h = omega (arith, ap length written_none)
enough-in (suc f) (b ∷ bs) h =
    let k = min 128 (length (b ∷ bs)) in
    let n : length (take k (b ∷ bs)) ≡ k = length-take-le k (b ∷ bs) (omega arith) in
    let first = rw (take-append-drop k (b ∷ bs), n) at (literals-least (take k (b ∷ bs)) (drop k (b ∷ bs)) (omega arith)) in
    omega (arith, first, length-drop k (b ∷ bs), enough-in f (drop k (b ∷ bs)) (rw length-drop (omega arith)))

pub written-enough : (bs : List ℕ) → length (written bs) ≤ enough_for (length bs)
written-enough bs = enough-in (length bs) bs (le_refl _)
