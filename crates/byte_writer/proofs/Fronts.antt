-- A stretch of n ≥ 3 equal bytes takes two bytes for each repeat, (n + 128) / 130 of them; a byte that they leave alone is written with what
-- follows. Each repeat takes 130 off n, or 129 off 132, which keeps both. Assumes nothing.
use Rattle.format.proofs.Common.{◌≡◌, refl, ap, ◌∙◌, ℕ, zero, suc, ◌+◌, ◌-◌, ◌*◌, ◌/◌, ◌%◌, ◌<◌, ◌≤◌, min, arith, dec_lt, le_refl, Bool}
use Rattle.format.proofs.Common.{true, false, List, [], ◌∷◌, length, take, drop, length-append, drop-drop, length-take-le, eqb, eqb-true}
use Rattle.format.proofs.Common.{leb-false}
use Rattle.format.specs.Fields.{pick}
use Rattle.format.specs.Booleans.{run_layout, byte_count}
use Rattle.byte_writer.specs.Choice.{same_as, stretch, repeats, before, repeated, alone, in_literals, written}
use Rattle.byte_writer.proofs.Stretches.{stretch-le, before-le}
use Rattle.byte_writer.proofs.Cuts.{repeated-few, repeated-many, repeated-132, alone-none, alone-le, literals-le}
use Rattle.byte_writer.proofs.Choosing.{written_step}
use Rattle.byte_writer.proofs.Walking.{next-repeat, next-literals}

-- how many bytes are written
abbrev pub size : List ℕ → ℕ
size bs = length (written bs)

-- ---- one run

pub repeat-size : (bs : List ℕ) (k : ℕ) → 3 ≤ stretch bs → repeated (stretch bs) ≡ k → size bs ≡ 2 + size (drop k bs)
unfolding run_layout byte_count
repeat-size bs k h e = ap length (written_step bs (omega (arith, stretch-le bs))) ∙ rw (next-repeat bs h, e) (omega arith)

before-short : (bs : List ℕ) → 0 < before bs → stretch bs < 3
unfolding before
before-short [] h = absurd (omega arith)
before-short (b ∷ bs) h = by (repeats (b ∷ bs)) refl h
  where
    by : (t : Bool) → repeats (b ∷ bs) ≡ t → 0 < pick t 0 (suc (before bs)) → stretch (b ∷ bs) < 3
    by true e h = absurd (omega arith)
    by false e h = leb-false 3 (stretch (b ∷ bs)) e

pub literals-size : (bs : List ℕ) (k : ℕ) → 0 < before bs → k ≡ min 128 (in_literals bs) → size bs ≡ k + 1 + size (drop k bs)
unfolding run_layout byte_count
literals-size bs k l e =
    let n : length (take k bs) ≡ k = length-take-le k bs (omega (arith, literals-le bs)) in
    let p : 0 < length bs = omega (arith, before-le bs) in
    ap length (written_step bs p)
    ∙ rw (next-literals bs p (before-short bs l), ← e, n) (omega (arith, length-append (take k bs) (written (drop k bs)), n))

-- ---- the rest of a stretch

-- bytes that begin with x's begin with that stretch
pub same-stretch : (x : ℕ) (bs : List ℕ) → 1 ≤ same_as x bs → stretch bs ≡ same_as x bs
unfolding same_as stretch
same-stretch x [] h = absurd (omega arith)
same-stretch x (c ∷ cs) h = by (eqb c x) refl h
  where
    by : (t : Bool) → eqb c x ≡ t → 1 ≤ pick t (suc (same_as x cs)) 0 → suc (same_as c cs) ≡ pick t (suc (same_as x cs)) 0
    by true e h = rw (eqb-true c x e)
    by false e h = absurd (omega arith)

pub stretch-drop : (k : ℕ) (bs : List ℕ) → k < stretch bs → stretch (drop k bs) ≡ stretch bs - k
unfolding stretch
stretch-drop zero bs h = omega arith
stretch-drop (suc k) [] h = absurd (omega arith)
stretch-drop (suc k) (b ∷ bs) h =
    let e : stretch bs ≡ same_as b bs = same-stretch b bs (omega arith) in
    omega (arith, stretch-drop k bs (omega arith))

alone-step : (n : ℕ) → 130 ≤ n → alone (n - 130) ≡ alone n
unfolding alone
alone-step n h =
    let e : (n - 130) % 130 ≡ n % 130 = omega arith in
    rw e

alone-132 : (n : ℕ) → n ≡ 132 → alone (n - 129) ≡ alone n
unfolding alone
alone-132 n e = rw e

-- a stretch of n bytes: two bytes for each repeat, and what is written of the byte that is left alone and of what follows
abbrev pub Whole : List ℕ → ℕ → Type 0
Whole bs n = size bs ≡ 2 * ((n + 128) / 130) + size (drop (n - alone n) bs)

whole-one : (bs : List ℕ) → Whole bs 1
unfolding alone
whole-one bs = omega arith

whole-few : (bs : List ℕ) (n : ℕ) → stretch bs ≡ n → 3 ≤ n → n ≤ 130 → Whole bs n
whole-few bs n s l h =
    let a : n - alone n ≡ n = omega (arith, alone-none n (λ e. omega arith)) in
    let q : repeated (stretch bs) ≡ n = rw s (repeated-few n h) in
    rw a (omega (arith, repeat-size bs n (omega arith) q))

-- a repeat of k, and n - k left
whole-more : (bs : List ℕ) (n k : ℕ) → stretch bs ≡ n → 3 ≤ n → k < n → repeated n ≡ k → alone (n - k) ≡ alone n
    → (n + 128) / 130 ≡ 1 + (n - k + 128) / 130 → Whole (drop k bs) (n - k) → Whole bs n
whole-more bs n k s l h q a d r =
    let m : alone n ≤ n - k = omega (arith, a, (alone-le (n - k)).1) in
    let e : k + (n - k - alone n) ≡ n - alone n = omega arith in
    rw (← e, ← drop-drop (n - k - alone n) k bs)
    (omega (arith, d, repeat-size bs k (omega arith) (rw s q), rw a at r))

whole_in : (f : ℕ) (bs : List ℕ) (n : ℕ) → n ≤ f → stretch bs ≡ n → 3 ≤ n → Whole bs n
whole_in zero bs n g s l = absurd (omega arith)
whole_in (suc f) bs n g s l = by (dec_lt n 131) (dec_lt n 132) (dec_lt n 133) (whole_in f)
  where
    rest : (k : ℕ) → k < n → stretch (drop k bs) ≡ n - k
    rest k h = rw (stretch-drop k bs (omega arith), s)

    by : Dec (n < 131) → Dec (n < 132) → Dec (n < 133)
        → ((bs : List ℕ) (n : ℕ) → n ≤ f → stretch bs ≡ n → 3 ≤ n → Whole bs n) → Whole bs n
    by (yes h) i j r = whole-few bs n s l (omega arith)
    by (no h) (yes i) j r =
        let e : n - 130 ≡ 1 = omega arith in
        whole-more bs n 130 s l (omega arith) (repeated-many n (omega arith) (λ e. omega arith)) (alone-step n (omega arith))
        (omega arith) (rw e (whole-one (drop 130 bs)))
    by (no h) (no i) (yes j) r =
        let e : n ≡ 132 = omega arith in
        whole-more bs n 129 s l (omega arith) (repeated-132 n e) (alone-132 n e)
        (omega arith) (r (drop 129 bs) (n - 129) (omega arith) (rest 129 (omega arith)) (omega arith))
    by (no h) (no i) (no j) r =
        whole-more bs n 130 s l (omega arith) (repeated-many n (omega arith) (λ e. omega arith)) (alone-step n (omega arith))
        (omega arith) (r (drop 130 bs) (n - 130) (omega arith) (rest 130 (omega arith)) (omega arith))

pub whole : (bs : List ℕ) → 3 ≤ stretch bs → Whole bs (stretch bs)
whole bs h = whole_in (stretch bs) bs (stretch bs) (le_refl _) refl h
