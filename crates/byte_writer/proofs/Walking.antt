-- The walk over the bytes, run by run, as the code has it: which run comes next, and what each pass has done. Assumes nothing.
use Rattle.format.proofs.Common.{◌≡◌, refl, sym, ap, ◌∙◌, ℕ, suc, ◌+◌, ◌-◌, ◌<◌, ◌≤◌, min, arith, dec_lt, add-one, List, [], ◌∷◌, ◌++◌}
use Rattle.format.proofs.Common.{append_assoc, length, get_or, take, drop, set, length-append, length-drop, drop_of_length-le, drop-drop}
use Rattle.format.proofs.Common.{get_or-drop, drop-set-lt, take-suc-set, append_snoc, length-take-le, sets-eq, le-leb, lt-leb}
use Rattle.format.specs.Booleans.{ByteRun, repeat, literals, run_layout, byte_count}
use Rattle.format.proofs.Tests.{never}
use Rattle.util.proofs.Grow.{front-is, kept_by, filled}
use Rattle.byte_writer.specs.Choice.{stretch, before, repeated, in_literals, next_run, written}
use Rattle.byte_writer.specs.Steps.{next_of, count_in, size_in, Laid}
use Rattle.byte_writer.specs.declared.run.Next.{Next}
use Rattle.byte_writer.specs.declared.run.Next.TheVariants as next
use Rattle.byte_writer.proofs.Cuts.{repeated-is, literals-le}
use Rattle.byte_writer.proofs.Choosing.{next-begins, written_step, written_none}

-- ---- which run comes next

pub next-repeat : (bs : List ℕ) → 3 ≤ stretch bs → next_run bs ≡ repeat (repeated (stretch bs)) (get_or bs 0 0)
unfolding next_run stretch
next-repeat [] h = absurd (omega arith)
next-repeat (b ∷ bs) h = rw (le-leb 3 (stretch (b ∷ bs)) h)

pub next-literals : (bs : List ℕ) → 0 < length bs → stretch bs < 3 → next_run bs ≡ literals (take (min 128 (in_literals bs)) bs)
unfolding next_run
next-literals [] l h = absurd (omega arith)
next-literals (b ∷ bs) l h = rw (lt-leb 3 (stretch (b ∷ bs)) h)

literals-some : (bs : List ℕ) → 0 < length bs → stretch bs < 3 → 1 ≤ in_literals bs
unfolding in_literals before
literals-some [] l h = absurd (omega arith)
literals-some (b ∷ bs) l h = rw (lt-leb 3 (stretch (b ∷ bs)) h) (omega arith)

module _ (bs : List ℕ) (l : 0 < length bs) (n : ℕ) where
  pub repeat-is : next.Repeat n ≡ next_of (next_run bs) → (next_run bs ≡ repeat n (get_or bs 0 0)) × (3 ≤ n) × (n ≤ 130)
  repeat-is e = by (dec_lt (stretch bs) 3)
    where
      by : Dec (stretch bs < 3) → (next_run bs ≡ repeat n (get_or bs 0 0)) × (3 ≤ n) × (n ≤ 130)
      by (yes h) =
          let q : next.Repeat n ≡ next.Literals (length (take (min 128 (in_literals bs)) bs)) = e ∙ ap next_of (next-literals bs l h) in
          never (cc)
      by (no h) =
          let q : next.Repeat n ≡ next.Repeat (repeated (stretch bs)) = e ∙ ap next_of (next-repeat bs (omega arith)) in
          let z : n ≡ repeated (stretch bs) = cc in
          let r = repeated-is (stretch bs) (omega arith) in
          (rw z (next-repeat bs (omega arith)), omega (arith, r.few), omega (arith, r.many))

  pub literals-are : next.Literals n ≡ next_of (next_run bs) → (next_run bs ≡ literals (take n bs)) × (1 ≤ n) × (n ≤ 128) × (n ≤ length bs)
  literals-are e = by (dec_lt (stretch bs) 3)
    where
      by : Dec (stretch bs < 3) → (next_run bs ≡ literals (take n bs)) × (1 ≤ n) × (n ≤ 128) × (n ≤ length bs)
      by (yes h) =
          let k : length (take (min 128 (in_literals bs)) bs) ≡ min 128 (in_literals bs) =
          length-take-le (min 128 (in_literals bs)) bs (omega (arith, literals-le bs)) in
          let q : next.Literals n ≡ next.Literals (length (take (min 128 (in_literals bs)) bs)) = e ∙ ap next_of (next-literals bs l h) in
          let z : n ≡ min 128 (in_literals bs) = cc in
          (rw z (next-literals bs l h), omega (arith, literals-some bs l h), omega arith, omega (arith, literals-le bs))
      by (no h) =
          let q : next.Literals n ≡ next.Repeat (repeated (stretch bs)) = e ∙ ap next_of (next-repeat bs (omega arith)) in
          never (cc)

pub count_of : (d : ByteRun) → count_in (next_of d) ≡ byte_count d
unfolding byte_count
count_of (repeat count byte) = refl
count_of (literals bs) = refl

pub size_of : (d : ByteRun) → size_in (next_of d) ≡ length (run_layout d)
unfolding run_layout
size_of (repeat count byte) = refl
size_of (literals bs) = omega arith

-- ---- one run of the walk

pub record Step (bs : List ℕ) (p : ℕ) (run : Next) : Type 0 where
  pub some : 1 ≤ count_in run
  pub few : count_in run ≤ 130
  pub inside : p + count_in run ≤ length bs
  pub size_is : length (run_layout (next_run (drop p bs))) ≡ size_in run
  pub goes_on : written (drop p bs) ≡ run_layout (next_run (drop p bs)) ++ written (drop (p + count_in run) bs)
  pub less : length (written (drop p bs)) ≡ size_in run + length (written (drop (p + count_in run) bs))

pub step : (bs : List ℕ) (p : ℕ) (run : Next) → p < length bs → run ≡ next_of (next_run (drop p bs)) → Step bs p run
step bs p run h e =
    let d = next_run (drop p bs) in
    let l : 0 < length (drop p bs) = rw length-drop (omega arith) in
    let c : count_in run ≡ byte_count d = ap count_in e ∙ count_of d in
    let z : length (run_layout d) ≡ size_in run = sym (ap size_in e ∙ size_of d) in
    let b = next-begins (drop p bs) l in
    let g : written (drop p bs) ≡ run_layout d ++ written (drop (p + count_in run) bs) =
    rw (c, ← drop-drop (byte_count d) p bs) (written_step (drop p bs) l) in
    record {
      some = omega (arith, b.some);
      few = omega (arith, b.few);
      inside = omega (arith, b.inside, length-drop p bs);
      size_is = z;
      goes_on = g;
      less = ap length g ∙ length-append (run_layout d) _ ∙ ap (λ (n : ℕ). n + length (written (drop (p + count_in run) bs))) z;
    }

-- ---- the second pass: what was written, and what is still to come, is the whole

pub record Laying (bs out₀ out : List ℕ) (at place : ℕ) : Type 0 where
  pub in_bytes : at ≤ length bs
  pub same : length out ≡ length out₀
  pub so_far : place + length (written (drop at bs)) ≡ length (written bs)
  pub whole : take place out ++ written (drop at bs) ≡ written bs
  pub kept : drop place out ≡ drop place out₀

pub laying-begins : (bs out : List ℕ) → Laying bs out out 0 0
laying-begins bs out = record { in_bytes = omega arith; same = refl; so_far = omega arith; whole = refl; kept = refl }

pub laying-goes-on : {bs out₀ out out' : List ℕ} {at place : ℕ} {run : Next}
    → length (written bs) ≤ length out₀ → Laying bs out₀ out at place → Step bs at run
    → Laid (run_layout (next_run (drop at bs))) place out out' → length out' ≡ length out
    → Laying bs out₀ out' (at + count_in run) (place + size_in run)
laying-goes-on {bs} {out₀} {out} {out'} {at} {place} {run} room l s w n =
    let ys = run_layout (next_run (drop at bs)) in
    let p : place ≤ length out = omega (arith, l.same, l.so_far) in
    let w' : out' ≡ (take place out ++ ys) ++ drop (place + size_in run) out = rw s.size_is at w in
    record {
      in_bytes = s.inside;
      same = n ∙ l.same;
      so_far = omega (arith, l.so_far, s.less);
      whole =
          rw (front-is out out' ys place (size_in run) p s.size_is w', append_assoc (take place out) ys, ← s.goes_on) l.whole;
      kept = kept_by out out' ys place (size_in run) p s.size_is w' out₀ l.kept;
    }

pub laying-ends : {bs out₀ out : List ℕ} {at place : ℕ} → Laying bs out₀ out at place → length bs ≤ at
    → out ≡ written bs ++ drop (length (written bs)) out₀
laying-ends {bs} {out₀} {out} {at} {place} l h =
    let e : written (drop at bs) ≡ [] = ap written (drop_of_length-le bs {i = at} h) ∙ written_none in
    let z : place ≡ length (written bs) = omega (arith, l.so_far, ap length e) in
    rw (← z) (filled out out₀ (written bs) place (rw e at l.whole) l.kept)

-- ---- one run in the places: a control byte, and the byte or the bytes

pub repeat-laid : (bs out : List ℕ) (k n : ℕ) → next_run bs ≡ repeat n (get_or bs 0 0) → k + 2 ≤ length out
    → Laid (run_layout (next_run bs)) k out (set (set out k (n - 3)) (k + 1) (get_or bs 0 0))
unfolding run_layout
repeat-laid bs out k n e h = rw (e, add-one) (sets-eq ((n - 3) ∷ get_or bs 0 0 ∷ []) out k h)

pub literals-laid : (bs out out' : List ℕ) (k n : ℕ) → next_run bs ≡ literals (take n bs) → n ≤ length bs → k < length out
    → Laid (take n bs) (k + 1) (set out k (256 - n)) out' → Laid (run_layout (next_run bs)) k out out'
unfolding run_layout
literals-laid bs out out' k n e l h w =
    let m : length (take n bs) ≡ n = length-take-le n bs l in
    let z : k + suc n ≡ k + 1 + n = omega arith in
    let d : drop (k + 1 + n) (set out k (256 - n)) ≡ drop (k + 1 + n) out = drop-set-lt (k + 1 + n) out k (256 - n) (omega arith) in
    let t : take (k + 1) (set out k (256 - n)) ≡ take k out ++ ((256 - n) ∷ []) = rw add-one (take-suc-set out k (256 - n) h) in
    rw (e, m, z) (rw (m, d, t, append_snoc) at w)

-- the first byte from a place on
pub head_at : (bs : List ℕ) (p : ℕ) → get_or (drop p bs) 0 0 ≡ get_or bs p 0
head_at bs p = get_or-drop p bs 0 0 ∙ ap (λ (i : ℕ). get_or bs i 0) (omega arith)
