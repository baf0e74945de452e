-- The runs that bytes are cut into: each is valid, together they give the bytes, and one step of a walk over them. Assumes nothing.
use Rattle.format.proofs.Common.{◌≡◌, refl, sym, ap, ℕ, zero, suc, ◌<◌, ◌≤◌, min, arith, le_refl, Bool, true, false, List, [], ◌∷◌, ◌++◌}
use Rattle.format.proofs.Common.{length, take, drop, length-drop, take-append-drop, length-take-le, leb-true}
use Rattle.format.specs.Digits.{AllBelow}
use Rattle.format.specs.Fields.{pick}
use Rattle.format.specs.Booleans.{ByteRun, repeat, literals, ValidRun, AllValidRuns}
use Rattle.format.specs.Booleans.{run_layout, run_bytes, byte_count, joined_runs, joined_bytes}
use Rattle.format.proofs.Below.{below-take, below-drop}
use Rattle.byte_writer.specs.Choice.{stretch, repeats, before, repeated, in_literals, next_run, runs_in, runs_of, written}
use Rattle.byte_writer.proofs.Stretches.{stretch-le, stretch-take}
use Rattle.byte_writer.proofs.Cuts.{repeated-is, literals-le}

-- ---- the next run

-- d is what some bytes begin with
pub record Begins (bs : List ℕ) (d : ByteRun) : Type 0 where
  pub some : 1 ≤ byte_count d
  pub few : byte_count d ≤ 130
  pub inside : byte_count d ≤ length bs
  pub gives : run_bytes d ≡ take (byte_count d) bs
  pub valid : AllBelow 256 bs → ValidRun d

module _ (b : ℕ) (bs : List ℕ) where
  repeat-begins : repeats (b ∷ bs) ≡ true → Begins (b ∷ bs) (repeat (repeated (stretch (b ∷ bs))) b)
  unfolding byte_count run_bytes
  repeat-begins e =
      let r = repeated-is (stretch (b ∷ bs)) (leb-true 3 (stretch (b ∷ bs)) e) in
      record {
        some = omega (arith, r.few);
        few = r.many;
        inside = omega (arith, r.inside, stretch-le (b ∷ bs));
        gives = sym (stretch-take b (repeated (stretch (b ∷ bs))) bs r.inside);
        valid = λ h. record { few = r.few; many = r.many; fits = h.0 };
      }

  literals-some : repeats (b ∷ bs) ≡ false → 1 ≤ in_literals (b ∷ bs)
  unfolding in_literals before
  literals-some e = rw e (omega arith)

  literals-begin : repeats (b ∷ bs) ≡ false → Begins (b ∷ bs) (literals (take (min 128 (in_literals (b ∷ bs))) (b ∷ bs)))
  unfolding byte_count run_bytes
  literals-begin e =
      let k = min 128 (in_literals (b ∷ bs)) in
      let i : k ≤ length (b ∷ bs) = omega (arith, literals-le (b ∷ bs)) in
      let n : length (take k (b ∷ bs)) ≡ k = length-take-le k (b ∷ bs) i in
      let s : 1 ≤ in_literals (b ∷ bs) = literals-some e in
      record {
        some = omega arith;
        few = omega arith;
        inside = omega arith;
        gives = ap (λ (m : ℕ). take m (b ∷ bs)) (sym n);
        valid = λ h. record { some = omega arith; many = omega arith; fits = below-take 256 k (b ∷ bs) h };
      }

  begins : Begins (b ∷ bs) (next_run (b ∷ bs))
  unfolding next_run
  begins = by (repeats (b ∷ bs)) refl
    where
      by : (t : Bool) → repeats (b ∷ bs) ≡ t
          → Begins (b ∷ bs) (pick t (repeat (repeated (stretch (b ∷ bs))) b) (literals (take (min 128 (in_literals (b ∷ bs))) (b ∷ bs))))
      by true e = repeat-begins e
      by false e = literals-begin e

pub next-begins : (bs : List ℕ) → 0 < length bs → Begins bs (next_run bs)
next-begins [] h = absurd (omega arith)
next-begins (b ∷ bs) h = begins b bs

-- ---- the runs

-- what is left after the next run
abbrev pub after : List ℕ → List ℕ
after bs = drop (byte_count (next_run bs)) bs

-- fewer bytes are left than a run was taken from
pub after_less : (b : ℕ) (bs : List ℕ) (f : ℕ) → length (b ∷ bs) ≤ suc f → length (after (b ∷ bs)) ≤ f
after_less b bs f h = rw length-drop (omega (arith, (begins b bs).some))

runs-fuel : (f g : ℕ) (bs : List ℕ) → length bs ≤ f → length bs ≤ g → runs_in f bs ≡ runs_in g bs
unfolding runs_in
runs-fuel zero zero bs h l = refl
runs-fuel zero (suc g) [] h l = refl
runs-fuel zero (suc g) (b ∷ bs) h l = absurd (omega arith)
runs-fuel (suc f) zero [] h l = refl
runs-fuel (suc f) zero (b ∷ bs) h l = absurd (omega arith)
runs-fuel (suc f) (suc g) [] h l = refl
runs-fuel (suc f) (suc g) (b ∷ bs) h l =
    ap (λ (ds : List ByteRun). next_run (b ∷ bs) ∷ ds) (runs-fuel f g (after (b ∷ bs)) (after_less b bs f h) (after_less b bs g l))

-- a run, and then the runs after it
pub runs-step : (bs : List ℕ) → 0 < length bs → runs_of bs ≡ next_run bs ∷ runs_of (after bs)
unfolding runs_of runs_in
runs-step [] h = absurd (omega arith)
runs-step (b ∷ bs) h =
    ap (λ (ds : List ByteRun). next_run (b ∷ bs) ∷ ds)
    (runs-fuel (length bs) (length (after (b ∷ bs))) (after (b ∷ bs)) (after_less b bs (length bs) (le_refl _)) (le_refl _))

pub written_step : (bs : List ℕ) → 0 < length bs → written bs ≡ run_layout (next_run bs) ++ written (after bs)
unfolding written joined_runs
written_step bs h = rw (runs-step bs h)

pub written_none : written [] ≡ []
unfolding written runs_of runs_in joined_runs
written_none = refl

-- ---- every run is valid, and together they give the bytes

valid-in : (f : ℕ) (bs : List ℕ) → AllBelow 256 bs → AllValidRuns (runs_in f bs)
unfolding runs_in
valid-in zero bs h = tt
valid-in (suc f) [] h = tt
valid-in (suc f) (b ∷ bs) h = ((begins b bs).valid h, valid-in f (after (b ∷ bs)) (below-drop 256 (byte_count (next_run (b ∷ bs))) (b ∷ bs) h))

pub runs-valid : (bs : List ℕ) → AllBelow 256 bs → AllValidRuns (runs_of bs)
unfolding runs_of
runs-valid bs h = valid-in (length bs) bs h

bytes-in : (f : ℕ) (bs : List ℕ) → length bs ≤ f → joined_bytes (runs_in f bs) ≡ bs
unfolding runs_in joined_bytes
bytes-in zero [] h = refl
bytes-in zero (b ∷ bs) h = absurd (omega arith)
bytes-in (suc f) [] h = refl
bytes-in (suc f) (b ∷ bs) h =
    rw (bytes-in f (after (b ∷ bs)) (after_less b bs f h), (begins b bs).gives) (take-append-drop (byte_count (next_run (b ∷ bs))) (b ∷ bs))

pub runs-bytes : (bs : List ℕ) → joined_bytes (runs_of bs) ≡ bs
unfolding runs_of
runs-bytes bs = bytes-in (length bs) bs (le_refl _)
