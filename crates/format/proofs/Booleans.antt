-- Booleans: reading n of them takes exactly the runs that n needs, a run that is cut is refused as cut, and no second list of valid
-- runs has the same bytes. Assumes nothing.
use Rattle.std.specs.Prelude.{Ok}
use Rattle.format.proofs.Common.{◌≡◌, refl, sym, ap, ◌∙◌, ◌≢◌, ◌↔◌, ℕ, ◌-◌, ◌*◌, ◌≤◌, arith, le_refl, zero-lt-suc, length-take-le}
use Rattle.format.proofs.Common.{List, [], ◌∷◌, ◌++◌, append_assoc, append-nil, length, length-append, length-replicate}
use Rattle.format.specs.Digits.{AllBelow, digits}
use Rattle.format.specs.Fields.{bytes_for}
use Rattle.format.specs.Parse.{cut, Parsed, got, refused}
use Rattle.format.specs.Booleans.{ByteRun, repeat, literals, ValidRun, AllValidRuns, Needed, run_layout, run_bytes, byte_count}
use Rattle.format.specs.Booleans.{joined_runs, joined_bytes, bits, booleans_of, byte_run, booleans}
use Rattle.format.proofs.Digits.{length-spread, digits-below}
use Rattle.format.proofs.Posts.{Post, at-got, at-refused, of-got, Took}
use Rattle.format.proofs.Below.{append-below, below-append, below-take}
use Rattle.format.proofs.RunSound.{append-empty}
use Rattle.format.proofs.Runs.{got-inj}
use Rattle.format.proofs.ByteRuns.{run-complete, run_sound, OnlyCut, any-cut, run_only, runs-only, layout-pos, runs-complete}
use Rattle.format.proofs.ByteRuns.{ValidNeeded, runs-sound}

-- ---- THE LAW OF BOOLEANS: what n booleans take is exactly the layouts of the valid runs that n needs, each whole

pub booleans-complete : (n : ℕ) (ds : List ByteRun) (rest : List ℕ) → AllValidRuns ds → Needed (bytes_for n) ds
    → booleans n (joined_runs ds ++ rest) ≡ got ds rest
unfolding booleans
booleans-complete n ds rest v e = runs-complete (length (joined_runs ds ++ rest)) (bytes_for n) ds rest v e (le_refl _)

pub booleans-sound : (n : ℕ) (bs : List ℕ) → AllBelow 256 bs → Post (Took bs joined_runs (ValidNeeded (bytes_for n))) (booleans n bs)
unfolding booleans
booleans-sound n bs h = runs-sound (length bs) (bytes_for n) bs h

pub booleans-exactly : (n : ℕ) (bs : List ℕ) (ds : List ByteRun) (rest : List ℕ) → AllBelow 256 bs
    → (booleans n bs ≡ got ds rest) ↔ (AllValidRuns ds × Needed (bytes_for n) ds × (bs ≡ joined_runs ds ++ rest))
booleans-exactly n bs ds rest h = (
  (λ e. let t : Took bs joined_runs (ValidNeeded (bytes_for n)) ds rest = of-got (rw e at (booleans-sound n bs h)) in (t.ok.0, t.ok.1, t.split)),
  (λ p. ap (booleans n) p.2 ∙ booleans-complete n ds rest p.0 p.1),
)

-- no second list of valid runs has the same bytes
pub runs-unique : (ds ds' : List ByteRun) → AllValidRuns ds → AllValidRuns ds' → joined_runs ds ≡ joined_runs ds' → ds ≡ ds'
unfolding joined_runs
runs-unique [] [] v v' e = refl
runs-unique [] (d ∷ ds) v v' e = absurd (omega (arith, layout-pos d, length-append (run_layout d) (joined_runs ds), ap length e))
runs-unique (d ∷ ds) [] v v' e = absurd (omega (arith, layout-pos d, length-append (run_layout d) (joined_runs ds), ap length e))
runs-unique (d ∷ ds) (d' ∷ ds') v v' e =
    let p : (d ≡ d') × (joined_runs ds ≡ joined_runs ds') =
    got-inj (sym (run-complete d (joined_runs ds) v.0) ∙ ap byte_run e ∙ run-complete d' (joined_runs ds') v'.0) in
    let q : ds ≡ ds' = runs-unique ds ds' v.1 v'.1 p.1 in
    let r : d ≡ d' = p.0 in
    cc

-- ---- a cut run is refused as cut: a proper part, from the start, of what is to be read

-- `read` reads back every layout in front of anything, takes nothing else, and refuses for a cut field only
module _ {A : Type 0} (lay : A → List ℕ) (Ok : A → Type 0) (read : List ℕ → Parsed A)
    (back : (a : A) (rest : List ℕ) → Ok a → read (lay a ++ rest) ≡ got a rest)
    (sound : (bs : List ℕ) → AllBelow 256 bs → Post (Took bs lay Ok) (read bs))
    (only : (bs : List ℕ) → OnlyCut (read bs)) where
  cut-only : (a : A) (p q : List ℕ) → Ok a → AllBelow 256 p → lay a ≡ p ++ q → q ≢ [] → (n left : ℕ) × (read p ≡ refused (cut n left))
  cut-only a p q v h e qe = go (read p) refl (sound p h) (only p)
    where
      go : (m : Parsed A) → read p ≡ m → Post (Took p lay Ok) m → OnlyCut m → (n left : ℕ) × (read p ≡ refused (cut n left))
      go m g (at-got {a = a'} {s = rest} t) o =
          let same : lay a ++ [] ≡ lay a' ++ (rest ++ q) = append-nil (lay a) ∙ e ∙ ap (λ (x : List ℕ). x ++ q) t.split ∙ append_assoc (lay a') rest q in
          absurd (qe (append-empty rest q (sym (got-inj (sym (back a [] v) ∙ ap read same ∙ back a' (rest ++ q) t.ok)).1)))
      go m g at-refused (any-cut {n} {left}) = (n, left, g)

layout-below : (d : ByteRun) → ValidRun d → AllBelow 256 (run_layout d)
unfolding run_layout
layout-below (repeat count byte) v = (omega (arith, v), (v.fits, tt))
layout-below (literals bs) v = (omega (arith, v), v.fits)

joined-below : (ds : List ByteRun) → AllValidRuns ds → AllBelow 256 (joined_runs ds)
unfolding joined_runs
joined-below [] v = tt
joined-below (d ∷ ds) v = below-append 256 (run_layout d) (joined_runs ds) (layout-below d v.0) (joined-below ds v.1)

pub run-cut : (d : ByteRun) (p q : List ℕ) → ValidRun d → run_layout d ≡ p ++ q → q ≢ [] → (n left : ℕ) × (byte_run p ≡ refused (cut n left))
run-cut d p q v e qe =
    cut-only run_layout ValidRun byte_run run-complete run_sound run_only d p q v (append-below 256 p q (rw e at (layout-below d v))) e qe

-- even if the needed bytes are there
pub booleans-cut : (n : ℕ) (ds : List ByteRun) (p q : List ℕ) → AllValidRuns ds → Needed (bytes_for n) ds → joined_runs ds ≡ p ++ q → q ≢ []
    → (k left : ℕ) × (booleans n p ≡ refused (cut k left))
unfolding booleans
booleans-cut n ds p q v k e qe =
    cut-only joined_runs (ValidNeeded (bytes_for n)) (booleans n)
    (λ ds rest v. booleans-complete n ds rest v.0 v.1)
    (booleans-sound n)
    (λ bs. runs-only (length bs) (bytes_for n) bs)
    ds p q (v, k) (append-below 256 p q (rw e at (joined-below ds v))) e qe

-- ---- the booleans: n of them, each 0 or 1

pub length_run : (d : ByteRun) → length (run_bytes d) ≡ byte_count d
unfolding run_bytes byte_count
length_run (repeat count byte) = length-replicate count byte
length_run (literals bs) = refl

pub length-bits : (bs : List ℕ) → length (bits bs) ≡ 8 * length bs
length-bits bs = omega (arith, length-spread 2 8 bs)

-- the runs that m bytes need have m bytes at least
pub needed-enough : (m : ℕ) (ds : List ByteRun) → Needed m ds → m ≤ length (joined_bytes ds)
unfolding joined_bytes
needed-enough m [] e = omega (arith, e)
needed-enough m (d ∷ ds) e = omega (arith, needed-enough (m - byte_count d) ds e.1, length-append (run_bytes d) (joined_bytes ds), length_run d)

pub length-booleans : (n : ℕ) (ds : List ByteRun) → Needed (bytes_for n) ds → length (booleans_of n ds) ≡ n
unfolding booleans_of
length-booleans n ds e = length-take-le n (bits (joined_bytes ds)) (omega (arith, needed-enough (bytes_for n) ds e, length-bits (joined_bytes ds)))

bits_below : (bs : List ℕ) → AllBelow 2 (bits bs)
bits_below [] = tt
bits_below (b ∷ bs) = below-append 2 (digits 2 8 b) (bits bs) (digits-below 2 (zero-lt-suc 1) 8 b) (bits_below bs)

pub booleans-below : (n : ℕ) (ds : List ByteRun) → AllBelow 2 (booleans_of n ds)
unfolding booleans_of
booleans-below n ds = below-take 2 n (bits (joined_bytes ds)) (bits_below (joined_bytes ds))
