-- Byte runs: a valid run's layout reads as that run, nothing else reads, and some bytes take the runs that they need. Assumes nothing.
use Rattle.format.proofs.Common.{◌≡◌, refl, sym, ap, ◌∙◌, ℕ, zero, suc, ◌+◌, ◌-◌, ◌<◌, ◌≤◌, arith, Bool, true, false, List, [], ◌∷◌}
use Rattle.format.proofs.Common.{◌++◌, append_assoc, length, length-append, T, leb, ltb, eqb, ltb→lt, nltb→le, eqb→eq, lt-ltb}
use Rattle.format.proofs.Common.{le-ltb, ne_eqb, eqb_no}
use Rattle.format.specs.Digits.{AllBelow}
use Rattle.format.specs.Fields.{pick}
use Rattle.format.specs.Parse.{cut, Parsed, got, refused, then, bytes}
use Rattle.format.specs.Booleans.{ByteRun, repeat, literals, ValidRun, AllValidRuns, Needed, run_layout, byte_count, joined_runs}
use Rattle.format.specs.Booleans.{repeat_run, byte_run, byte_runs}
use Rattle.format.proofs.Posts.{Post, at-got, at-refused, then-post, pick_post, Took}
use Rattle.format.proofs.Fields.{bytes-complete, bytes-sound}

-- ---- one run

pub run-complete : (d : ByteRun) (rest : List ℕ) → ValidRun d → byte_run (run_layout d ++ rest) ≡ got d rest
unfolding byte_run repeat_run run_layout
run-complete (repeat count byte) rest v =
    let e : count - 3 + 3 ≡ count = omega (arith, v) in
    rw (lt-ltb (count - 3) 128 (omega (arith, v)), e)
run-complete (literals bs) rest v =
    let e : 256 - (256 - length bs) ≡ length bs = omega (arith, v) in
    rw (le-ltb (256 - length bs) 128 (omega (arith, v)), e, bytes-complete _ (length bs) bs rest refl)

repeat-sound : (c : ℕ) (bs : List ℕ) → c < 128 → AllBelow 256 bs → Post (Took (c ∷ bs) run_layout ValidRun) (repeat_run c bs)
unfolding repeat_run run_layout
repeat-sound c [] l h = at-refused
repeat-sound c (b ∷ bs) l h =
    let e : c ≡ c + 3 - 3 = omega arith in
    at-got {a = repeat (c + 3) b} (record {
      ok = record { few = omega arith; many = omega arith; fits = h.0 };
      split = ap (λ (x : ℕ). x ∷ b ∷ bs) e;
      rest-bytes = h.1;
    })

-- what is read is a valid run whose layout stood in front
pub run_sound : (bs : List ℕ) → AllBelow 256 bs → Post (Took bs run_layout ValidRun) (byte_run bs)
unfolding byte_run run_layout
run_sound [] h = at-refused
run_sound (c ∷ bs) h =
    pick_post (ltb c 128) (λ t. repeat-sound c bs (ltb→lt c 128 t) h.1) λ t.
    then-post (bytes-sound _ (256 - c) bs h.1) λ v s k.
    let l : 128 ≤ c = nltb→le c 128 t in
    let e : c ≡ 256 - length v = omega (arith, k.ok.count, h.0) in
    at-got {a = literals v} (record {
      ok = record { some = omega (arith, k.ok.count, h.0); many = omega (arith, k.ok.count); fits = k.ok.below };
      split = rw (← e) (ap (λ (x : List ℕ). c ∷ x) k.split);
      rest-bytes = k.rest-bytes;
    })

-- reading byte runs refuses for a field that is cut and nothing else, and never says "end"
pub data OnlyCut {A : Type 0} : Parsed A → Type 0 where
  any-got : {a : A} {s : List ℕ} → OnlyCut (got a s)
  any-cut : {n left : ℕ} → OnlyCut {A = A} (refused (cut n left))

then-cut : {A B : Type 0} {m : Parsed A} {f : A → List ℕ → Parsed B} → OnlyCut m → ((a : A) (s : List ℕ) → OnlyCut (f a s)) → OnlyCut (then m f)
then-cut (any-got {a} {s}) h = h a s
then-cut any-cut h = any-cut

pick-cut : {A : Type 0} {m m' : Parsed A} (b : Bool) → OnlyCut m → OnlyCut m' → OnlyCut (pick b m m')
pick-cut true h h' = h
pick-cut false h h' = h'

pub run_only : (bs : List ℕ) → OnlyCut (byte_run bs)
unfolding byte_run repeat_run bytes
run_only [] = any-cut
run_only (c ∷ []) = pick-cut (ltb c 128) any-cut (then-cut (pick-cut (leb (256 - c) 0) any-got any-cut) λ v s. any-got)
run_only (c ∷ b ∷ bs) = pick-cut (ltb c 128) any-got (then-cut (pick-cut (leb (256 - c) (length (b ∷ bs))) any-got any-cut) λ v s. any-got)

pub runs-only : (f m : ℕ) (bs : List ℕ) → OnlyCut (byte_runs f m bs)
unfolding byte_runs
runs-only zero m bs = pick-cut (eqb m 0) any-got any-cut
runs-only (suc f) m bs = pick-cut (eqb m 0) any-got (then-cut (run_only bs) λ d s. then-cut (runs-only f (m - byte_count d) s) λ ds rest. any-got)

-- ---- the runs that m bytes need

pub layout-pos : (d : ByteRun) → 1 ≤ length (run_layout d)
unfolding run_layout
layout-pos (repeat count byte) = omega arith
layout-pos (literals bs) = omega arith

-- no need: no run
pub runs_none : (f : ℕ) (bs : List ℕ) → byte_runs f 0 bs ≡ got [] bs
unfolding byte_runs
runs_none zero bs = refl
runs_none (suc f) bs = refl

pub runs-complete : (f m : ℕ) (ds : List ByteRun) (rest : List ℕ) → AllValidRuns ds → Needed m ds → length (joined_runs ds ++ rest) ≤ f
    → byte_runs f m (joined_runs ds ++ rest) ≡ got ds rest
unfolding byte_runs joined_runs
runs-complete f m [] rest v e l = rw e (runs_none f rest)
runs-complete zero m (d ∷ ds) rest v e l =
    absurd (omega (arith, l, layout-pos d, length-append (run_layout d ++ joined_runs ds) rest, length-append (run_layout d) (joined_runs ds)))
runs-complete (suc f) m (d ∷ ds) rest v e l =
    let h : length (joined_runs ds ++ rest) ≤ f =
    omega (arith, l, layout-pos d, length-append (run_layout d) (joined_runs ds ++ rest), ap length (append_assoc (run_layout d) (joined_runs ds) rest)) in
    rw (
      ne_eqb m 0 (omega (arith, e.0)),
      append_assoc (run_layout d) (joined_runs ds) rest,
      run-complete d (joined_runs ds ++ rest) v.0,
      runs-complete f (m - byte_count d) ds rest v.1 e.1 h,
    )

-- what is taken: valid runs, and only those that m bytes need
abbrev pub ValidNeeded : ℕ → List ByteRun → Type 0
ValidNeeded m ds = AllValidRuns ds × Needed m ds

none-sound : (m : ℕ) (bs : List ℕ) → AllBelow 256 bs → T (eqb m 0) → Post (Took bs joined_runs (ValidNeeded m)) (got [] bs)
unfolding joined_runs
none-sound m bs h t = at-got {a = []} (record { ok = (tt, eqb→eq m 0 t); split = refl; rest-bytes = h })

pub runs-sound : (f m : ℕ) (bs : List ℕ) → AllBelow 256 bs → Post (Took bs joined_runs (ValidNeeded m)) (byte_runs f m bs)
unfolding byte_runs joined_runs
runs-sound zero m bs h = pick_post (eqb m 0) (none-sound m bs h) λ t. at-refused
runs-sound (suc f) m bs h =
    pick_post (eqb m 0) (none-sound m bs h) λ t.
    then-post (run_sound bs h) λ d s p.
    then-post (runs-sound f (m - byte_count d) s p.rest-bytes) λ ds rest q.
    at-got {a = d ∷ ds} (record {
      ok = ((p.ok, q.ok.0), (omega (arith, eqb_no {a = m} {b = 0} t), q.ok.1));
      split = p.split ∙ ap (λ (x : List ℕ). run_layout d ++ x) q.split ∙ sym (append_assoc (run_layout d) (joined_runs ds) rest);
      rest-bytes = q.rest-bytes;
    })
