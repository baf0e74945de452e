-- Where reading the runs of booleans stops, and the line that says so. Assumes nothing.
use Rattle.format.proofs.Common.{◌≡◌, refl, sym, ap, ◌∙◌, ℕ, zero, suc, ◌+◌, ◌-◌, ◌<◌, ◌≤◌, dec_lt, arith, Bool, true, false, List, [], ◌∷◌}
use Rattle.format.proofs.Common.{◌++◌, append_assoc, length, take, drop, length-append, drop-append-add, ltb, eqb, le-leb, lt-leb, eqb_no}
use Rattle.format.specs.Digits.{AllBelow}
use Rattle.format.specs.Fields.{pick}
use Rattle.format.specs.Parse.{cut_in, Parsed, got, refused, then, bytes}
use Rattle.format.specs.Booleans.{ByteRun, literals, ValidRun, run_layout, run_bytes, byte_count, joined_runs, joined_bytes, repeat_run, byte_run, byte_runs}
use Rattle.format.proofs.Posts.{Took, of-got}
use Rattle.format.proofs.ByteRuns.{layout-pos, run_sound}
use Rattle.format.proofs.Booleans.{length_run}
use Rattle.promises.specs.BooleansAndValues.{behind, CutShort, no-control, in-run}

-- ---- where reading stops

-- a run: it is read, or there is none, or it is cut behind its control byte
data RunRead (bs : List ℕ) : Parsed ByteRun → Type 0 where
  run-got : {d : ByteRun} {rest : List ℕ} → Took bs run_layout ValidRun d rest → RunRead bs (got d rest)
  run_none : bs ≡ [] → RunRead bs (refused (cut_in 6 []))
  run-cut : (c : ℕ) (rest : List ℕ) → bs ≡ c ∷ rest → length rest < behind c → RunRead bs (refused (cut_in 13 rest))

-- a control byte with too few bytes behind it
pub cut-run : (c : ℕ) (rest : List ℕ) → length rest < behind c → byte_run (c ∷ rest) ≡ refused (cut_in 13 rest)
unfolding byte_run repeat_run bytes
cut-run c rest h = go (ltb c 128) rest h
  where
    go : (t : Bool) (rest : List ℕ) → length rest < pick t 1 (256 - c)
        → pick t (repeat_run c rest) (then (bytes 13 (256 - c) rest) λ v s. got (literals v) s) ≡ refused (cut_in 13 rest)
    go true [] h = refl
    go true (b ∷ rest) h = absurd (omega (arith, h))
    go false rest h = rw (lt-leb (256 - c) (length rest) h)

whole_run : (c : ℕ) (rest : List ℕ) → behind c ≤ length rest → (d : ByteRun) × (s : List ℕ) × (byte_run (c ∷ rest) ≡ got d s)
unfolding byte_run repeat_run bytes
whole_run c rest h = go (ltb c 128) rest h
  where
    go : (t : Bool) (rest : List ℕ) → pick t 1 (256 - c) ≤ length rest
        → (d : ByteRun) × (s : List ℕ) × (pick t (repeat_run c rest) (then (bytes 13 (256 - c) rest) λ v s. got (literals v) s) ≡ got d s)
    go true [] h = absurd (omega (arith, h))
    go true (b ∷ rest) h = (_, _, refl)
    go false rest h = (literals (take (256 - c) rest), drop (256 - c) rest, rw (le-leb (256 - c) (length rest) h))

run-read : (bs : List ℕ) → AllBelow 256 bs → RunRead bs (byte_run bs)
unfolding byte_run
run-read [] h = run_none refl
run-read (c ∷ rest) h = go (dec_lt (length rest) (behind c))
  where
    go : Dec (length rest < behind c) → RunRead (c ∷ rest) (byte_run (c ∷ rest))
    go (yes l) = rw (cut-run c rest l) (run-cut c rest refl l)
    go (no l) =
        let (d, s, e) = whole_run c rest (omega arith) in
        rw e (run-got (of-got (rw e at (run_sound (c ∷ rest) h))))

-- the runs that m bytes need: they are read, or the line that says where reading stops
pub data Fate (m : ℕ) (bs : List ℕ) : Parsed (List ByteRun) → Type 0 where
  all_read : {ds : List ByteRun} {rest : List ℕ} → Fate m bs (got ds rest)
  stops : {k field : ℕ} → CutShort bs m k field → Fate m bs (refused (cut_in k (drop field bs)))

module _ (m : ℕ) (bs : List ℕ) (d : ByteRun) (s : List ℕ) (v : ValidRun d) (e : bs ≡ run_layout d ++ s) where
  later : (k field : ℕ) → CutShort s (m - byte_count d) k field → CutShort bs m k (length (run_layout d) + field)
  unfolding joined_runs joined_bytes
  later k field (no-control ds w l f) =
      rw (← (length-append (run_layout d) (joined_runs ds)))
      (no-control (d ∷ ds) (v, w) (omega (arith, l, length-append (run_bytes d) (joined_bytes ds), length_run d)) (e ∙ ap (λ (x : List ℕ). run_layout d ++ x) f))
  later k field (in-run ds c rest w l f h) =
      let i : length (run_layout d ++ joined_runs ds) + 1 ≡ length (run_layout d) + (length (joined_runs ds) + 1) =
      omega (arith, length-append (run_layout d) (joined_runs ds)) in
      rw (← i)
      (in-run (d ∷ ds) c rest (v, w) (omega (arith, l, length-append (run_bytes d) (joined_bytes ds), length_run d))
      (e ∙ ap (λ (x : List ℕ). run_layout d ++ x) f ∙ sym (append_assoc (run_layout d) (joined_runs ds) (c ∷ rest))) h)

  fate-later : {x : Parsed (List ByteRun)} → Fate (m - byte_count d) s x → Fate m bs (then x λ ds rest. got (d ∷ ds) rest)
  fate-later all_read = all_read
  fate-later (stops {k} {field} c) =
      let i : drop (length (run_layout d) + field) bs ≡ drop field s = rw e (drop-append-add (run_layout d) s field) in
      rw (← i) (stops (later k field c))

pub fate : (f m : ℕ) (bs : List ℕ) → AllBelow 256 bs → length bs ≤ f → Fate m bs (byte_runs f m bs)
unfolding byte_runs joined_runs joined_bytes
fate zero m (a ∷ bs) h l = absurd (omega arith)
fate zero m [] h l = go (eqb m 0) refl
  where
    go : (t : Bool) → eqb m 0 ≡ t → Fate m [] (pick t (got [] []) (refused (cut_in 6 [])))
    go true e = all_read
    go false e = stops (no-control [] tt (omega (arith, eqb_no {a = m} {b = 0} (rw e tt))) refl)
fate (suc f) m bs h l = go (eqb m 0) refl (run-read bs h) (fate f)
  where
    stopped : (k field : ℕ) {rest : List ℕ} → drop field bs ≡ rest → CutShort bs m k field → Fate m bs (refused (cut_in k rest))
    stopped k field e c = rw (← e) (stops c)

    go : {x : Parsed ByteRun} (t : Bool) → eqb m 0 ≡ t → RunRead bs x
        → ((m : ℕ) (s : List ℕ) → AllBelow 256 s → length s ≤ f → Fate m s (byte_runs f m s))
        → Fate m bs (pick t (got [] bs) (then x λ d s. then (byte_runs f (m - byte_count d) s) λ ds rest. got (d ∷ ds) rest))
    go true e r ih = all_read
    go false e (run_none z) ih = stopped 6 0 z (no-control [] tt (omega (arith, eqb_no {a = m} {b = 0} (rw e tt))) z)
    go false e (run-cut c rest z k) ih = stopped 13 1 (ap (drop 1) z) (in-run [] c rest tt (omega (arith, eqb_no {a = m} {b = 0} (rw e tt))) z k)
    go false e (run-got {d} {rest} t) ih =
        fate-later m bs d rest t.ok t.split
        (ih (m - byte_count d) rest t.rest-bytes (omega (arith, layout-pos d, length-append (run_layout d) rest, ap length t.split)))
