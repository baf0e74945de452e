-- What one part, and then a list of parts, does to an open reader: the runs of the joined bytes, and the bytes behind them, held or refused.
-- Assumes nothing.
use Rattle.format.proofs.Common.{◌≡◌, refl, sym, ap, ◌∙◌, ℕ, zero, suc, ◌+◌, ◌-◌, ◌%◌, ◌<◌, dec_lt, arith, Bool, true, false, not, List, []}
use Rattle.format.proofs.Common.{◌∷◌, ◌++◌, append_assoc, append-nil, length, take, drop, length-append, take-append-drop, take-append-le}
use Rattle.format.proofs.Common.{take-append_seam, drop-append-add, drop-append_seam, T, eqb}
use Rattle.format.specs.declared.Refusal.{Refusal}
use Rattle.format.specs.Digits.{AllBelow}
use Rattle.format.specs.Fields.{pick, two64}
use Rattle.format.specs.Runs.{Description, Valid, layout, AllValid, joined}
use Rattle.format.specs.Parse.{Reason, plain, cut, unfinished, Parsed, refused, parse}
use Rattle.format.specs.Answers.{refusing}
use Rattle.format.proofs.Below.{below-append, append-below, below-drop}
use Rattle.format.proofs.Runs.{Outcome, nothing, run, refusal, outcome, parse-empty}
use Rattle.format.proofs.RunComplete.{parse-complete}
use Rattle.format.proofs.Cut.{refused-stays}
use Rattle.format.specs.declared.Standing.TheVariants.{Opened, Broken}
use Rattle.format.specs.Parts as reader
use Rattle.format.specs.Parts.{State, on_part, take_part}
use Rattle.format.proofs.Tests.{never}
use Rattle.promises.specs.Parts.{Fed, go_on, offer, feed, joined_parts, starting}

-- ---- what stands after some bytes

-- no bytes, or those of an unfinished run
pub data Waits (h : List ℕ) : Type 0 where
  nothing-held : h ≡ [] → Waits h
  begun : {r : Reason} → AllBelow 256 h → parse h ≡ refused r → T (unfinished r) → Waits h

pub bytes-held : {h : List ℕ} → Waits h → AllBelow 256 h
bytes-held (nothing-held z) = rw z tt
bytes-held (begun b p u) = b

-- where the run after some others starts
unfoldable pub after : ℕ → List Description → ℕ
after at [] = at
after at (d ∷ ds) = after ((at + length (layout d)) % two64) ds

-- out of the bytes bs: the runs ds, of which the first starts at `at`; what is behind them waits, or is refused
pub data Result (at : ℕ) (bs : List ℕ) : Fed → Type 0 where
  waiting : (ds : List Description) {rest : List ℕ} → AllValid ds → bs ≡ joined ds ++ rest → Waits rest
      → Result at bs (record { runs = starting at ds; state = record { held = rest; at = after at ds; standing = Opened } })
  barred : (ds : List Description) (rest : List ℕ) {h : List ℕ} (n : ℕ) → AllValid ds → bs ≡ joined ds ++ rest → Waits h → parse rest ≡ refused (plain n)
      → T (not (eqb n 1)) → Result at bs
      (record { runs = starting at ds; state = record { held = h; at = after at ds; standing = Broken (refusing n (after at ds)) } })

-- a run before them
consed : {at : ℕ} {bs rest : List ℕ} {d : Description} {f : Fed} → Valid d → bs ≡ layout d ++ rest → Result ((at + length (layout d)) % two64) rest f
    → Result at bs (record { runs = record { at = at; run = d } ∷ f.runs; state = f.state })
unfolding joined starting after
consed {d} vd e (waiting ds {rest} v s w) =
    waiting (d ∷ ds) (vd, v) (e ∙ ap (λ (x : List ℕ). layout d ++ x) s ∙ sym (append_assoc (layout d) (joined ds) rest)) w
consed {d} vd e (barred ds rest n v s w p u) =
    barred (d ∷ ds) rest n (vd, v) (e ∙ ap (λ (x : List ℕ). layout d ++ x) s ∙ sym (append_assoc (layout d) (joined ds) rest)) w p u

-- several runs before them
prefixed : {at : ℕ} {bs : List ℕ} (rest : List ℕ) (ds : List Description) {f : Fed} → AllValid ds → bs ≡ joined ds ++ rest → Result (after at ds) rest f
    → Result at bs (record { runs = starting at ds ++ f.runs; state = f.state })
unfolding joined starting after
prefixed rest [] v e t = rw e t
prefixed {at} rest (d ∷ ds) v e t =
    consed v.0 (e ∙ append_assoc (layout d) (joined ds) rest) (prefixed {at = (at + length (layout d)) % two64} rest ds v.1 refl t)

-- ---- one part

-- what waits does not begin with a whole run
none-whole : {h : List ℕ} (d : Description) (s : List ℕ) → Waits h → Valid d → h ≡ layout d ++ s → ⊥
none-whole d s (nothing-held z) v e = never (cc (parse-empty, parse-complete d s v))
none-whole d s (begun b p u) v e = never (cc (parse-complete d s v))

-- so a run that the part makes whole ends in the part, and what is not taken of the part is what is behind the run
module _ (h part rest : List ℕ) (d : Description) (w : Waits h) (v : Valid d) (e : h ++ part ≡ layout d ++ rest) where
  pub ends-in : length h < length (layout d)
  ends-in = go (dec_lt (length h) (length (layout d)))
    where
      n : ℕ
      n = length (layout d)

      go : Dec (length h < n) → length h < n
      go (yes l) = l
      go (no l) =
          let f : layout d ≡ take n h = sym (take-append_seam (layout d) rest) ∙ ap (take n) (sym e) ∙ take-append-le n h part (omega arith) in
          absurd (none-whole d (drop n h) w v (sym (take-append-drop n h) ∙ ap (λ (x : List ℕ). x ++ drop n h) (sym f)))

  pub lengths : length h + length part ≡ length (layout d) + length rest
  lengths = sym (length-append h part) ∙ ap length e ∙ length-append (layout d) rest

  untaken : drop (length part - length rest) part ≡ rest
  untaken =
      let k : length h + (length part - length rest) ≡ length (layout d) = omega (arith, ends-in, lengths) in
      sym (drop-append-add h part (length part - length rest)) ∙ ap (λ (i : ℕ). drop i (h ++ part)) k ∙ ap (drop (length (layout d))) e
      ∙ drop-append_seam (layout d) rest

pub offered : (calls : ℕ) (h : List ℕ) (at : ℕ) (part : List ℕ) → Waits h → AllBelow 256 (h ++ part) → length part < calls
    → Result at (h ++ part) (offer calls (record { held = h; at = at; standing = Opened }) part)
unfolding offer take_part reader.in_places reader.unless_stopped on_part starting after joined
offered zero h at part w b l = absurd (omega arith)
offered (suc calls) h at part w b l = go (parse (h ++ part)) refl (outcome (h ++ part) b) (λ k rest. offered calls [] k rest (nothing-held refl))
  where
    s : State
    s = record { held = h; at = at; standing = Opened }

    go : (m : Parsed Description) → parse (h ++ part) ≡ m → Outcome (h ++ part) m
        → ((k : ℕ) (rest : List ℕ) → AllBelow 256 rest → length rest < calls
        → Result k rest (offer calls (record { held = []; at = k; standing = Opened }) rest))
        → Result at (h ++ part) (go_on (λ t rest. offer calls t rest) part (on_part s part m) (on_part s part m).reply)
    go m e (nothing z) ih = waiting [] tt refl (nothing-held z)
    go m e (run {d} {rest} t) ih =
        consed t.ok t.split (rw (untaken h part rest d w t.ok t.split)
        (ih _ rest t.rest-bytes (omega (arith, ends-in h part rest d w t.ok t.split, lengths h part rest d w t.ok t.split))))
    go m e (refusal {r = cut n left} _) ih = waiting [] tt refl (begun b e tt)
    go m e (refusal {r = plain n} _) ih = by-kind (eqb n 1) refl
      where
        by-kind : (u : Bool) → eqb n 1 ≡ u
            → Result at (h ++ part) (go_on (λ t rest. offer calls t rest) part (pick u (reader.hold s part) (reader.refuse s (length (h ++ part)) (plain n)))
            (pick u (reader.hold s part) (reader.refuse s (length (h ++ part)) (plain n))).reply)
        by-kind true u = waiting [] tt refl (begun b e (rw u tt))
        by-kind false u = barred [] (h ++ part) n tt refl w e (rw u tt)

-- ---- a list of parts

-- a reader that has stopped takes nothing more
stopped : (f : Refusal) (h : List ℕ) (at : ℕ) (ps : List (List ℕ))
    → feed (record { held = h; at = at; standing = Broken f }) ps ≡ record { runs = []; state = record { held = h; at = at; standing = Broken f } }
unfolding feed offer take_part reader.in_places reader.unless_stopped
stopped f h at [] = refl
stopped f h at (p ∷ ps) = rw (stopped f h at ps)

pub fed : (h : List ℕ) (at : ℕ) (ps : List (List ℕ)) → Waits h → AllBelow 256 (joined_parts ps)
    → Result at (h ++ joined_parts ps) (feed (record { held = h; at = at; standing = Opened }) ps)
unfolding feed starting after joined
fed h at [] w c = waiting [] tt (append-nil h) w
fed h at (p ∷ ps) w c =
    go (offered (suc (length p)) h at p w (below-append 256 h p (bytes-held w) (append-below 256 p (joined_parts ps) c)) (omega arith))
    (λ h' at' w'. fed h' at' ps w' behind)
  where
    behind : AllBelow 256 (joined_parts ps)
    behind = rw (drop-append_seam p (joined_parts ps)) at (below-drop 256 (length p) (p ++ joined_parts ps) c)

    joins : (ds : List Description) (rest : List ℕ) → h ++ p ≡ joined ds ++ rest → h ++ (p ++ joined_parts ps) ≡ joined ds ++ (rest ++ joined_parts ps)
    joins ds rest e = sym (append_assoc h p (joined_parts ps)) ∙ ap (λ (x : List ℕ). x ++ joined_parts ps) e ∙ append_assoc (joined ds) rest (joined_parts ps)

    go : {f : Fed} → Result at (h ++ p) f
        → ((h' : List ℕ) (at' : ℕ) → Waits h' → Result at' (h' ++ joined_parts ps) (feed (record { held = h'; at = at'; standing = Opened }) ps))
        → Result at (h ++ (p ++ joined_parts ps)) (record { runs = f.runs ++ (feed f.state ps).runs; state = (feed f.state ps).state })
    go (waiting ds {rest} v e w') ih = prefixed (rest ++ joined_parts ps) ds v (joins ds rest e) (ih rest (after at ds) w')
    go (barred ds rest {h = h'} n v e w' q u) ih =
        rw (stopped (refusing n (after at ds)) h' (after at ds) ps, append-nil (starting at ds))
        (barred ds (rest ++ joined_parts ps) n v (joins ds rest e) w' (refused-stays rest (joined_parts ps) (plain n) q u) u)
