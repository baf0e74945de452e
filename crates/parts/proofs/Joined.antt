-- A run that began before its part: the part's bytes are copied after those held. Assumes nothing.
use Rattle.std.proofs.Common.{◌≡◌, ℕ, zero, suc, ◌+◌, ◌-◌, ◌/◌, ◌<◌, ◌≤◌, Bool, true, false, T, List, [], ◌∷◌, ◌++◌, length, get_or, take, drop, ℤ, sym, refl, ap, ◌∙◌, append_assoc, append-nil, arith, length-append, length-drop, take-append-drop, drop_of_length-le, length-take, length-take-le, take_all, ne_eqb}
use lib.Seq.{paste, take-paste, take-append-add}
use Rattle.format.specs.Answers.{Answer}
use Rattle.format.specs.Digits.{AllBelow}
use Rattle.format.specs.Runs.{Description}
use Rattle.format.specs.Parse.{Reason, unfinished, Parsed, end, got, refused, parse}
use Rattle.format.specs.Promises.{answer_of, RunRead, RunMeasured}
use Rattle.format.proofs.Below.{below-append, append-below, below-take}
use Rattle.format.proofs.Runs.{Outcome, nothing, run, outcome}
use Rattle.format.proofs.Runs as runs
use Rattle.format.specs.declared.PartReader.{PartReader}
use Rattle.format.specs.Parts.{on_part, state_of, answered, buffer_after}
use Rattle.format.proofs.Cut.{Extends, ext-refused, ext_cut, parse-ext}
use Rattle.format.proofs.Length.{unfinished-short}
use Rattle.format.proofs.Parts.{take_min}
use Rattle.format.proofs.Tests.{never, T_true}
use Rattle.parts.specs.Steps.{Begun, Joins, Goes, goes, holds, by_answer, is_cut, is_whole, is_refused}
use Rattle.parts.proofs.Front.{Stops, stops, alike, delta-told, patient}
use Rattle.parts.proofs.Seen.{Same, same, cut-is}

pub take-both : (h k : ℕ) (d : List ℕ) → h ≤ length d → take (h + k) d ≡ take h d ++ take k (drop h d)
take-both h k d l =
    ap (take (h + k)) (sym (take-append-drop h d)) ∙ ap (λ (n : ℕ). take (n + k) (take h d ++ drop h d)) (sym (length-take-le h d l))
    ∙ take-append-add (take h d) (drop h d) k

headed : (n : ℕ) (d : List ℕ) → 0 < n → 0 < length d → take n d ≡ get_or d 0 0 ∷ take (n - 1) (drop 1 d)
headed n [] h l = absurd (omega arith)
headed n (x ∷ d) h l = go n h
  where
    go : (n : ℕ) → 0 < n → take n (x ∷ d) ≡ x ∷ take (n - 1) d
    go zero h = absurd (omega arith)
    go (suc n) h =
        let e : suc n - 1 ≡ n = omega arith in
        rw e

module _ (s : PartReader) (part buffer : List ℕ) (h k : ℕ) (g : Begun s part buffer h k) (b : AllBelow 256 buffer) (c : AllBelow 256 part) where
  size : length (take s.held buffer) ≡ h
  size = length-take s.held buffer ∙ sym g.held

  front-is : take h buffer ≡ take s.held buffer
  front-is = ap (λ (n : ℕ). take n buffer) g.held ∙ take_min s.held buffer

  below : AllBelow 256 (take s.held buffer ++ part)
  below = below-append 256 (take s.held buffer) part (below-take 256 s.held buffer b) c

  pub few-part : k ≤ length part
  few-part = omega (arith, g.seen)

  pub in_lent : h + k ≤ length buffer
  in_lent = omega (arith, g.seen, g.long, g.held)

  -- the part's bytes are copied after them
  module _ (signed : Bool) (out out' : List ℤ) (a : Answer) (room : 512 ≤ length out) (buffer' : List ℕ) (p : buffer' ≡ paste buffer h part k)
      (r : RunRead (take (h + k) buffer') 0 signed out out' a) where
    pub crossing : Joins s part buffer buffer' h k signed out out' (by_answer s h (h + k) (length part) a) (goes s part buffer)
    crossing =
        let seen : take (h + k) buffer' ≡ take s.held buffer ++ take k part
        = ap (take (h + k)) p ∙ take-paste buffer h part k (omega (arith, in_lent)) few-part ∙ ap (λ (x : List ℕ). x ++ take k part) front-is in
        let m : Same s part buffer signed out out' a k
        = same s part buffer signed out out' a k below room few-part (λ f. omega (arith, size, g.seen)) (rw (← seen) r) in
        record { step = rw (← size) m.step; lent = p; places = m.places }

  -- if the call does not refuse, they stay there
  pub kept-lent : is_refused (answered (goes s part buffer).reply) ≡ false
      → paste buffer h part k ≡ buffer_after (take s.held buffer) part buffer (goes s part buffer).reply
  unfolding on_part is_refused
  kept-lent = go (parse all) refl (outcome all below)
    where
      all : List ℕ
      all = take s.held buffer ++ part

      whole : length all < 4356 → paste buffer h part k ≡ paste buffer h part (length part)
      whole l =
          let e : k ≡ length part = omega (arith, g.seen, size, length-append (take s.held buffer) part) in
          rw e

      go : (m : Parsed Description) → parse all ≡ m → Outcome all m → is_refused (answered (on_part (state_of s buffer) part m).reply) ≡ false
          → paste buffer h part k ≡ buffer_after (take s.held buffer) part buffer (on_part (state_of s buffer) part m).reply
      go m p (nothing z) f = rw size (whole (rw z (omega arith)))
      go m p (run _) f = rw (size, ne_eqb h 0 (λ z. absurd (omega (arith, g.some))), ← g.seen)
      go m p (runs.refusal {r} _) f = by-kind (unfinished r) refl
        where
          by-kind : (u : Bool) → unfinished r ≡ u
              → paste buffer h part k ≡ buffer_after (take s.held buffer) part buffer (on_part (state_of s buffer) part (refused r)).reply
          by-kind true u = rw (u, size) (whole (unfinished-short all r below p (rw u tt)))
          by-kind false u =
              let t : is_refused (answered (on_part (state_of s buffer) part (refused r)).reply) ≡ true = rw u in
              never (cc)

  -- a short repeat or a direct run is not refused
  pub not-refused : get_or buffer 0 0 / 64 < 2 → is_refused (answered (goes s part buffer).reply) ≡ false
  unfolding on_part is_refused
  not-refused d = go (parse (take s.held buffer ++ part)) refl
    where
      first : take s.held buffer ++ part ≡ get_or buffer 0 0 ∷ (take (s.held - 1) (drop 1 buffer) ++ part)
      first = ap (λ (x : List ℕ). x ++ part) (headed s.held buffer (omega (arith, g.some, g.held)) (omega (arith, g.long)))

      go : (m : Parsed Description) → parse (take s.held buffer ++ part) ≡ m → is_refused (answered (on_part (state_of s buffer) part m).reply) ≡ false
      go end e = refl
      go (got d rest) e = refl
      go (refused r) e =
          let u : T (unfinished r) = patient (get_or buffer 0 0) (take (s.held - 1) (drop 1 buffer) ++ part) r d (sym (ap parse first) ∙ e) in
          rw (T_true (unfinished r) u)

  -- the front and the length say that the run is unfinished: all is held
  module _ (signed : Bool) (out : List ℤ) (a : Answer) (long : 22 ≤ h) (m : RunMeasured (take (h + k) buffer) 0 a) (cut : is_cut a ≡ true) (buffer' : List ℕ)
      (p : buffer' ≡ paste buffer h part k) where
    told : (total : ℕ) (m : Parsed Description) → is_cut (answer_of 0 total m) ≡ true → Stops true m
    unfolding is_cut
    told total end e = never (cc)
    told total (got d rest) e = never (cc)
    told total (refused r) e = stops {r = r} (sym (cut-is total r) ∙ e)

    here : Stops true (parse (take h buffer ++ take k (drop h buffer)))
    here = rw (← (take-both h k buffer (omega (arith, in_lent)))) (told (length (take (h + k) buffer) - 0) (parse (take (h + k) buffer)) (rw m at cut))

    there : Stops true (parse (take s.held buffer ++ take k part))
    there =
        let l : length (take k (drop h buffer)) ≡ length (take k part)
        = length-take-le k (drop h buffer) (omega (arith, in_lent, length-drop h buffer)) ∙ sym (length-take-le k part few-part) in
        rw front-is at (alike (take k (drop h buffer)) (take k part) l (take h buffer) (omega (arith, length-take-le h buffer (omega (arith, in_lent)))) here)

    pub waiting : Goes s part buffer buffer' signed out out (holds s (h + k) (length part)) (goes s part buffer)
    unfolding on_part
    waiting = go (parse bs) refl there
      where
        bs : List ℕ
        bs = take s.held buffer ++ take k part

        count : length bs ≡ h + k
        count = length-append (take s.held buffer) (take k part) ∙ ap (λ (n : ℕ). n + length (take k part)) size
            ∙ ap (λ (n : ℕ). h + n) (length-take-le k part few-part)

        go : (m : Parsed Description) → parse bs ≡ m → Stops true m
            → Goes s part buffer buffer' signed out out (holds s (h + k) (length part)) (goes s part buffer)
        go m e (stops {r} u) =
            let short : length bs < 4356 = unfinished-short bs r (append-below 256 bs (drop k part) (rw (sym split) at below)) e (rw u tt) in
            let n : k ≡ length part = omega (arith, g.seen, count) in
            let q : parse (take s.held buffer ++ part) ≡ refused r
            = ap (λ (x : List ℕ). parse (take s.held buffer ++ x)) (sym (take_all k part (omega (arith, n)))) ∙ e in
            let t : length (take s.held buffer ++ part) ≡ h + k
            = length-append (take s.held buffer) part ∙ ap (λ (i : ℕ). i + length part) size ∙ ap (λ (i : ℕ). h + i) (sym n) in
            record { step = rw (q, u, t); lent = rw (q, u, size, ← n) p; places = rw (q, u) }
          where
            split : bs ++ drop k part ≡ take s.held buffer ++ part
            split = append_assoc (take s.held buffer) (take k part) (drop k part) ∙ ap (λ (x : List ℕ). take s.held buffer ++ x) (take-append-drop k part)

  -- the front of a delta run says that it is not refused
  module _ (a : Answer) (long : 22 ≤ h) (d : 3 ≤ get_or buffer 0 0 / 64) (m : RunMeasured (take (h + k) buffer) 0 a) (w : is_whole a ≡ true) where
    abbrev rest : List ℕ
    rest = take (h - 1) (drop 1 buffer)

    begins : take h buffer ≡ get_or buffer 0 0 ∷ rest
    begins = headed h buffer g.some (omega (arith, g.long))

    seen-is : take (h + k) buffer ≡ get_or buffer 0 0 ∷ (rest ++ take k (drop h buffer))
    seen-is = take-both h k buffer (omega (arith, in_lent)) ∙ ap (λ (x : List ℕ). x ++ take k (drop h buffer)) begins

    all-is : take s.held buffer ++ part ≡ get_or buffer 0 0 ∷ ((rest ++ take k part) ++ drop k part)
    all-is =
        ap (λ (x : List ℕ). x ++ part) (sym front-is ∙ begins)
        ∙ ap (λ (x : List ℕ). get_or buffer 0 0 ∷ x)
        (ap (λ (x : List ℕ). rest ++ x) (sym (take-append-drop k part)) ∙ sym (append_assoc rest (take k part) (drop k part)))

    not-told : (total : ℕ) (m : Parsed Description) → is_whole (answer_of 0 total m) ≡ true → Stops false m → ⊥
    unfolding is_whole
    not-told total m e (stops {r} u) = never (cc)

    never-told : Stops false (parse (get_or buffer 0 0 ∷ (rest ++ take k part))) → ⊥
    never-told u =
        let l : length (take k part) ≡ length (take k (drop h buffer))
        = length-take-le k part few-part ∙ sym (length-take-le k (drop h buffer) (omega (arith, in_lent, length-drop h buffer))) in
        let f : 22 ≤ length (get_or buffer 0 0 ∷ rest) = omega (arith, ap length begins, length-take-le h buffer (omega (arith, in_lent))) in
        not-told (length (take (h + k) buffer) - 0) (parse (take (h + k) buffer)) (rw m at w)
        (rw (sym seen-is) at (delta-told (take k part) (take k (drop h buffer)) l (get_or buffer 0 0) rest d f u))

    pub not-by-front : is_refused (answered (goes s part buffer).reply) ≡ false
    unfolding on_part is_refused
    not-by-front = go (parse (take s.held buffer ++ part)) refl
      where
        bs : List ℕ
        bs = get_or buffer 0 0 ∷ (rest ++ take k part)

        bs-below : AllBelow 256 bs
        bs-below = append-below 256 bs (drop k part) (rw all-is at below)

        count : length bs ≡ h + k
        count = omega (
          arith,
          length-append (get_or buffer 0 0 ∷ rest) (take k part),
          ap length begins,
          length-take-le h buffer (omega (arith, in_lent)),
          length-take-le k part few-part,
        )

        on-refusal : (r : Reason) → unfinished r ≡ false → parse (bs ++ drop k part) ≡ refused r → (m : Parsed Description) → parse bs ≡ m
            → Extends (drop k part) m (refused r) → ⊥
        on-refusal r u q m e ext-refused = never-told (rw e (stops {r = r} u))
        on-refusal r u q m e (ext_cut {n} c) =
            let short : length bs < 4356 = unfinished-short bs n bs-below e c in
            let none : drop k part ≡ [] = drop_of_length-le part {i = k} (omega (arith, g.seen, count)) in
            let p : parse bs ≡ refused r = ap parse (sym (append-nil bs)) ∙ ap (λ (x : List ℕ). parse (bs ++ x)) (sym none) ∙ q in
            never-told (rw p (stops {r = r} u))

        go : (m : Parsed Description) → parse (take s.held buffer ++ part) ≡ m → is_refused (answered (on_part (state_of s buffer) part m).reply) ≡ false
        go end e = refl
        go (got d rest) e = refl
        go (refused r) e = by-kind (unfinished r) refl
          where
            by-kind : (u : Bool) → unfinished r ≡ u → is_refused (answered (on_part (state_of s buffer) part (refused r)).reply) ≡ false
            by-kind true u = rw u
            by-kind false u =
                let q : parse (bs ++ drop k part) ≡ refused r = sym (ap parse all-is) ∙ e in
                absurd (on-refusal r u q (parse bs) refl (rw q at (parse-ext (drop k part) (get_or buffer 0 0) (rest ++ take k part))))
