-- The bytes looked at decide as all the bytes do: what the code does with the run reader's answer to them is what the call does. Assumes nothing.
use Rattle.std.proofs.Common.{◌≡◌, ℕ, ◌+◌, ◌-◌, ◌<◌, ◌≤◌, Bool, true, false, List, ◌++◌, length, take, drop, ℤ, sym, refl, ap, ◌∙◌, append_assoc, arith, length-append, length-drop, take-append-drop, length-take-le, take_all}
use native.Mathlib.Nat.{sub-zero}
use native.Mathlib.Decide.{dec_lt}
use Rattle.format.specs.Digits.{AllBelow}
use Rattle.format.specs.Runs.{Description, layout}
use Rattle.format.specs.Parse.{Reason, plain, cut, unfinished, Parsed, end, got, refused, parse, into}
use Rattle.format.specs.Answers.{Answer, refusal}
use Rattle.format.specs.Promises.{answer_of, run_places, RunRead}
use Rattle.format.proofs.Below.{append-below}
use Rattle.format.proofs.Runs.{Outcome, nothing, run, outcome}
use Rattle.format.proofs.RunComplete.{parse-complete}
use Rattle.format.proofs.Runs as runs
use Rattle.format.specs.declared.PartReader.{PartReader}
use Rattle.format.specs.Parts.{refusal_from, on_part, step_of, places_after, room}
use Rattle.format.proofs.Cut.{refused-stays}
use Rattle.format.proofs.Length.{unfinished-short}
use Rattle.format.proofs.Parts.{into-all}
use Rattle.format.proofs.Tests.{never}
use Rattle.parts.specs.Steps.{goes, field_from, from_first, cut_short, by_answer}

-- a refusal's bytes, counted from the run's first and then from the first part
pub from-run : (at total : ℕ) (r : Reason) → from_first at (refusal 0 total r) ≡ refusal_from at total r
unfolding field_from
from-run at total (plain n) = refl
from-run at total (cut n left) =
    let e : 0 + (total - left) ≡ total - left = omega arith in
    rw e

-- a refusal of a run that is not unfinished names no field, so the bytes behind do not matter
any-total : (at total total' : ℕ) (r : Reason) → unfinished r ≡ false → refusal_from at total r ≡ refusal_from at total' r
any-total at total total' (plain n) u = refl
any-total at total total' (cut n left) u = never (cc)

pub cut-is : (total : ℕ) (r : Reason) → cut_short (refusal 0 total r).number (refusal 0 total r).cut ≡ unfinished r
unfolding cut_short
cut-is total (plain n) = refl
cut-is total (cut n left) = refl

module _ (s : PartReader) (part buffer : List ℕ) (signed : Bool) (out out' : List ℤ) (a : Answer) where
  abbrev held : List ℕ
  held = take s.held buffer

  -- the answer a, to the bytes held and k of the part's, is turned into what the call does
  pub record Same (k : ℕ) : Type 0 where
    pub step : by_answer s (length held) (length held + k) (length part) a ≡ step_of s (goes s part buffer)
    pub places : out' ≡ places_after signed out (goes s part buffer).reply

  pub same : (k : ℕ) → AllBelow 256 (held ++ part) → 512 ≤ length out → k ≤ length part → (k < length part → 4356 ≤ length held + k)
      → RunRead (held ++ take k part) 0 signed out out' a → Same k
  unfolding by_answer on_part
  same k b room few far g =
      let e : into (length out) (parse bs) ≡ parse bs = into-all (length out) bs below room in
      go (parse bs) refl (outcome bs below) (rw sub-zero at g.answer ∙ ap (answer_of 0 (length bs)) e) (g.places ∙ ap (run_places signed out) e)
    where
      bs : List ℕ
      bs = held ++ take k part

      q : List ℕ
      q = drop k part

      all : held ++ part ≡ bs ++ q
      all = ap (λ (x : List ℕ). held ++ x) (sym (take-append-drop k part)) ∙ sym (append_assoc held (take k part) q)

      below : AllBelow 256 bs
      below = append-below 256 bs q (rw all at b)

      long : length bs ≡ length held + k
      long = length-append held (take k part) ∙ ap (λ (n : ℕ). length held + n) (length-take-le k part few)

      -- where few bytes were looked at, they are all
      seen : length bs < 4356 → k ≡ length part
      seen l = go (dec_lt k (length part))
        where
          go : Dec (k < length part) → k ≡ length part
          go (yes h) = absurd (omega (arith, far h, long))
          go (no h) = omega arith

      whole : length bs < 4356 → bs ≡ held ++ part
      whole l = ap (λ (x : List ℕ). held ++ x) (take_all k part (omega (arith, seen l)))

      size : length bs < 4356 → length held + k ≡ length (held ++ part)
      size l = sym long ∙ ap length (whole l)

      go : (m : Parsed Description) → parse bs ≡ m → Outcome bs m → a ≡ answer_of 0 (length bs) m → out' ≡ run_places signed out m → Same k
      go m e (nothing z) ea eo =
          let l : length bs < 4356 = rw z (omega arith) in
          let p : parse (held ++ part) ≡ end = ap parse (sym (whole l)) ∙ e in
          record { step = rw (ea, p, size l); places = rw p eo }
      go m e (run {d} {rest} t) ea eo =
          let p : parse (held ++ part) ≡ got d (rest ++ q)
          = ap parse (all ∙ ap (λ (x : List ℕ). x ++ q) t.split ∙ append_assoc (layout d) rest q) ∙ parse-complete d (rest ++ q) t.ok in
          let u : length part - length (rest ++ q) ≡ length (layout d) - length held
          = omega (arith, long, length-append (layout d) rest, ap length t.split, length-append rest q, length-drop k part) in
          record { step = rw (ea, p, u); places = rw p eo }
      go m e (runs.refusal {r} z) ea eo = by-kind (unfinished r) refl
        where
          by-kind : (u : Bool) → unfinished r ≡ u → Same k
          by-kind true u =
              let l : length bs < 4356 = unfinished-short bs r below e (rw u tt) in
              let p : parse (held ++ part) ≡ refused r = ap parse (sym (whole l)) ∙ e in
              record { step = rw (ea, p, cut-is (length bs) r, u, size l); places = rw (p, u) eo }
          by-kind false u =
              let p : parse (held ++ part) ≡ refused r = ap parse all ∙ refused-stays bs q r e (rw u tt) in
              record {
                step = rw (
                  ea,
                  p,
                  cut-is (length bs) r,
                  u,
                  from-run s.at.bytes (length bs) r
                      ∙ any-total s.at.bytes (length bs) (length (held ++ part)) r u,
                );
                places = rw (p, u) eo;
              }
