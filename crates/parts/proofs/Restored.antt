-- A call that refuses puts back what stood after the bytes held. Assumes nothing.
use Rattle.std.proofs.Common.{◌≡◌, ℕ, ◌+◌, ◌≤◌, Bool, true, false, List, ◌++◌, length, take, drop, ℤ, sym, refl, ap, ◌∙◌, append_assoc, arith, length-drop, take-append-drop, length-take-le, take_at}
use lib.Seq.{paste, length-paste, drop-paste}
use Rattle.format.specs.Digits.{AllBelow}
use Rattle.format.specs.declared.PartReader.{PartReader}
use Rattle.format.specs.declared.PartStep.{PartStep}
use Rattle.format.specs.Parts.{Reply, handed, more, broke, ended, answered, buffer_after}
use Rattle.format.proofs.Tests.{never}
use Rattle.parts.specs.Steps.{Begun, Joins, Goes, goes, is_refused}
use Rattle.parts.proofs.Joined.{take-both, few-part, in_lent, kept-lent}

pub left-lent : (held part buffer : List ℕ) (a : Reply) → is_refused (answered a) ≡ true → buffer ≡ buffer_after held part buffer a
unfolding is_refused
left-lent held part buffer (handed h) e = never (cc)
left-lent held part buffer more e = never (cc)
left-lent held part buffer (broke f) e = refl
left-lent held part buffer ended e = refl

-- the bytes from place h on, copied away
pub copied : (d saved x : List ℕ) (h k n : ℕ) → h + k ≤ length d → n ≡ k → x ≡ take n (drop h d) → take k (x ++ drop k saved) ≡ take k (drop h d)
copied d saved x h k n l e q = rw (q, e) (take_at (take k (drop h d)) (drop k saved) k (length-take-le k (drop h d) (omega (arith, length-drop h d))))

-- what was copied away before is copied back
module _ (d part saved : List ℕ) (h k : ℕ) (l : h + k ≤ length d) (lp : k ≤ length part) (e : take k saved ≡ take k (drop h d)) where
  pub restored : paste (paste d h part k) h saved k ≡ d
  restored =
      let start : take h (paste d h part k) ≡ take h d
      = ap (take h) (append_assoc (take h d) (take k part) (drop (h + k) d))
      ∙ take_at (take h d) (take k part ++ drop (h + k) d) h (length-take-le h d (omega arith)) in
      ap (λ (x : List ℕ). (x ++ take k saved) ++ drop (h + k) (paste d h part k)) start
      ∙ ap (λ (x : List ℕ). (take h d ++ x) ++ drop (h + k) (paste d h part k)) e
      ∙ ap (λ (x : List ℕ). (take h d ++ take k (drop h d)) ++ x) (drop-paste d h part k (omega arith) lp)
      ∙ ap (λ (x : List ℕ). x ++ drop (h + k) d) (sym (take-both h k d (omega arith))) ∙ take-append-drop (h + k) d

module _ (s : PartReader) (part buffer buffer' : List ℕ) (h k : ℕ) (g : Begun s part buffer h k) (b : AllBelow 256 buffer) (c : AllBelow 256 part)
    (signed : Bool)
    (out out' : List ℤ) (r : PartStep) (j : Joins s part buffer buffer' h k signed out out' r (goes s part buffer)) where
  said : is_refused r.answer ≡ is_refused (answered (goes s part buffer).reply)
  said = ap (λ (x : PartStep). is_refused x.answer) j.step

  pub stays : is_refused (answered (goes s part buffer).reply) ≡ false → Goes s part buffer buffer' signed out out' r (goes s part buffer)
  stays f = record { step = j.step; lent = j.lent ∙ kept-lent s part buffer h k g b c f; places = j.places }

  pub stays-unless : is_refused r.answer ≡ false → Goes s part buffer buffer' signed out out' r (goes s part buffer)
  stays-unless f = stays (sym said ∙ f)

  pub joined-long : h + k ≤ length buffer'
  joined-long =
      let l : h + k ≤ length buffer = in_lent s part buffer h k g b c in
      omega (arith, l, ap length j.lent, length-paste buffer h part k l (few-part s part buffer h k g b c))

  pub put_back : (saved buffer'' : List ℕ) → take k saved ≡ take k (drop h buffer) → buffer'' ≡ paste buffer' h saved k
      → is_refused r.answer ≡ true
      → Goes s part buffer buffer'' signed out out' r (goes s part buffer)
  put_back saved buffer'' e p t = record {
    step = j.step;
    lent = p ∙ ap (λ (x : List ℕ). paste x h saved k) j.lent
        ∙ restored buffer part saved h k (in_lent s part buffer h k g b c) (few-part s part buffer h k g b c) e
        ∙ left-lent (take s.held buffer) part buffer (goes s part buffer).reply (sym said ∙ t);
    places = j.places;
  }
