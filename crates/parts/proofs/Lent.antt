-- The lent bytes of a call with a part, if none is held: a run is read from the part, and what is held afterwards is copied. Assumes nothing.
use Rattle.std.proofs.Common.{◌≡◌, ℕ, ◌+◌, ◌<◌, ◌≤◌, Bool, true, false, List, [], length, take, ℤ, sym, refl, ap, ◌∙◌, le_refl, drop, ◌++◌, append_assoc, drop-drop, arith}
use lib.Seq.{paste, paste-zero, take-length}
use Rattle.format.specs.Answers.{Answer}
use Rattle.format.specs.Digits.{AllBelow}
use Rattle.format.specs.Runs.{Description}
use Rattle.format.specs.Parse.{unfinished, Parsed, refused, parse}
use Rattle.format.specs.Promises.{RunRead}
use Rattle.format.proofs.Runs.{Outcome, nothing, run, outcome}
use Rattle.format.proofs.Runs as runs
use Rattle.format.specs.declared.ByteOffset.{ByteOffset}
use Rattle.format.specs.declared.PartReader.{PartReader}
use Rattle.format.specs.declared.Standing.{Standing}
use Rattle.format.specs.declared.PartStep.{PartStep}
use Rattle.format.specs.Parts.{Call, on_part, state_of, step_of, held_after, buffer_after}
use Rattle.format.proofs.Length.{unfinished-short}
use Rattle.parts.specs.Steps.{Goes, goes, by_answer}
use Rattle.parts.proofs.Seen.{Same, same}

-- n bytes of a part, copied over those of d from place h on
pub pasted : (d part x : List ℕ) (h k n : ℕ) → n ≡ k → x ≡ take k part → take h d ++ (x ++ drop n (drop h d)) ≡ paste d h part k
pasted d part x h k n e q = rw (e, q) (ap (λ (r : List ℕ). take h d ++ (take k part ++ r)) (drop-drop k h d) ∙ sym (append_assoc (take h d) (take k part) (drop (h + k) d)))

-- .. from the first place on
pub pasted-first : (d part x : List ℕ) (k : ℕ) → x ≡ take k part → x ++ drop k d ≡ paste d 0 part k
pasted-first d part x k q =
    let z : 0 + k ≡ k = omega arith in
    rw (q, z)

record Kept (s : PartReader) (part buffer : List ℕ) (c : Call) : Type 0 where
  size : held_after s.held c c.reply ≡ length c.state.held
  in-part : length c.state.held ≤ length part
  in_lent : length c.state.held ≤ 4356
  lent : paste buffer 0 part (length c.state.held) ≡ buffer_after [] part buffer c.reply

kept : (at : ByteOffset) (t : Standing) (part buffer : List ℕ) → AllBelow 256 part
    → let s : PartReader = record { held = 0; at = at; standing = t } in Kept s part buffer (goes s part buffer)
unfolding on_part
kept at t part buffer b = go (parse part) refl (outcome part b)
  where
    s : PartReader
    s = record { held = 0; at = at; standing = t }

    go : (m : Parsed Description) → parse part ≡ m → Outcome part m → Kept s part buffer (on_part (state_of s buffer) part m)
    go m p (nothing z) = record { size = refl; in-part = omega arith; in_lent = rw z (omega arith); lent = refl }
    go m p (run _) = record { size = refl; in-part = omega arith; in_lent = omega arith; lent = sym (paste-zero buffer 0 part) }
    go m p (runs.refusal {r} _) = by-kind (unfinished r) refl
      where
        by-kind : (u : Bool) → unfinished r ≡ u → Kept s part buffer (on_part (state_of s buffer) part (refused r))
        by-kind true u =
            let l : length part < 4356 = unfinished-short part r b p (rw u tt) in
            rw u (record { size = refl; in-part = omega arith; in_lent = omega arith; lent = refl })
        by-kind false u = rw u (record { size = refl; in-part = omega arith; in_lent = omega arith; lent = sym (paste-zero buffer 0 part) })

module _ (s : PartReader) (z : s.held ≡ 0) (part buffer : List ℕ) (signed : Bool) (out out' : List ℤ) (a : Answer) (r : PartStep)
    (b : AllBelow 256 part) (room : 512 ≤ length out) (long : 4356 ≤ length buffer)
    (g : RunRead part 0 signed out out' a) (e : r ≡ by_answer s 0 (length part) (length part) a) where
  kept_here : Kept s part buffer (goes s part buffer)
  kept_here = rw z (kept s.at s.standing part buffer b)

  empty : take s.held buffer ≡ []
  empty = rw z

  no_length : length (take s.held buffer) ≡ 0
  no_length = ap length empty

  same-part : Same s part buffer signed out out' a (length part)
  same-part =
      same s part buffer signed out out' a (length part) (rw empty b) room (le_refl (length part)) (λ l. absurd (omega arith)) (rw (empty, take-length part) g)

  stepped : r ≡ step_of s (goes s part buffer)
  stepped =
      let n : ℕ = length (take s.held buffer) in
      let l : length part ≡ n + length part = omega (arith, no_length) in
      e ∙ ap (λ (m : ℕ). by_answer s 0 m (length part) a) l ∙ ap (λ (m : ℕ). by_answer s m (n + length part) (length part) a) (sym no_length) ∙ same-part.step

  size_is : r.reader.held ≡ length (goes s part buffer).state.held
  size_is = ap (λ (x : PartStep). x.reader.held) stepped ∙ kept_here.size

  pub kept-part : (r.reader.held ≤ length part) × (0 + r.reader.held ≤ length buffer)
  kept-part = (omega (arith, size_is, kept_here.in-part), omega (arith, size_is, kept_here.in_lent))

  pub from-part : (buffer' : List ℕ) → buffer' ≡ paste buffer 0 part r.reader.held → Goes s part buffer buffer' signed out out' r (goes s part buffer)
  from-part buffer' p = record {
    step = stepped;
    lent = p ∙ ap (paste buffer 0 part) size_is ∙ kept_here.lent
        ∙ sym (ap (λ (held : List ℕ). buffer_after held part buffer (goes s part buffer).reply) empty);
    places = same-part.places;
  }
