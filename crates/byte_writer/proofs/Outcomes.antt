-- The outcome of a writer that measured first: too few places for the size, or room and the bytes laid. Assumes nothing.
use Rattle.format.proofs.Common.{◌≡◌, ℕ, ◌<◌, ◌≤◌, List, length, lt-ltb, le-ltb}
use Rattle.byte_writer.specs.Written.{in_front, Outcome}

module _ {A : Type 0} {refusal : A} {w : List ℕ} {r : A} {size : ℕ} (m : size ≡ length w) where
  pub too_few : {wrote : A} {out : List ℕ} → length out < size → r ≡ refusal → Outcome refusal wrote w out out r
  too_few {wrote} {out} h e =
      let l = lt-ltb (length out) (length w) (rw m at h) in
      record { answer = rw l e; places = rw l }

  pub laid : {wrote : A} {out out' : List ℕ} → size ≤ length out → r ≡ wrote → out' ≡ in_front w out → Outcome refusal wrote w out out' r
  laid {wrote} {out} {out'} h e p =
      let l = le-ltb (length out) (length w) (rw m at h) in
      record { answer = rw l e; places = rw l p }
