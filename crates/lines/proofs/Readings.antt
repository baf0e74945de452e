-- What is read of a line, by its frame. Assumes nothing.
use mathlib.Core.Path.{◌≡◌, ap}
use Prim.Native.Nat.{ℕ, suc, ◌-◌, ◌<◌}
use native.Mathlib.Omega.{arith}
use mathlib.Core.List.{List, [], ◌∷◌}
use lib.ListN.{length, take, get_or}
use lib.Dec.{eqb}
use lib.IntN.{ℤ}
use Rattle.format.specs.Promises.{RunRead}
use Rattle.format.specs.Answers.{Answer}
use Rattle.std.specs.Prelude.{Some, None}
use Rattle.lines.specs.Line.{frame_of, Framed, frame_reading, frame_places, LineRead}
use Rattle.lines.proofs.Frames.{frame-long}

-- no bytes: it is bad
pub read-bad : (line : List ℕ) (out : List ℤ) → frame_of line ≡ [] → LineRead line out out None
unfolding frame_reading frame_places
read-bad line out e = record { answer = rw e; places = rw e }

-- a flag, and the run after it
frame-read : (frame : List ℕ) (out out' : List ℤ) (r : Answer) → 0 < length frame → RunRead frame 1 (eqb (get_or frame 0 0) 1) out out' r
    → (Some r ≡ frame_reading (length out) frame) × (out' ≡ frame_places out frame)
unfolding frame_reading frame_places
frame-read [] out out' r h g = absurd (omega arith)
frame-read (flag ∷ run) out out' r h g =
    let e : suc (length run) - 1 ≡ length run = omega arith in
    (ap (λ (a : Answer). Some a) (rw e at g.answer), g.places)

pub read-run : (line frame : List ℕ) (n : ℕ) (out out' : List ℤ) (r : Answer) → Framed line frame n → 0 < n
    → RunRead (take n frame) 1 (eqb (get_or (take n frame) 0 0) 1) out out' r → LineRead line out out' (Some r)
read-run line frame n out out' r f h g =
    let (a, p) = frame-read (take n frame) out out' r (omega (arith, frame-long line frame n f)) g in
    record { answer = rw f.bytes at a; places = rw f.bytes at p }
