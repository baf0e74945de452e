-- The tables hold, by computation: each table is one statement.
-- Assumes nothing.
use Rattle.format.proofs.Common.{◌≡◌, refl, sym, ap, ℕ, ◌-◌, List, [], ◌∷◌, map, length, drop, ℤ}
use Rattle.format.specs.Answers.{Answer}
use Rattle.format.specs.Parse.{parse, into}
use Rattle.format.specs.Promises.{answer_of, run_places}
use Rattle.format.specs.Booleans as b
use Rattle.format.specs.Booleans.{booleans_into, booleans_answer, booleans_places}
use Rattle.format.proofs.Examples.{told}
use Rattle.promises.specs.Table.{Line, integers, booleans, integer_places, byte_places, answer_said, places_said, LineHolds, Holds, starred}
use Rattle.promises.specs.Samples.{others, specification}

-- the answer and the places at exit, of either kind, as the reader gives them and as the line says
abbrev Seen : Type 0
Seen = Answer × List ℤ × List ℕ

abbrev given : Line → Seen
given (integers room at flag input said) =
    let m = into (length (integer_places room)) (parse (drop at input)) in
    (answer_of at (length input - at) m, run_places flag (integer_places room) m, [])
given (booleans room at n input said) =
    let m = booleans_into (length (byte_places room)) n (drop at input) in
    (booleans_answer at (length input - at) n m, [], booleans_places n (byte_places room) m)

abbrev expected : Line → Seen
expected (integers room at flag input said) = (answer_said at said, places_said (integer_places room) said, [])
expected (booleans room at n input said) = (answer_said at said, [], places_said (byte_places room) said)

line-holds : (l : Line) → given l ≡ expected l → LineHolds l
line-holds (integers room at flag input said) e = record { answer = sym (ap (λ (x : Seen). x.0) e); places = sym (ap (λ (x : Seen). x.1) e) }
line-holds (booleans room at n input said) e = record { answer = sym (ap (λ (x : Seen). x.0) e); places = sym (ap (λ (x : Seen). x.2) e) }

all_hold : (ls : List Line) → map given ls ≡ map expected ls → Holds ls
all_hold [] e = tt
all_hold (l ∷ ls) e = (line-holds l (cc), all_hold ls (cc))

-- (the `unfolding` line opens all that computes: whoever says `unfolding computed` computes with it)
unfoldable computed : ℕ
unfolding told b.run_layout b.run_bytes b.byte_count b.joined_runs b.joined_bytes b.booleans_of b.repeat_run b.byte_run b.byte_runs b.booleans b.booleans_into
computed = 0

pub starred-holds : Holds starred
unfolding computed
starred-holds = all_hold starred refl

pub others-hold : Holds others
unfolding computed
others-hold = all_hold others refl

pub specification-holds : Holds specification
unfolding computed
specification-holds = all_hold specification refl
