-- `run::put`: a repeat is two stores, literals are a store and a copy after it; each list is the run's layout in its places.
-- Assumes nothing.
use Rattle.format.proofs.Common.{◌≡◌, sym, ◌∙◌, List, ℕ, ◌≤◌, ◌+◌, arith, length, drop, get_or, take, length-drop, length-set}
use Rattle.format.proofs.Common.{length-take-le}
use Rattle.format.specs.Booleans.{repeat, literals, run_layout}
use Rattle.byte_writer.specs.Choice.{next_run}
use Rattle.byte_writer.specs.Flags.{source}
use Rattle.byte_writer.proofs.Walking.{repeat-is, literals-are, repeat-laid, literals-laid, head_at}
use Rattle.byte_writer.proofs.run.put.Goals as goal

pub overflow_sub-out : goal.overflow_sub-out
unfolding run_layout
overflow_sub-out c =
    let bytes : List ℕ = drop c.args.at (source c.args.packed c.args.s.now) in
    let copies : ℕ = c.in-Repeat.count in
    let repeat-here : (next_run (bytes) ≡ repeat (copies) (get_or (bytes) 0 0)) × (3 ≤ (copies)) × ((copies) ≤ 130)
    × (c.args.k + 2 ≤ length c.args.out.now) = let r = repeat-is (bytes) c.requires.some (copies) (sym c.in-Repeat.is ∙ c.requires.found) in
    (r.0, r.1, r.2, rw r.0 at c.requires.room) in
    repeat-here.1

pub overflow_cast-out : goal.overflow_cast-out
unfolding run_layout
overflow_cast-out c =
    let bytes : List ℕ = drop c.args.at (source c.args.packed c.args.s.now) in
    let copies : ℕ = c.in-Repeat.count in
    let repeat-here : (next_run (bytes) ≡ repeat (copies) (get_or (bytes) 0 0)) × (3 ≤ (copies)) × ((copies) ≤ 130)
    × (c.args.k + 2 ≤ length c.args.out.now) = let r = repeat-is (bytes) c.requires.some (copies) (sym c.in-Repeat.is ∙ c.requires.found) in
    (r.0, r.1, r.2, rw r.0 at c.requires.room) in
    omega (arith, repeat-here.1, repeat-here.2)

pub bounds-out-k : goal.bounds-out-k
unfolding run_layout
bounds-out-k c =
    let bytes : List ℕ = drop c.args.at (source c.args.packed c.args.s.now) in
    let copies : ℕ = c.in-Repeat.count in
    let repeat-here : (next_run (bytes) ≡ repeat (copies) (get_or (bytes) 0 0)) × (3 ≤ (copies)) × ((copies) ≤ 130)
    × (c.args.k + 2 ≤ length c.args.out.now) = let r = repeat-is (bytes) c.requires.some (copies) (sym c.in-Repeat.is ∙ c.requires.found) in
    (r.0, r.1, r.2, rw r.0 at c.requires.room) in
    omega (arith, repeat-here.3)

pub byte_at-requires : goal.byte_at-requires
byte_at-requires c =
    let a = c.args in
    omega (arith, c.requires.some, length-drop a.at (source a.packed a.s.now))

pub bounds-out-k-in-Repeat : goal.bounds-out-k-in-Repeat
unfolding run_layout
bounds-out-k-in-Repeat c =
    let bytes : List ℕ = drop c.args.at (source c.args.packed c.args.s.now) in
    let copies : ℕ = c.in-Repeat.count in
    let repeat-here : (next_run (bytes) ≡ repeat (copies) (get_or (bytes) 0 0)) × (3 ≤ (copies)) × ((copies) ≤ 130)
    × (c.args.k + 2 ≤ length c.args.out.now) = let r = repeat-is (bytes) c.requires.some (copies) (sym c.in-Repeat.is ∙ c.requires.found) in
    (r.0, r.1, r.2, rw r.0 at c.requires.room) in
    rw length-set (omega (arith, repeat-here.3))

pub returns-in-Repeat : goal.returns-in-Repeat
unfolding run_layout
returns-in-Repeat c =
    let bytes : List ℕ = drop c.args.at (source c.args.packed c.args.s.now) in
    let copies : ℕ = c.in-Repeat.count in
    let repeat-here : (next_run (bytes) ≡ repeat (copies) (get_or (bytes) 0 0)) × (3 ≤ (copies)) × ((copies) ≤ 130)
    × (c.args.k + 2 ≤ length c.args.out.now) = let r = repeat-is (bytes) c.requires.some (copies) (sym c.in-Repeat.is ∙ c.requires.found) in
    (r.0, r.1, r.2, rw r.0 at c.requires.room) in
    let a = c.args in
    let h = repeat-here in
    rw (c.byte_at.ensures, ← head_at (source a.packed a.s.now) a.at)
    (repeat-laid (bytes) a.out.now a.k (copies) h.0 h.3)

pub overflow_sub-out-in-Literals : goal.overflow_sub-out-in-Literals
unfolding run_layout
overflow_sub-out-in-Literals c =
    let bytes_2 : List ℕ = drop c.args.at (source c.args.packed c.args.s.now) in
    let count : ℕ = c.in-Literals.count in
    let literals-here : (next_run (bytes_2) ≡ literals (take (count) (bytes_2))) × (1 ≤ (count)) × ((count) ≤ 128) × ((count) ≤ length (bytes_2))
    × (c.args.k + 1 + (count) ≤ length c.args.out.now) = let r = literals-are (bytes_2) c.requires.some (count) (sym c.in-Literals.is ∙ c.requires.found) in
    let m : length (take (count) (bytes_2)) ≡ count = length-take-le (count) (bytes_2) r.3 in
    (r.0, r.1, r.2, r.3, omega (arith, m, rw r.0 at c.requires.room)) in
    omega (arith, literals-here.2)

pub overflow_cast-out-in-Literals : goal.overflow_cast-out-in-Literals
unfolding run_layout
overflow_cast-out-in-Literals c =
    let bytes_2 : List ℕ = drop c.args.at (source c.args.packed c.args.s.now) in
    let count : ℕ = c.in-Literals.count in
    let literals-here : (next_run (bytes_2) ≡ literals (take (count) (bytes_2))) × (1 ≤ (count)) × ((count) ≤ 128) × ((count) ≤ length (bytes_2))
    × (c.args.k + 1 + (count) ≤ length c.args.out.now) = let r = literals-are (bytes_2) c.requires.some (count) (sym c.in-Literals.is ∙ c.requires.found) in
    let m : length (take (count) (bytes_2)) ≡ count = length-take-le (count) (bytes_2) r.3 in
    (r.0, r.1, r.2, r.3, omega (arith, m, rw r.0 at c.requires.room)) in
    omega (arith, literals-here.1, literals-here.2)

pub bounds-out-k-in-Literals : goal.bounds-out-k-in-Literals
unfolding run_layout
bounds-out-k-in-Literals c =
    let bytes_2 : List ℕ = drop c.args.at (source c.args.packed c.args.s.now) in
    let count : ℕ = c.in-Literals.count in
    let literals-here : (next_run (bytes_2) ≡ literals (take (count) (bytes_2))) × (1 ≤ (count)) × ((count) ≤ 128) × ((count) ≤ length (bytes_2))
    × (c.args.k + 1 + (count) ≤ length c.args.out.now) = let r = literals-are (bytes_2) c.requires.some (count) (sym c.in-Literals.is ∙ c.requires.found) in
    let m : length (take (count) (bytes_2)) ≡ count = length-take-le (count) (bytes_2) r.3 in
    (r.0, r.1, r.2, r.3, omega (arith, m, rw r.0 at c.requires.room)) in
    omega (arith, literals-here.4)

pub put_bytes-requires : goal.put_bytes-requires
unfolding run_layout
put_bytes-requires c =
    let bytes_2 : List ℕ = drop c.args.at (source c.args.packed c.args.s.now) in
    let count : ℕ = c.in-Literals.count in
    let literals-here : (next_run (bytes_2) ≡ literals (take (count) (bytes_2))) × (1 ≤ (count)) × ((count) ≤ 128) × ((count) ≤ length (bytes_2))
    × (c.args.k + 1 + (count) ≤ length c.args.out.now) = let r = literals-are (bytes_2) c.requires.some (count) (sym c.in-Literals.is ∙ c.requires.found) in
    let m : length (take (count) (bytes_2)) ≡ count = length-take-le (count) (bytes_2) r.3 in
    (r.0, r.1, r.2, r.3, omega (arith, m, rw r.0 at c.requires.room)) in
    let a = c.args in
    let h = literals-here in
    (omega (arith, h.3, c.requires.some, length-drop a.at (source a.packed a.s.now)), rw length-set h.4)

pub shape_of-out-in-Literals : goal.shape_of-out-in-Literals
shape_of-out-in-Literals c =
    let a = c.args in
    c.put_bytes.auto.out ∙ length-set a.out.now a.k _

pub returns-in-Literals : goal.returns-in-Literals
unfolding run_layout
returns-in-Literals c =
    let bytes_2 : List ℕ = drop c.args.at (source c.args.packed c.args.s.now) in
    let count : ℕ = c.in-Literals.count in
    let literals-here : (next_run (bytes_2) ≡ literals (take (count) (bytes_2))) × (1 ≤ (count)) × ((count) ≤ 128) × ((count) ≤ length (bytes_2))
    × (c.args.k + 1 + (count) ≤ length c.args.out.now) = let r = literals-are (bytes_2) c.requires.some (count) (sym c.in-Literals.is ∙ c.requires.found) in
    let m : length (take (count) (bytes_2)) ≡ count = length-take-le (count) (bytes_2) r.3 in
    (r.0, r.1, r.2, r.3, omega (arith, m, rw r.0 at c.requires.room)) in
    let a = c.args in
    let h = literals-here in
    literals-laid (bytes_2) a.out.now _ a.k (count) h.0 h.3 (omega (arith, h.4)) c.put_bytes.ensures
