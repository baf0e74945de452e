-- Booleans and byte values: what the promises of their readers say, as "exactly when". Stated for every input of bytes, position, number
-- asked for and places.
-- Assumes nothing.
use Rattle.std.specs.Prelude.{◌≡◌, ◌↔◌, ℕ, ◌+◌, ◌-◌, ◌<◌, ◌≤◌, List, [], ◌∷◌, ◌++◌, length, take, drop, ltb, Err}
use Rattle.format.specs.declared.Kind.TheVariants.{Booleans, ByteValues}
use Rattle.format.specs.declared.Refusal.{Refusal}
use Rattle.format.specs.Answers.{Answer, ran, refused_at, cut_at}
use Rattle.format.specs.Digits.{AllBelow}
use Rattle.format.specs.Fields.{pick, bytes_for}
use Rattle.format.specs.Booleans.{ByteRun, AllValidRuns, Needed, joined_runs, joined_bytes, booleans_of, BooleansRead}
use Rattle.format.specs.ByteValues.{ValueRead, ValueGiven}

-- the bytes begin with the layouts of valid byte runs, only as many as n booleans need
pub record Hold (bs : List ℕ) (n : ℕ) (ds : List ByteRun) : Type 0 where
  pub valid : AllValidRuns ds
  pub needed : Needed (bytes_for n) ds
  pub rest : List ℕ
  pub bytes : bs ≡ joined_runs ds ++ rest

-- how many bytes stand after a control byte: the one that is copied, or the literal ones
abbrev pub behind : ℕ → ℕ
behind c = pick (ltb c 128) 1 (256 - c)

-- The input ends before m bytes are there: the runs ds are whole and do not give m bytes, and then ..
-- (the number, and the byte, counted from the first of bs, where the cut field begins)
pub data CutShort (bs : List ℕ) (m : ℕ) : ℕ → ℕ → Type 0 where
  -- .. the control byte is missing (6), which would stand after them
  no-control : (ds : List ByteRun) → AllValidRuns ds → length (joined_bytes ds) < m → bs ≡ joined_runs ds
      → CutShort bs m 6 (length (joined_runs ds))
  -- .. or the next run is cut after its control byte c (13)
  in-run : (ds : List ByteRun) (c : ℕ) (rest : List ℕ) → AllValidRuns ds → length (joined_bytes ds) < m → bs ≡ joined_runs ds ++ (c ∷ rest)
      → length rest < behind c → CutShort bs m 13 (length (joined_runs ds) + 1)

pub record BooleansExactly (bs : List ℕ) (at n : ℕ) (out out' : List ℕ) (r : Answer) : Type 0 where
  -- n booleans are read where the bytes hold them and there is room:
  -- each of the runs is consumed whole, the booleans stand in the first places ..
  pub answer : (ds : List ByteRun) → Hold bs n ds → n ≤ length out → r ≡ ran Booleans 1 n (length (joined_runs ds))
  pub places : (ds : List ByteRun) → Hold bs n ds → n ≤ length out → out' ≡ booleans_of n ds ++ drop n out
  -- .. by one list of runs only
  pub only : (ds ds' : List ByteRun) → Hold bs n ds → Hold bs n ds' → ds ≡ ds'
  -- 6 and 13, each with its byte; together: the input ends before the booleans asked for are there
  pub fields : (k byte : ℕ) → (r ≡ cut_at k at byte) ↔ ((field : ℕ) × CutShort bs (bytes_for n) k field × (byte ≡ at + field))
  pub input-ends : ((k byte : ℕ) × (r ≡ cut_at k at byte)) ↔ ((ds : List ByteRun) → Hold bs n ds → ⊥)
  -- then 8: the output has too few places; and no other number
  pub eight : (k : ℕ) → (r ≡ refused_at k at) ↔ ((k ≡ 8) × (ds : List ByteRun) × Hold bs n ds × (length out < n))
  -- a refused call leaves every place of the caller's unchanged
  pub unchanged : (f : Refusal) → r ≡ Err f → out' ≡ out

abbrev pub BooleansHold : Type 0
BooleansHold =
    (input : List ℕ) → AllBelow 256 input → (at n : ℕ) (out out' : List ℕ) (r : Answer) → BooleansRead input at n out out' r
    → BooleansExactly (drop at input) at n out out' r

-- a byte value: the first n bytes, and n the bytes consumed; or 6, which names the call's position, and an empty part
pub record ValueExactly (bs : List ℕ) (at n : ℕ) (part : List ℕ) (r : Answer) : Type 0 where
  pub there : n ≤ length bs → (r ≡ ran ByteValues 8 n n) × (part ≡ take n bs)
  pub six : length bs < n → (r ≡ cut_at 6 at at) × (part ≡ [])

abbrev pub ValueHolds : Type 0
ValueHolds =
    (input : List ℕ) (at n : ℕ) (part : List ℕ) (r : Answer) → ValueRead input at n r → ValueGiven input at n part
    → ValueExactly (drop at input) at n part r
