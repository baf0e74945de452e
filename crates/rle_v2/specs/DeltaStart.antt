-- The two varints that a delta run's body begins with, and what the tests of the run found. Assumes nothing.
use Rattle.std.specs.Prelude.{◌≡◌, ℕ, ◌+◌, ◌-◌, ◌*◌, ◌≤◌, Bool, List, map, length, drop, ℤ, eqb, Err}
use Rattle.format.specs.Fields.{pick, zigzag, row, bytes_for, varint_value}
use Rattle.format.specs.Runs.{Description}
use Rattle.format.specs.Rows.{steps, as_i64, i64_rows}
use Rattle.format.specs.Parse.{Reason, Parsed, got, refused, cut_in, then, varint, delta_body}
use Rattle.format.specs.Answers.{refusal, running}
use Rattle.format.specs.Promises.{run_of, answer_of}
use Rattle.format.specs.declared.Kind.TheVariants.{Delta}
use Rattle.util.specs.Packed.{fields, Width}
use Rattle.rle_v2.specs.Pass.{laid}
use Rattle.rle_v2.specs.RefusedBy.{refused_by}
use Rattle.rle_v2.specs.declared.delta.Found.{Found}

-- what is found of a run that is refused
abbrev pub gone_by : ℕ → ℕ → Found
gone_by number field = record {
  number = number;
  field = record { bytes = field };
  bits = 0;
  rows = record { rows = 0 };
  first = 0;
  base = 0;
  next = record { bytes = 0 };
  end = record { bytes = 0 };
}

-- both varints of a body, and then the rest of it
abbrev pub both : (List ℕ → List ℕ → List ℕ → Parsed Description) → List ℕ → Parsed Description
both body bs = then (varint (cut_in 12 bs) 10 bs) λ first s. then (varint (cut_in 12 s) 10 s) λ base rest. body first base rest

-- both stand in the run at `at`, and say this; nothing is known to stand behind them
pub record Started (s : List ℕ) (at : ℕ) (f : Found) : Type 0 where
  pub first-bytes : List ℕ
  pub base-bytes : List ℕ
  pub first-is : f.first ≡ varint_value first-bytes
  pub base-is : f.base ≡ varint_value base-bytes
  pub next-is : f.next.bytes ≡ at + 2 + (length first-bytes + length base-bytes)
  pub within : f.next.bytes ≤ length s
  pub parsed : (body : List ℕ → List ℕ → List ℕ → Parsed Description)
      → both body (drop (at + 2) s) ≡ body first-bytes base-bytes (drop f.next.bytes s)
  pub bits_is : f.bits ≡ 0
  pub end_is : f.end.bytes ≡ f.next.bytes

-- one of them is refused, and so is the run
pub record NotStarted (s : List ℕ) (at : ℕ) (f : Found) : Type 0 where
  pub reason : Reason
  pub parsed : (body : List ℕ → List ℕ → List ℕ → Parsed Description) → both body (drop (at + 2) s) ≡ refused reason
  pub refusal_is : refused_by at f.number f.field.bytes ≡ Err (refusal at (length s - at) reason)

-- of a run of so many rows
pub record StartsAt (s : List ℕ) (at rows : ℕ) (f : Found) : Type 0 where
  pub rows_is : f.number ≡ 0 → f.rows.rows ≡ rows
  pub started : f.number ≡ 0 → Started s at f
  pub refusal : (f.number ≡ 0 → ⊥) → NotStarted s at f

-- ---- a run that passed its tests

-- the run's body at `at` with packed magnitudes, for each row but two
abbrev pub packed_at : ℕ → Found → List ℕ → ℕ → Parsed Description
packed_at code f s at = delta_body code (f.rows.rows - 2) (drop (at + 2) s)

-- these stand behind the varints
pub record Behind (s : List ℕ) (f : Found) : Type 0 where
  pub wide : Width f.bits
  pub two : 2 ≤ f.rows.rows
  pub few : f.rows.rows ≤ 512
  pub within : f.next.bytes ≤ length s
  pub there : bytes_for ((f.rows.rows - 2) * f.bits) ≤ length s - f.next.bytes

-- unless the width is 0: then there are none
abbrev pub Ready : List ℕ → Found → Type 0
Ready s f = (f.bits ≡ 0 → ⊥) → Behind s f

-- its rows
abbrev pub delta_rows : List ℕ → Bool → Found → List ℤ
delta_rows s signed f =
    pick (eqb f.bits 0) (map as_i64 (steps f.rows.rows (row signed f.first) (zigzag f.base)))
    (laid (row signed f.first) (zigzag f.base) (map as_i64 (fields f.bits (f.rows.rows - 2) (drop f.next.bytes s))))

-- reading gives m: the run at `at` that was found
pub record Passed (s : List ℕ) (at : ℕ) (m : Parsed Description) (f : Found) : Type 0 where
  pub d : Description
  pub rest : List ℕ
  pub read : m ≡ got d rest
  pub from : at ≤ f.end.bytes
  pub run_is : running Delta f.bits f.rows.rows (f.end.bytes - at) ≡ run_of d
  pub ready : Ready s f
  pub rows_are : (signed : Bool) → i64_rows signed d ≡ delta_rows s signed f

pub record IsMeasured (s : List ℕ) (at : ℕ) (m : Parsed Description) (f : Found) : Type 0 where
  pub passed : f.number ≡ 0 → Passed s at m f
  pub refusal : (f.number ≡ 0 → ⊥) → refused_by at f.number f.field.bytes ≡ answer_of at (length s - at) m
