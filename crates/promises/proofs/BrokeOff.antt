-- The numbers of a cut field leave what was accepted alone: from demand 2 and the table of numbers. Assumes nothing.
use Rattle.format.proofs.Common.{◌≡◌, refl, ◌≢◌, ℕ, ◌+◌, ◌<◌, ◌≤◌, dec_lt, arith, List, length, drop}
use Rattle.promises.specs.OneRunExactly.{OneRunExactly}
use Rattle.promises.specs.Refusals
use Rattle.promises.specs.Refusals.{Table, refusal-1, refusal-2, refusal-3, refusal-4, refusal-5, refusal-7, refusal-8, CutLine}
use Rattle.promises.specs.Refusals.{CutNumber, six, twelve, thirteen, fourteen, Answers, base_bytes, list_from}
use Rattle.promises.specs.BrokeOff.{Ended, in-value, in-direct, in-first-row, in-base-delta, in-magnitudes, in-patched, BrokeOffHolds}
use Rattle.promises.proofs.OneRunExactly.{one-run-exactly}
use Rattle.promises.proofs.Refusals.{answers, field-pos}

ended : (bs : List ℕ) (n field : ℕ) → CutLine bs n field → Ended bs
ended bs n field (Refusals.in-value h l) = in-value h l
ended bs n field (Refusals.in-base r l) = in-patched r (omega arith)
ended bs n field (Refusals.in-first-row r t) = in-first-row r t
ended bs n field (Refusals.in-base-delta v rest r e h t) = in-base-delta v rest r e h t
ended bs n field (Refusals.in_rows h l) = in-direct h l
ended bs n field (Refusals.in-magnitudes v w rest r e h g l) = in-magnitudes v w rest r e h g l
ended bs n field (Refusals.in-values r m l) = in-patched r (omega arith)
ended bs n field (Refusals.in_list r m l) = in-patched r l

somewhere : (bs : List ℕ) → Ended bs → (n field : ℕ) × CutLine bs n field
somewhere bs (in-value h l) = (_, _, Refusals.in-value h l)
somewhere bs (in-direct h l) = (_, _, Refusals.in_rows h l)
somewhere bs (in-first-row r t) = (_, _, Refusals.in-first-row r t)
somewhere bs (in-base-delta v rest r e h t) = (_, _, Refusals.in-base-delta v rest r e h t)
somewhere bs (in-magnitudes v w rest r e h g l) = (_, _, Refusals.in-magnitudes v w rest r e h g l)
somewhere bs (in-patched r l) = go (dec_lt (length bs) (4 + base_bytes bs)) (dec_lt (length bs) (list_from bs))
  where
    go : Dec (length bs < 4 + base_bytes bs) → Dec (length bs < list_from bs) → (n field : ℕ) × CutLine bs n field
    go (yes x) y = (_, _, Refusals.in-base r x)
    go (no x) (yes y) = (_, _, Refusals.in-values r (omega arith) y)
    go (no x) (no y) = (_, _, Refusals.in_list r (omega arith) l)

-- no number of the table's other lines is one of a cut field
pub others : (places : ℕ) (bs : List ℕ) {n : ℕ} → Table places bs n → (n ≤ 8) × (n ≢ 6)
others places bs (refusal-1 l) = (omega arith, λ e. omega arith)
others places bs (refusal-2 l) = (omega arith, λ e. omega arith)
others places bs (refusal-3 l) = (omega arith, λ e. omega arith)
others places bs (refusal-4 l) = (omega arith, λ e. omega arith)
others places bs (refusal-5 l) = (omega arith, λ e. omega arith)
others places bs (refusal-7 l) = (omega arith, λ e. omega arith)
others places bs (refusal-8 l) = (omega arith, λ e. omega arith)

pub cut-numbers : {n : ℕ} → CutNumber n → n ≤ 8 → n ≡ 6
cut-numbers six l = refl
cut-numbers twelve l = absurd (omega arith)
cut-numbers thirteen l = absurd (omega arith)
cut-numbers fourteen l = absurd (omega arith)

pub broke-off : BrokeOffHolds
broke-off input h at signed out out' r p =
    let d : OneRunExactly (drop at input) signed out out' r = one-run-exactly input h at signed out out' r p in
    let a : Answers (drop at input) at (length out) r = answers input h at signed out out' r p in
    record {
      accepted = d.exactly;
      same = λ x b l. (d.counts x b l, d.rows x b l);
      input-ends = (
        λ (n, byte, e). let (field, l, _) = (a.fields n byte).0 e in ended (drop at input) n field l,
        λ e. let (n, field, l) = somewhere (drop at input) e in (n, at + field, (a.fields n (at + field)).1 (field, l, refl)),
      );
      with_byte = λ n byte e. let (field, l, _) = (a.fields n byte).0 e in (field-pos (drop at input) l).1;
      without = λ n e c. let (l, ne) = others (length out) (drop at input) ((a.numbers n).0 e) in ne (cut-numbers c l);
    }
