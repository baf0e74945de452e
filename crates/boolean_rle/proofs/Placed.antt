-- A batch by what is there: too few values, too few places, or the values after the skipped ones; and the refusal of a cut field.
-- Assumes nothing.
use mathlib.Core.Path.{◌≡◌, refl, sym}
use Prim.Native.Nat.{ℕ, zero, suc, ◌+◌, ◌-◌, ◌<◌, ◌≤◌, max}
use native.Mathlib.Omega.{arith}
use native.Mathlib.Decide.{dec_lt}
use mathlib.Core.List.{List, [], ◌++◌, append-nil}
use Rattle.std.specs.Result.{MatchResult, IsErrAnd}
use Rattle.std.specs.Prelude.{Result, Ok, Err}
use Rattle.std.proofs.lemmas.Result.{err_from_is_err_and}
use lib.ListN.{length, take, drop}
use lib.Dec.{leb}
use borrow.Author.Tests.{lt-ltb, le-ltb, le-leb, lt-leb}
use Rattle.format.specs.Parse.{Reason, plain, cut, Parsed}
use Rattle.format.specs.Answers.{refusal, cutting}
use Rattle.format.specs.Booleans.{ByteRun, byte_run}
use Rattle.format.proofs.ByteRuns.{OnlyCut, any-got, any-cut, run_only}
use Rattle.format.proofs.Tests.{never}
use Rattle.boolean_rle.specs.declared.Cut.{Cut}
use Rattle.boolean_rle.specs.Column.{scanned, scan}
use Rattle.boolean_rle.specs.Batches.{took, missing, placed}
use Rattle.boolean_rle.specs.Found.{cut_of, Wrote}
use Rattle.boolean_rle.proofs.Batches.{seen}

-- ---- why there are no more runs: a field is cut

pub data IsCut : Reason → Type 0 where
  is_cut : {n left : ℕ} → IsCut (cut n left)

pub scan-cut : (f : ℕ) (bs : List ℕ) → IsCut (scan f bs).why
unfolding scan
scan-cut zero bs = is_cut
scan-cut (suc f) bs = go (byte_run bs) (run_only bs) (scan-cut f)
  where
    go : (m : Parsed ByteRun) → OnlyCut m → ((s : List ℕ) → IsCut (scan f s).why) → IsCut (scanned (scan f) m).why
    go m (any-got {a} {s}) again = again s
    go m any-cut again = is_cut

-- the field's byte, or the call's if that is past the end
pub cut-is : (total at : ℕ) (r : Reason) (q : Cut) → IsCut r → cut_of total r ≡ q → refusal at (total - at) r ≡ cutting q.number at (max at q.field)
cut-is total at r q (is_cut {n = k} {left}) e =
    let z : at + (total - at - left) ≡ max at (total - left) = omega arith in
    rw (← e, z)

-- ---- what is placed

module _ {P : Type 0} (k n l : ℕ) (vs : List ℕ) (q : P) (why : Reason) where
  pub placed-short : length vs < k + n → placed l n (seen k n vs q why) ≡ missing why
  placed-short h = rw (lt-leb (k + n) (length vs) h)

  pub placed-8 : k + n ≤ length vs → l < n → placed l n (seen k n vs q why) ≡ missing (plain 8)
  placed-8 h g = rw (le-leb (k + n) (length vs) h, lt-ltb l n g)

  pub placed-all : k + n ≤ length vs → n ≤ l → placed l n (seen k n vs q why) ≡ took (take n (drop k vs)) q
  placed-all h g = rw (le-leb (k + n) (length vs) h, le-ltb l n g)

-- what was laid into the first places
pub laid : (n : ℕ) (vs out out' : List ℕ) → Wrote 0 n vs out out' → out' ≡ take n vs ++ drop n out
laid n vs out out' w = w vs out [] (sym (append-nil vs)) refl

-- as many are left after k of l as after k' of l', so x more are there in both or in neither
pub leb-shift : (k l k' l' x : ℕ) → k ≤ l → k' ≤ l' → l - k ≡ l' - k' → leb (k + x) l ≡ leb (k' + x) l'
leb-shift k l k' l' x h h' e = by (dec_lt l (k + x))
  where
    by : Dec (l < k + x) → leb (k + x) l ≡ leb (k' + x) l'
    by (yes t) = rw (lt-leb (k + x) l t, lt-leb (k' + x) l' (omega arith))
    by (no t) = rw (le-leb (k + x) l (omega arith), le-leb (k' + x) l' (omega arith))

-- what a call answers, by what `map_err` gave: s is the call's answer, m that of `map_err`
pub was-err : {A E D : Type 0} {s e : Result A E} {m : Result A D} (Q : E → D → Type 0) {r : D}
    → s ≡ e → MatchResult s (λ x. m ≡ Ok x) (λ f. IsErrAnd m (Q f)) → m ≡ Err r → (f : E) × (e ≡ Err f) × Q f r
was-err {s = Ok x} Q h w g = never (cc)
was-err {s = Err f} {m = Ok y} Q h w g = never (cc)
was-err {s = Err f} {m = Err z} Q {r} h w g =
    let y : z ≡ r = cc in
    (f, sym h, rw y at w)

pub was-ok : {A E D : Type 0} {s e : Result A E} {m : Result A D} (Q : E → D → Type 0) {x : A}
    → s ≡ e → MatchResult s (λ y. m ≡ Ok y) (λ f. IsErrAnd m (Q f)) → m ≡ Ok x → e ≡ Ok x
was-ok {s = Ok y} Q h w g = cc
was-ok {s = Err f} {m} Q h w g =
    let (z, k, q) = err_from_is_err_and {Q = Q f} m w in
    never (cc)
