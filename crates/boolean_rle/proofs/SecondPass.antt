-- The second pass: what is laid down and what is still ahead are together the column's values, run by run; so a call gives the booleans.
-- Assumes nothing.
use mathlib.Core.Path.{◌≡◌, refl, sym, ap, ◌∙◌}
use Prim.Native.Nat.{ℕ, zero, suc, ◌+◌, ◌-◌, ◌*◌, ◌<◌, ◌≤◌, min, max}
use native.Mathlib.Omega.{arith}
use native.Mathlib.Nat.{sub-zero, le_refl}
use mathlib.Core.List.{List, [], ◌∷◌, ◌++◌, append-nil}
use Rattle.std.specs.Prelude.{Ok, Err}
use lib.ListN.{length, take, drop, length-drop, length-append}
use lib.Seq.{drop-drop, drop_at, drop-nil, take-append-le}
use borrow.Author.Tests.{lt-ltb, le-ltb}
use Rattle.format.specs.Fields.{bytes_for}
use Rattle.format.specs.Parse.{Parsed, end, got, refused, plain, cut}
use Rattle.format.specs.Answers.{ran, refused_at, cut_at}
use Rattle.format.specs.declared.Kind.TheVariants.{Booleans}
use Rattle.format.specs.Booleans.{ByteRun, run_bytes, joined_runs, joined_bytes, bits, booleans_of, byte_run, booleans, booleans_into, BooleansRead}
use Rattle.format.proofs.Digits.{spread-append}
use Rattle.format.proofs.ByteRuns.{OnlyCut, runs-only}
use Rattle.format.proofs.Booleans.{length_run, length-bits}
use Rattle.format.proofs.Tests.{never}
use Rattle.boolean_rle.specs.declared.ByteRun as code
use Rattle.boolean_rle.specs.declared.Cut.{Cut}
use Rattle.boolean_rle.specs.Column.{whole_runs, column}
use Rattle.boolean_rle.specs.Found.{cut_of, found_in, span_of, Wrote}
use Rattle.boolean_rle.proofs.FirstPass.{Here}
use Rattle.boolean_rle.proofs.RunBytes.{wrote-more, wrote_on}
use Rattle.boolean_rle.proofs.Column.{none_found, all-got, joined-append, reads, of-enough}

-- ---- the second pass: the column's values from a place on, run by run

drop-append : (n : ℕ) (a b : List ℕ) → drop n (a ++ b) ≡ drop n a ++ drop (n - length a) b
drop-append n [] b = rw (drop-nil n, sub-zero)
drop-append zero (x ∷ a) b =
    let z : 0 - length (x ∷ a) ≡ 0 = omega arith in
    rw z
drop-append (suc n) (x ∷ a) b =
    let z : suc n - suc (length a) ≡ n - length a = omega arith in
    rw z (drop-append n a b)

-- the column begins with the run that was found
pub column-here : (s : List ℕ) (p : ℕ) (e : code.ByteRun) (d : ByteRun) → Here s p e d
    → column (drop p s) ≡ run_bytes d ++ column (drop (p + e.size) s)
unfolding column joined_bytes
column-here s p e d h = rw (all-got (drop p s) d (drop (p + e.size) s) h.is-run)

-- if no run is found, the column is empty
pub column-none : (total : ℕ) (bs : List ℕ) (q : Cut) → found_in total (byte_run bs) ≡ Err q → column bs ≡ []
unfolding column joined_bytes
column-none total bs q f =
    let (why, e, g) = none_found total bs q f in
    rw e

-- a pass that goes on stays in the places
pub between : (k n done more done' : ℕ) → k ≤ done → done ≤ n → done' ≡ min n (done + more) → (k ≤ done') × (done' ≤ n)
between k n done more done' h l e = (omega arith, omega arith)

pub up_to : (n done room count : ℕ) → done ≤ n → count ≡ min (n - done) room → done + count ≡ min n (done + room)
up_to n done room count h e = omega arith

-- What the second pass knows at a place, with the values ys laid into the places from k up to `done`: those that are left stand in the
-- column after `left` bytes. A byte stands for some values: for itself, or for its bits.
pub record Laid (values : List ℕ → List ℕ) (s ys : List ℕ) (k n : ℕ) (out₀ : List ℕ) (place left done : ℕ) (out : List ℕ) : Type 0 where
  pub wrote : Wrote k done ys out₀ out
  pub ahead : done < n → drop (done - k) ys ≡ values (drop left (column (drop place s)))
  pub room : n - done ≤ length (values (drop left (column (drop place s))))

module _ (values : List ℕ → List ℕ) (join : (a b : List ℕ) → values (a ++ b) ≡ values a ++ values b) (s : List ℕ) where
  pub laid_from : (at skip k n : ℕ) (out : List ℕ) → n - k ≤ length (values (drop skip (column (drop at s))))
      → Laid values s (values (drop skip (column (drop at s)))) k n out at skip k out
  laid_from at skip k n out h =
      let z : k - k ≡ 0 = omega arith in
      record { wrote = λ all d more e o. o; ahead = λ l. rw z; room = h }

  -- a turn: the run at the place is laid down
  pub laid_on : (ys : List ℕ) (k n : ℕ) (out₀ : List ℕ) (place left done : ℕ) (out out' : List ℕ) (done' : ℕ) (e : code.ByteRun)
      (d : ByteRun) → Here s place e d
      → done < n → k ≤ done → done' ≡ min n (done + length (values (drop left (run_bytes d))))
      → Wrote done done' (values (drop left (run_bytes d))) out out'
      → Laid values s ys k n out₀ place left done out → Laid values s ys k n out₀ (place + e.size) (left - e.count) done' out'
  laid_on ys k n out₀ place left done out out' done' e d h l o z w g =
      let here = values (drop left (run_bytes d)) in
      let rest = values (drop (left - e.count) (column (drop (place + e.size) s))) in
      let a : values (drop left (column (drop place s))) ≡ here ++ rest =
      rw (column-here s place e d h, drop-append left (run_bytes d) (column (drop (place + e.size) s)), length_run d, h.count-is)
      (join (drop left (run_bytes d)) (drop (left - e.count) (column (drop (place + e.size) s)))) in
      let b : drop (done - k) ys ≡ here ++ rest = g.ahead l ∙ a in
      let i : length ys - (done - k) ≡ length here + length rest = sym (length-drop (done - k) ys) ∙ ap length b
      ∙ length-append here rest in
      let j : n - done ≤ length here + length rest = omega (arith, g.room, ap length a, length-append here rest) in
      record {
        wrote = wrote_on k done done' ys (here ++ rest) out₀ out out' o (omega arith) b g.wrote
            (wrote-more done done' here rest out out' w);
        ahead = λ u.
            let y : done' - k ≡ done - k + length here = omega arith in
            ap (λ (x : ℕ). drop x ys) y ∙ sym (drop-drop (length here) (done - k) ys) ∙ ap (λ (x : List ℕ). drop (length here) x) b
            ∙ drop_at here rest (length here) refl;
        room = omega arith;
      }

  -- no run is missing that is still wanted
  pub laid-whole : values [] ≡ [] → (ys : List ℕ) (k n : ℕ) (out₀ : List ℕ) (place left done : ℕ) (out : List ℕ) (q : Cut) → done < n
      → found_in (length s) (byte_run (drop place s)) ≡ Err q → Laid values s ys k n out₀ place left done out → ⊥
  laid-whole none ys k n out₀ place left done out q l f g =
      let z : length (values (drop left (column (drop place s)))) ≡ 0 = rw
      (column-none (length s) (drop place s) q f, drop-nil left, none) in
      omega (arith, g.room)

-- ---- what the call gives, by what the first pass finds

module _ (input : List ℕ) (at n : ℕ) (out : List ℕ) where
  -- the field's byte, or the call's position where that is past the end
  pub reads-cut : (q : Cut) → span_of (length input) (booleans n (drop at input)) ≡ Err q
      → BooleansRead input at n out out (cut_at q.number at (max at q.field))
  unfolding booleans_into booleans
  reads-cut q e = go (booleans n (drop at input)) refl (runs-only (length (drop at input)) (bytes_for n) (drop at input)) e
    where
      go : (m : Parsed (List ByteRun)) → booleans n (drop at input) ≡ m → OnlyCut m → span_of (length input) m ≡ Err q
          → BooleansRead input at n out out (cut_at q.number at (max at q.field))
      go end f o e = elim o [ ]
      go (got ds rest) f o e = never (cc)
      go (refused (plain n)) f o e = elim o [ ]
      go (refused (cut k left)) f o e =
          let z : max at (length input - left) ≡ at + (length input - at - left) = omega arith in
          let i : cut_of (length input) (cut k left) ≡ q = cc in
          record { answer = rw (f, ← i, z); places = rw f }

  module _ (k : ℕ) (e : span_of (length input) (booleans n (drop at input)) ≡ Ok k) where
    -- the runs that were found
    whole : (ds : List ByteRun) × ((rest : List ℕ) × (booleans n (drop at input) ≡ got ds rest) × (length (joined_runs ds) ≡ k))
    whole = go (booleans n (drop at input)) refl e
      where
        go : (m : Parsed (List ByteRun)) → booleans n (drop at input) ≡ m → span_of (length input) m ≡ Ok k
            → (ds : List ByteRun) × ((rest : List ℕ) × (booleans n (drop at input) ≡ got ds rest) × (length (joined_runs ds) ≡ k))
        go end f e = never (cc)
        go (got ds rest) f e = (ds, (rest, f, cc))
        go (refused r) f e = never (cc)

    pub reads-8 : length out < n → BooleansRead input at n out out (refused_at 8 at)
    unfolding booleans_into
    reads-8 h =
        let (ds, (rest, f, l)) = whole in
        record { answer = rw (f, lt-ltb (length out) n h); places = rw (f, lt-ltb (length out) n h) }

    -- the column has n booleans
    pub reads-room : n ≤ 8 * length (column (drop at input))
    unfolding column booleans
    reads-room =
        let (ds, (rest, f, l)) = whole in
        let (e, h) = of-enough (rw f at (reads (length (drop at input)) (bytes_for n) (drop at input) (le_refl _))) in
        omega (
          arith,
          ap (λ (x : List ByteRun). length (joined_bytes x)) e,
          ap length (joined-append ds (whole_runs rest).runs),
          length-append
              (joined_bytes ds) (joined_bytes (whole_runs rest).runs),
        )

    pub reads_all : (out' : List ℕ) → n ≤ length out → Wrote 0 n (bits (column (drop at input))) out out'
        → BooleansRead input at n out out' (ran Booleans 1 n k)
    unfolding booleans_into booleans_of booleans column
    reads_all out' h w =
        let (ds, (rest, f, l)) = whole in
        let (e, m) = of-enough (rw f at (reads (length (drop at input)) (bytes_for n) (drop at input) (le_refl _))) in
        let es = (whole_runs rest).runs in
        let c : column (drop at input) ≡ joined_bytes ds ++ joined_bytes es = ap joined_bytes e ∙ joined-append ds es in
        let b : bits (column (drop at input)) ≡ bits (joined_bytes ds) ++ bits (joined_bytes es) = ap bits c ∙ spread-append 2 8
        (joined_bytes ds) (joined_bytes es) in
        let t : take n (bits (column (drop at input))) ≡ take n (bits (joined_bytes ds)) =
        ap (take n) b ∙ take-append-le n (bits (joined_bytes ds)) (bits (joined_bytes es)) (rw length-bits (omega arith)) in
        let o : out' ≡ take n (bits (joined_bytes ds)) ++ drop n out =
        w (bits (column (drop at input))) out [] (sym (append-nil _)) refl ∙ ap (λ (x : List ℕ). x ++ drop n out) t in
        record { answer = rw (f, le-ltb (length out) n h, l); places = rw (f, le-ltb (length out) n h) o }
