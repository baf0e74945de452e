-- What a turn of the conversion finds at its byte, and what that is converted to:
-- the run's first byte says its form and whether its width is odd. Assumes nothing.
use Rattle.std.specs.Prelude.{Some, None, Ok, Err}
use Rattle.format.proofs.Common.{◌≡◌, refl, sym, ap, ◌∙◌, ℕ, ◌+◌, ◌-◌, ◌*◌, ◌/◌, ◌%◌, ◌≤◌, arith, Bool, true, false, List, [], ◌++◌, map, ℤ}
use Rattle.format.proofs.Common.{length, get_or, take, drop, take_at, get_or-drop, lt-ltb, le-ltb}
use Rattle.format.specs.declared.ByteOffset.{ByteOffset}
use Rattle.format.specs.declared.Run.{Run}
use Rattle.format.specs.Digits.{AllBelow}
use Rattle.format.specs.Kept.{kept_codes, among, is_kept, next_kept}
use Rattle.format.specs.Runs.{Description, short, direct, fixed, delta, patched, Valid, layout, row_count, head₀}
use Rattle.format.specs.Rows.{as_u64, i64_rows}
use Rattle.format.specs.Parse.{Parsed, got, parse, into}
use Rattle.format.specs.Promises.{answer_of, RunRead}
use Rattle.format.specs.Answers.{Answer, answer_bytes}
use Rattle.format.specs.Writing.{writing, Written}
use Rattle.format.proofs.Below.{below-drop}
use Rattle.format.proofs.Rows.{byte-bounds, i64-count}
use Rattle.format.proofs.Tests.{never}
use Rattle.format.proofs.RunComplete.{head-back}
use Rattle.format.proofs.RunAt.{RunAt, StandsAt, stands_at, in-places}
use Rattle.convert.specs.Convert.{is_odd, converted}
use Rattle.convert.specs.Turn.{odd_first, form_first, Turned, NoRun}
use Rattle.convert.proofs.Runs.{runs-hold, altered-written}

-- ---- the first byte says whether the width is odd

pub odd-first : (d : Description) (rest : List ℕ) → Valid d → odd_first (get_or (layout d ++ rest) 0 0) ≡ is_odd d
unfolding layout odd_first is_kept among kept_codes
odd-first (short count value) rest v =
    let e : ((length value - 1) * 8 + (count - 3)) / 64 % 2 ≡ 0 = omega (arith, v.many, v.eight) in
    rw e
odd-first (direct code k) rest v = let h = head-back 1 code (length k.values) v.head in rw (h.is-kind, h.code-half)
odd-first (fixed rows first base) rest v = let h = head-back 3 0 rows v.head in rw (h.is-kind, h.code-half)
odd-first (delta code first base k) rest v = let h = head-back 3 code (length k.values + 2) v.head in rw (h.is-kind, h.code-half)
odd-first (patched code base pc gw k l) rest v = rw (head-back 2 code (length k.values) v.head).is-kind

-- ---- the writer takes the rows of a run of an odd width, and writes what it is converted to: by the run's first byte, in room for any run

pub written-again : (signed : Bool) (d : Description) (rest : List ℕ) → Valid d → is_odd d ≡ true
    → writing signed (form_first (get_or (layout d ++ rest) 0 0)) (next_kept (get_or (layout d ++ rest) 0 0 / 2 % 32)) (map as_u64 (i64_rows signed d)) 4356
    ≡ got (converted signed d) []
unfolding layout form_first
written-again signed d rest v o = by d rest v o (byte-bounds (converted signed d) (runs-hold signed d v).valid)
  where
    by : (d : Description) (rest : List ℕ) → Valid d → is_odd d ≡ true → length (layout (converted signed d)) ≤ 4356
        → writing signed (form_first (get_or (layout d ++ rest) 0 0)) (next_kept (get_or (layout d ++ rest) 0 0 / 2 % 32)) (map as_u64 (i64_rows signed d)) 4356
        ≡ got (converted signed d) []
    by (short count value) rest v o l = never (cc)
    by (direct code k) rest v o l =
        let h = head-back 1 code (length k.values) v.head in
        rw (h.code-half, lt-ltb (head₀ 1 code (length k.values)) 128 (omega (arith, h.is-kind))) ((altered-written signed 4356).direct-run code k v o l)
    by (fixed rows first base) rest v o l = never (cc)
    by (delta code first base k) rest v o l =
        let n = length k.values + 2 in
        rw ((head-back 3 code n v.head).code-half, le-ltb (head₀ 3 code n) 128 (omega arith)) ((altered-written signed 4356).delta-run code first base k v o l)
    by (patched code base pc gw k l') rest v o l = never (cc)

-- ---- what the run reader found, in room for any run: the run at the byte (`RunAt` of format), with its rows

module _ (signed : Bool) (s : List ℕ) (p : ℕ) where
  abbrev read : Parsed Description
  read = into 512 (parse (drop p s))

  pub record One (rows : List ℤ) (r : Run) : Type 0 where
    pub at : RunAt s p read r
    pub rows_are : take r.rows.rows rows ≡ i64_rows signed at.run

  abbrev pub Found : List ℤ → Answer → Type 0
  Found rows (Ok None) = drop p s ≡ []
  Found rows (Ok (Some r)) = One rows r
  Found rows (Err f) = NoRun signed s p f

  pub found : (rows rows' : List ℤ) (a : Answer) → AllBelow 256 s → length rows ≡ 512 → RunRead s p signed rows rows' a → Found rows' a
  found rows rows' a h l g = by a (stands_at s p read a (in-places 512 (drop p s) (below-drop 256 p s h)) (rw l at g.answer))
    where
      by : (a : Answer) → StandsAt s p read a → Found rows' a
      by (Ok None) z = z
      by (Ok (Some r)) o =
          let e : rows' ≡ i64_rows signed o.run ++ drop (row_count o.run) rows = rw (l, o.read) at g.places in
          record { at = o; rows_are = rw e (take_at (i64_rows signed o.run) _ r.rows.rows (i64-count signed o.run ∙ sym o.rows_are)) }
      by (Err f) q = record { reason = q.reason; read = q.read; refusal_is = q.refusal_is }

-- ---- the two ways of a run. Its first byte is the one at the place.

module _ {signed : Bool} {s : List ℕ} {p : ℕ} {rows : List ℤ} {r : Run} (o : One signed s p rows r) where
  abbrev n : ℕ
  n = r.consumed.bytes

  first-is : get_or s p 0 ≡ get_or (layout o.at.run ++ drop (p + n) s) 0 0
  first-is = sym (ap (λ (l : List ℕ). get_or l 0 0) (sym o.at.split) ∙ get_or-drop p s 0 0 ∙ ap (λ (k : ℕ). get_or s k 0) (omega arith))

  is_odd_lem : odd_first (get_or s p 0) ≡ is_odd o.at.run
  is_odd_lem = rw first-is (odd-first o.at.run (drop (p + n) s) o.at.valid)

  turned : {run' : List ℕ} {given : ByteOffset} {odd : Bool} → odd ≡ is_odd o.at.run → given.bytes ≡ length (layout (converted signed o.at.run))
      → given.bytes ≤ 4356 → take given.bytes run' ≡ layout (converted signed o.at.run)
      → Turned signed s p run' (record { taken = r.consumed; given = given; odd = odd })
  turned t g l b = record {
    which = o.at.run;
    valid = o.at.valid;
    split = o.at.split;
    within = o.at.within;
    taken_is = o.at.bytes-are;
    odd_is = t;
    given_is = g;
    small = l;
    bytes = b;
  }

  pub turned-odd : {run run' : List ℕ} {a : Answer} {given : ByteOffset} → given.bytes ≡ answer_bytes a → length run ≡ 4356 → odd_first (get_or s p 0) ≡ true
      → Written (take r.rows.rows rows) signed (form_first (get_or s p 0)) (next_kept (get_or s p 0 / 2 % 32)) run run' a
      → Turned signed s p run' (record { taken = r.consumed; given = given; odd = true })
  turned-odd {run} {run'} {a} {given} g l t w =
      let d = o.at.run in
      let c : Description = converted signed d in
      let e : writing signed (form_first (get_or s p 0)) (next_kept (get_or s p 0 / 2 % 32)) (map as_u64 (take r.rows.rows rows)) (length run) ≡ got c [] =
      rw (first-is, o.rows_are, l) (written-again signed d (drop (p + n) s) o.at.valid (sym is_odd_lem ∙ t)) in
      let q : a ≡ answer_of 0 0 (got c []) = w.answer ∙ rw e in
      let b : run' ≡ layout c ++ drop (length (layout c)) run = w.places ∙ rw e in
      turned (sym t ∙ is_odd_lem) (rw (g, q)) (rw (g, q) (byte-bounds c (runs-hold signed d o.at.valid).valid))
      (rw (g, q, b) (take_at (layout c) (drop (length (layout c)) run) (length (layout c)) refl))

  pub turned-even : (run : List ℕ) {run' : List ℕ} → odd_first (get_or s p 0) ≡ false → run' ≡ take n (drop p s) ++ drop n run
      → Turned signed s p run' (record { taken = r.consumed; given = r.consumed; odd = false })
  turned-even run {run'} t b =
      let d = o.at.run in
      let c : converted signed d ≡ d = (runs-hold signed d o.at.valid).copied (sym is_odd_lem ∙ t) in
      let k : take n (drop p s) ≡ layout d = rw o.at.split (take_at (layout d) (drop (p + n) s) n (sym o.at.bytes-are)) in
      turned (sym t ∙ is_odd_lem) (rw c o.at.bytes-are) (omega (arith, o.at.bytes-are, byte-bounds d o.at.valid))
      (rw (c, b, k) (take_at (layout d) (drop n run) n (sym o.at.bytes-are)))
