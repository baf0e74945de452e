-- Twice the bytes: the next kept width is at most twice as wide, no varint comes out longer, and nothing else grows. Assumes nothing.
use Rattle.format.proofs.Common.{◌≡◌, refl, ℕ, suc, ◌+◌, ◌*◌, ◌/◌, ◌%◌, ◌<◌, ◌≤◌, mul-le-mul, le_refl, arith, Bool, true, false, List, []}
use Rattle.format.proofs.Common.{◌∷◌, length, length-append, leb, ltb, leb→le, lt-ltb}
use native.Mathlib.Nat.{mul_left_comm}
use Rattle.format.specs.Fields.{pick, widths, width, least_of, bytes_for, Block, Varint, last, more, varint_value, shortest_in, shortest}
use Rattle.format.specs.Kept.{kept_codes, next_kept}
use Rattle.format.specs.Runs.{Description, short, direct, fixed, delta, patched, Valid, AllValid, layout, joined}
use Rattle.format.specs.Writing.{padded}
use Rattle.format.proofs.Rows.{bytes_count}
use Rattle.format.proofs.Widths.{all-at}
use Rattle.format.proofs.Tests.{never}
use Rattle.convert.specs.Convert.{is_odd, rewritten, converted, converted_all, result, eight}
use Rattle.convert.specs.Laws.{Gives, gives-eight, gives-result, TwiceHolds}
use Rattle.convert.proofs.Runs.{altered}
use Rattle.convert.proofs.Streams.{convert-exactly}

-- ---- widths and varints

next-twice : (code : ℕ) → code < 32 → width (next_kept code) ≤ 2 * width code
unfolding width widths least_of kept_codes next_kept
next-twice code h = leb→le _ _ (all-at 32 (λ c. leb (width (next_kept c)) (2 * width c)) tt code h)

block-twice : (n w w' : ℕ) → w' ≤ 2 * w → bytes_for (n * w') ≤ 2 * bytes_for (n * w)
block-twice n w w' h =
    let l : n * w' ≤ n * (2 * w) = mul-le-mul (le_refl n) h in
    omega (arith, l, mul_left_comm n 2 w)

-- a varint has no shorter form than the shortest
shortest_in-least : (k : ℕ) (v : List ℕ) → Varint k v → length (shortest_in k (varint_value v)) ≤ length v
unfolding shortest_in
shortest_in-least k v (last {k = j} {b = b} h) = rw (lt-ltb (b % 128 + 0) 128 (omega arith)) (omega arith)
shortest_in-least k v (more {k = j} {b = b} {bs = bs} _ _ r) = by (ltb (b % 128 + 128 * varint_value bs) 128) (shortest_in-least j bs r)
  where
    x : ℕ
    x = b % 128 + 128 * varint_value bs

    tail : x / 128 ≡ varint_value bs
    tail = omega arith

    by : (t : Bool) → length (shortest_in j (varint_value bs)) ≤ length bs → length (pick t (x ∷ []) ((x % 128 + 128) ∷ shortest_in j (x / 128))) ≤ suc (length bs)
    by true h = omega arith
    by false h = rw tail (omega arith)

shortest-least : (v : List ℕ) → Varint 10 v → length (shortest (varint_value v)) ≤ length v
unfolding shortest
shortest-least v h = shortest_in-least 10 v h

-- ---- one run

direct-twice : (signed : Bool) (code : ℕ) (k : Block) → Valid (direct code k)
    → length (layout (rewritten signed (direct code k))) ≤ 2 * length (layout (direct code k))
direct-twice signed code k v =
    rw ((altered signed).direct-run code k v, bytes_count (direct (next_kept code) (padded k.values)), bytes_count (direct code k))
    (omega (arith, block-twice (length k.values) (width code) (width (next_kept code)) (next-twice code v.head.code_fits)))

delta-twice : (signed : Bool) (code : ℕ) (first base : List ℕ) (k : Block) → Valid (delta code first base k)
    → length (layout (rewritten signed (delta code first base k))) ≤ 2 * length (layout (delta code first base k))
delta-twice signed code first base k v =
    rw (
      (altered signed).delta-run code first base k v,
      bytes_count (delta (next_kept code) (shortest (varint_value first)) (shortest (varint_value base)) (padded k.values)),
      bytes_count (delta code first base k),
    )
    (omega (
      arith,
      shortest-least first v.first-varint,
      shortest-least base v.base-varint,
      block-twice (length k.values) (width code) (width (next_kept code)) (next-twice code v.head.code_fits),
    ))

module _ (signed : Bool) where
  run-twice : (d : Description) → Valid d → length (layout (converted signed d)) ≤ 2 * length (layout d)
  unfolding converted
  run-twice d v = go (is_odd d) refl
    where
      odd : (d : Description) → Valid d → is_odd d ≡ true → length (layout (rewritten signed d)) ≤ 2 * length (layout d)
      odd (short count value) v e = never (cc)
      odd (direct code k) v e = direct-twice signed code k v
      odd (fixed rows first base) v e = never (cc)
      odd (delta code first base k) v e = delta-twice signed code first base k v
      odd (patched code base pc gw k l) v e = never (cc)

      go : (t : Bool) → is_odd d ≡ t → length (layout (pick t (rewritten signed d) d)) ≤ 2 * length (layout d)
      go true e = odd d v e
      go false e = omega arith

  -- ---- the stream

  runs-twice : (ds : List Description) → AllValid ds → length (joined (converted_all signed ds)) ≤ 2 * length (joined ds)
  unfolding joined
  runs-twice [] v = omega arith
  runs-twice (d ∷ ds) v =
      omega (
        arith,
        run-twice d v.0,
        runs-twice ds v.1,
        length-append (layout (converted signed d)) (joined (converted_all signed ds)),
        length-append (layout d) (joined ds),
      )

  of-result : {bs out : List ℕ} {places altered : ℕ} → Gives signed bs places (result altered out) → length out ≤ 2 * length bs
  of-result (gives-result ds v e l) = rw e (runs-twice ds v)

  of-eight : {bs : List ℕ} {places : ℕ} → 2 * length bs ≤ places → Gives signed bs places eight → ⊥
  of-eight h (gives-eight ds v e l) = omega (arith, runs-twice ds v, rw e at h)

pub twice_holds : TwiceHolds
twice_holds signed = record {
  run = run-twice signed;
  runs = runs-twice signed;
  stream = λ bs places altered out h e. of-result signed ((convert-exactly signed bs places (result altered out) h).0 e);
  never-8 = λ bs places h l e. of-eight signed l ((convert-exactly signed bs places eight h).0 e);
}
