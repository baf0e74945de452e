-- What a turn of the varint reader does to the definition's answer, and what a caller learns from the answer.
-- Assumes nothing.
use Rattle.format.proofs.Common.{◌≡◌, refl, sym, ◌∙◌, ap, ℕ, zero, suc, ◌+◌, ◌-◌, ◌*◌, ◌%◌, ◌^◌, ◌<◌, ◌≤◌, Bool, true, false, List, [], ◌∷◌}
use Rattle.format.proofs.Common.{leb, ltb, arith, mul_assoc, add_assoc, mod-add-mod, add-mod-mod, mod-eq_of_lt, one-mul, zero-add, add-one}
use Rattle.format.proofs.Common.{pow-add, length, drop, get_or, drop_of_length-le, length-drop, length-append, drop-cons, drop-drop, drop_at}
use Rattle.format.proofs.Common.{lt-ltb, le-ltb, lt-leb, le-leb}
use Rattle.std.proofs.Common.{mul_comm, mul-add}
use Rattle.format.specs.Digits.{AllBelow}
use Rattle.format.specs.Fields.{pick, last_below, Varint, varint_value}
use Rattle.format.specs.Parse.{Reason, Parsed, end, got, refused, plain, cut, cut_in, then, unless, varint}
use Rattle.format.proofs.Posts.{Post, at-got, at-refused, Took}
use Rattle.format.proofs.Fields.{varint-sound}
use Rattle.format.proofs.Below.{below_all, below-drop}
use Rattle.format.proofs.Varints.{varint-length, varint-lt}
use Rattle.format.proofs.Tests.{never}
use Rattle.util.specs.declared.varint.Varint as Answer
use Rattle.util.specs.declared.varint.VarintError.{VarintError}
use Rattle.util.specs.declared.varint.VarintError.TheVariants.{Cut, TooLong}
use Rattle.std.specs.Prelude.{Result, Ok, Err}
use Rattle.util.specs.Varint.{told, varint_at}

-- v is the value of the groups that came before, p the next group's weight and i the place: what is told then
abbrev pub told_from : ℕ → ℕ → ℕ → Parsed (List ℕ) → Result Answer.Varint VarintError
told_from i v p (got u rest) = Ok (record { bits = (v + p * varint_value u) % 2 ^ 64; next = i + length u })
told_from i v p (refused (plain n)) = Err TooLong
told_from i v p (refused (cut n left)) = Err Cut
told_from i v p end = Err Cut

-- the sum is taken modulo 2^64, and a varint's number is below it
pub told-from : (r : Reason) (i : ℕ) (bs : List ℕ) → AllBelow 256 bs → told i (varint r 10 bs) ≡ told_from i 0 1 (varint r 10 bs)
told-from r i bs h = by (varint-sound r 10 bs h)
  where
    by : {m : Parsed (List ℕ)} → Post (Took bs (λ v. v) (Varint 10)) m → told i m ≡ told_from i 0 1 m
    by (at-got {a = v} t) = rw (one-mul, zero-add, mod-eq_of_lt (varint-lt v t.ok))
    by (at-refused {r = plain n}) = refl
    by (at-refused {r = cut n left}) = refl

-- a group goes from what is to come into what came before
shift : (i v p b : ℕ) (m : Parsed (List ℕ)) → told_from i v p (then m λ u rest. got (b ∷ u) rest) ≡ told_from (i + 1) ((v + p * (b % 128)) % 2 ^ 64) (p * 128) m
shift i v p b (got u rest) =
    let e : (v + p * (b % 128 + 128 * varint_value u)) % 2 ^ 64 ≡ ((v + p * (b % 128)) % 2 ^ 64 + p * 128 * varint_value u) % 2 ^ 64 =
    rw (mod-add-mod, mul-add, ← mul_assoc, ← add_assoc) in
    let f : i + suc (length u) ≡ i + 1 + length u = omega arith in
    rw (e, f)
shift i v p b (refused (plain n)) = refl
shift i v p b (refused (cut n left)) = refl
shift i v p b end = refl

module _ (s : List ℕ) (i v p k left : ℕ) (h : k < 10) where
  pub at-end : length s ≤ i → told_from i v p (varint (cut 12 left) (10 - k) (drop i s)) ≡ Err Cut
  unfolding varint
  at-end l =
      let e : 10 - k ≡ suc (10 - (k + 1)) = omega arith in
      rw (e, drop_of_length-le s l)

  pub at_last : i < length s → get_or s i 0 < 128 → get_or s i 0 < last_below (10 - (k + 1))
      → told_from i v p (varint (cut 12 left) (10 - k) (drop i s)) ≡ Ok (record { bits = (v + p * (get_or s i 0 % 128)) % 2 ^ 64; next = i + 1 })
  unfolding varint
  at_last l b c =
      let e : 10 - k ≡ suc (10 - (k + 1)) = omega arith in
      let z : get_or s i 0 % 128 + 128 * 0 ≡ get_or s i 0 % 128 = omega arith in
      rw (e, drop-cons s i 0 l, lt-ltb (get_or s i 0) 128 b, lt-leb (last_below (10 - (k + 1))) (get_or s i 0) c, z)

  pub at_long : i < length s → get_or s i 0 < 128 → last_below (10 - (k + 1)) ≤ get_or s i 0 → told_from i v p (varint (cut 12 left) (10 - k) (drop i s)) ≡ Err TooLong
  unfolding varint
  at_long l b c =
      let e : 10 - k ≡ suc (10 - (k + 1)) = omega arith in
      rw (e, drop-cons s i 0 l, lt-ltb (get_or s i 0) 128 b, le-leb (last_below (10 - (k + 1))) (get_or s i 0) c)

  pub at_next : i < length s → 128 ≤ get_or s i 0
      → told_from i v p (varint (cut 12 left) (10 - k) (drop i s))
      ≡ told_from (i + 1) ((v + p * (get_or s i 0 % 128)) % 2 ^ 64) (p * 128) (varint (cut 12 left) (10 - (k + 1)) (drop (i + 1) s))
  unfolding varint
  at_next l b =
      let e : 10 - k ≡ suc (10 - (k + 1)) = omega arith in
      rw (e, drop-cons s i 0 l, ← add-one i)
      (simp (le-ltb (get_or s i 0) 128 b) (shift i v p (get_or s i 0) (varint (cut 12 left) (10 - (k + 1)) (drop (i + 1) s))))

-- the code's sum is the definition's
pub sum_is : (v g k : ℕ) → (v + g * 2 ^ (7 * k) % 2 ^ 64) % 2 ^ 64 ≡ (v + 2 ^ (7 * k) * g) % 2 ^ 64
sum_is v g k = rw (add-mod-mod, mul_comm)

pub weight : (k : ℕ) → 2 ^ (7 * (k + 1)) ≡ 2 ^ (7 * k) * 128
weight k =
    let e : 7 * (k + 1) ≡ 7 * k + 7 = omega arith in
    rw (e, pow-add)

-- ---- what a caller learns from the answer

-- a varint stands at a place, with the bits as its value, and ends at the next place
pub record Stood (s : List ℕ) (at bits next : ℕ) : Type 0 where
  pub bytes : List ℕ
  pub ok : Varint 10 bytes
  pub value : varint_value bytes ≡ bits
  pub end : next ≡ at + length bytes
  pub within : next ≤ length s
  pub parsed : varint (cut_in 12 (drop at s)) 10 (drop at s) ≡ got bytes (drop next s)

-- it is refused where the input ends, or with 5
data Refuses (r : Reason) : Parsed (List ℕ) → Type 0 where
  stands : {v rest : List ℕ} → Refuses r (got v rest)
  ends : Refuses r (refused r)
  too_long : Refuses r (refused (plain 5))

refuses : (r : Reason) (k : ℕ) (bs : List ℕ) → Refuses r (varint r k bs)
unfolding varint
refuses r zero bs = too_long
refuses r (suc k) [] = ends
refuses r (suc k) (b ∷ bs) = by (ltb b 128) (leb (last_below k) b) (refuses r k bs)
  where
    by : {m : Parsed (List ℕ)} (t o : Bool) → Refuses r m → Refuses r (pick t (unless o 5 (got (b ∷ []) bs)) (then m λ v rest. got (b ∷ v) rest))
    by true true u = too_long
    by true false u = stands
    by false o stands = stands
    by false o ends = ends
    by false o too_long = too_long

module _ (s : List ℕ) (at : ℕ) (below : (i : ℕ) → get_or s i 0 < 256) where
  abbrev Here : Parsed (List ℕ) → Type 0
  Here = Post (Took (drop at s) (λ v. v) (Varint 10))

  here : Here (varint (cut_in 12 (drop at s)) 10 (drop at s))
  here = varint-sound (cut_in 12 (drop at s)) 10 (drop at s) (below-drop 256 at s (below_all 256 s below))

  pub value-is : (bits next : ℕ) → varint_at s at ≡ Ok (record { bits = bits; next = next }) → Stood s at bits next
  unfolding varint_at
  value-is bits next q = by here refl q
    where
      by : {m : Parsed (List ℕ)} → Here m → varint (cut_in 12 (drop at s)) 10 (drop at s) ≡ m → told at m ≡ Ok (record { bits = bits; next = next }) → Stood s at bits next
      by (at-got {a = v} {s = rest} t) e q =
          let r : ◌≡◌ {A = Answer.Varint} (record { bits = varint_value v; next = at + length v }) (record { bits = bits; next = next }) = cc in
          let n : at + length v ≡ next = ap (λ (y : Answer.Varint). y.next) r in
          let b : varint_value v ≡ bits = ap (λ (y : Answer.Varint). y.bits) r in
          let l : length s - at ≡ length v + length rest = rw (← (length-drop at s), t.split) (length-append v rest) in
          let d : rest ≡ drop next s = sym (rw (← n, ← (drop-drop (length v) at s), t.split) (drop_at v rest (length v) refl)) in
          record {
            bytes = v;
            ok = t.ok;
            value = b;
            end = sym n;
            within = omega (arith, varint-length 10 v t.ok);
            parsed = e ∙ ap (got v) d;
          }
      by (at-refused {r = plain n}) e q = never (cc)
      by (at-refused {r = cut n left}) e q = never (cc)

  pub cut-is : varint_at s at ≡ Err Cut → varint (cut_in 12 (drop at s)) 10 (drop at s) ≡ refused (cut_in 12 (drop at s))
  unfolding varint_at
  cut-is q = by (refuses (cut_in 12 (drop at s)) 10 (drop at s)) refl q
    where
      by : {m : Parsed (List ℕ)} → Refuses (cut_in 12 (drop at s)) m → varint (cut_in 12 (drop at s)) 10 (drop at s) ≡ m → told at m ≡ Err Cut
          → varint (cut_in 12 (drop at s)) 10 (drop at s) ≡ refused (cut_in 12 (drop at s))
      by stands e q = never (cc)
      by ends e q = e
      by too_long e q = never (cc)

  pub long-is : varint_at s at ≡ Err TooLong → varint (cut_in 12 (drop at s)) 10 (drop at s) ≡ refused (plain 5)
  unfolding varint_at
  long-is q = by (refuses (cut_in 12 (drop at s)) 10 (drop at s)) refl q
    where
      by : {m : Parsed (List ℕ)} → Refuses (cut_in 12 (drop at s)) m → varint (cut_in 12 (drop at s)) 10 (drop at s) ≡ m → told at m ≡ Err TooLong
          → varint (cut_in 12 (drop at s)) 10 (drop at s) ≡ refused (plain 5)
      by stands e q = never (cc)
      by ends e q = never (cc)
      by too_long e q = e
