-- A call that reads lays down what its batch took; so by the law of batches two calls, one after the other, lay down what one for all does.
-- Assumes nothing.
use mathlib.Core.Path.{◌≡◌, refl, sym, ap, ◌∙◌}
use Prim.Native.Nat.{ℕ, ◌+◌, ◌-◌}
use native.Mathlib.Omega.{arith}
use mathlib.Core.Bool.{Bool, true, false}
use mathlib.Core.List.{List, ◌++◌}
use Rattle.std.specs.Prelude.{Ok, Err}
use lib.ListN.{length, take, drop, length-append, length-drop}
use lib.Dec.{ltb}
use lib.Seq.{take_at, length-take-le}
use borrow.Author.Tests.{le-ltb, le-leb}
use Rattle.format.specs.Digits.{AllBelow}
use Rattle.format.specs.Parse.{Reason, plain}
use Rattle.format.specs.Booleans.{bits}
use Rattle.format.proofs.Tests.{never}
use Rattle.boolean_rle.specs.declared.positions.BytePosition.{BytePosition}
use Rattle.boolean_rle.specs.declared.positions.FlagPosition.{FlagPosition}
use Rattle.boolean_rle.specs.Column.{whole_runs, column}
use Rattle.boolean_rle.specs.Positions.{skipped, past, past_flags}
use Rattle.boolean_rle.specs.Batches.{ByteBatch, FlagBatch, Batch, took, missing, bytes_from, flags_from, placed, read_bytes, read_flags, bytes_answer, flags_answer}
use Rattle.boolean_rle.specs.Batches.{places_after, BytesGiven, FlagsGiven}
use Rattle.boolean_rle.specs.BatchTheorems.{InParts, CallsInParts}
use Rattle.boolean_rle.proofs.Batches.{seen, bytes-seen, flags-seen}
use Rattle.boolean_rle.proofs.Outcomes.{seen-took}
use Rattle.boolean_rle.proofs.InParts.{bytes-in-parts, flags-in-parts}

-- a batch of n has n values
seen-length : {P : Type 0} (k n : ℕ) (l : List ℕ) (next q : P) (why : Reason) (vs : List ℕ) → seen k n l next why ≡ took vs q → length vs ≡ n
seen-length k n l next q why vs e =
    let (h, z) = seen-took k n l next q why vs e in
    let g : took (take n (drop k l)) next ≡ took vs q = rw (le-leb (k + n) (length l) h) at e in
    let v : take n (drop k l) ≡ vs = cc in
    ap length (sym v) ∙ length-take-le n (drop k l) (rw length-drop (omega arith))

-- a reader of batches: what it answers to one, and what it promises
module _ {P A : Type 0} (from : P → ℕ → Batch P) (answer : P → ℕ → Batch P → A) (read : ℕ → P → A)
    (given : P → ℕ → List ℕ → List ℕ → A → Type 0)
    (of-took : (p q : P) (n : ℕ) (vs : List ℕ) → answer p n (took vs q) ≡ read n q)
    (same_next : (n : ℕ) (q q' : P) → read n q ≡ read n q' → q ≡ q')
    (not-missing : (p q : P) (n : ℕ) (r : Reason) → read n q ≡ answer p n (missing r) → ⊥)
    (long : (p q : P) (n : ℕ) (vs : List ℕ) → from p n ≡ took vs q → length vs ≡ n)
    (answers : (p : P) (n : ℕ) (out places : List ℕ) (r : A) → given p n out places r
    → (r ≡ answer p n (placed (length out) n (from p n))) × (places ≡ places_after n out (placed (length out) n (from p n))))
    (parts : InParts from) where
  was_read : (p q : P) (n l : ℕ) (b : Batch P) → read n q ≡ answer p n (placed l n b)
      → (vs : List ℕ) × (b ≡ took vs q) × (placed l n b ≡ took vs q)
  was_read p q n l (took vs q') e = by (ltb l n) refl
    where
      by : (x : Bool) → ltb l n ≡ x → (ws : List ℕ) × (took vs q' ≡ took ws q) × (placed l n (took vs q') ≡ took ws q)
      by true f = absurd (not-missing p q n (plain 8) (rw f at e))
      by false f =
          let g : q ≡ q' = same_next n q q' (rw f at e ∙ of-took p q' n vs) in
          (vs, rw g, rw (f, g))
  was_read p q n l (missing r) e = absurd (not-missing p q n r e)

  laid-down : (p q : P) (n : ℕ) (out places : List ℕ) → given p n out places (read n q)
      → (vs : List ℕ) × (from p n ≡ took vs q) × (length vs ≡ n) × (take n places ≡ vs)
  laid-down p q n out places g =
      let (a, laid) = answers p n out places (read n q) g in
      let (vs, e, f) = was_read p q n (length out) (from p n) a in
      let l = long p q n vs e in
      (vs, e, l, ap (take n) (laid ∙ rw f) ∙ take_at vs (drop n out) n l)

  calls : CallsInParts given read
  calls p q r n m out₁ places₁ out₂ places₂ out places batch g₁ g₂ g h =
      let (vs, e, l, t) = laid-down p q n out₁ places₁ g₁ in
      let (ws, e', l', t') = laid-down q r m out₂ places₂ g₂ in
      let (a, laid) = answers p (n + m) out places batch g in
      let f : from p (n + m) ≡ took (vs ++ ws) r = parts p n m ∙ rw (e, e') in
      let both = (vs ++ ws) ++ drop (n + m) out in
      let d : places ≡ both = laid ∙ rw (f, le-ltb (length out) (n + m) h) in (
        a ∙ rw (f, le-ltb (length out) (n + m) h, of-took p r (n + m) (vs ++ ws)),
        rw (t, t') (ap (take (n + m)) d ∙ take_at (vs ++ ws) (drop (n + m) out) (n + m) (length-append vs ws ∙ rw (l, l'))),
      )

-- ---- the two readers

module _ (s : List ℕ) (b : AllBelow 256 s) (n : ℕ) (vs : List ℕ) where
  bytes-length : (p q : BytePosition) → bytes_from p n s ≡ took vs q → length vs ≡ n
  bytes-length p q e =
      let bs = drop p.run.bytes s in
      let next = past p.run.bytes (p.bytes.bytes + n) (whole_runs bs).runs in
      seen-length p.bytes.bytes n (column bs) next q (whole_runs bs).why vs (sym (bytes-seen s b p n) ∙ e)

  flags-length : (p q : FlagPosition) → flags_from p n s ≡ took vs q → length vs ≡ n
  flags-length p q e =
      let bs = drop p.run.bytes s in
      let next = past_flags p.run.bytes (skipped p + n) (whole_runs bs).runs in
      seen-length (skipped p) n (bits (column bs)) next q (whole_runs bs).why vs (sym (flags-seen s b p n) ∙ e)

abbrev next_byte : BytePosition → ByteBatch → BytePosition
next_byte q (Ok x) = x.next
next_byte q (Err f) = q

abbrev next_flag : FlagPosition → FlagBatch → FlagPosition
next_flag q (Ok x) = x.next
next_flag q (Err f) = q

pub bytes-calls-in-parts : (s : List ℕ) → AllBelow 256 s → CallsInParts (BytesGiven s) read_bytes
bytes-calls-in-parts s b =
    calls (λ p n. bytes_from p n s) (λ p n. bytes_answer p.run.bytes (length s - p.run.bytes) n) read_bytes (BytesGiven s)
    (λ p q n vs. refl) (λ n q q' e. ap (next_byte q) e) (λ p q n r e. never (cc))
    (λ p q n vs. bytes-length s b n vs p q) (λ p n out places r g. (g.answer, g.places))
    (bytes-in-parts s b)

pub flags-calls-in-parts : (s : List ℕ) → AllBelow 256 s → CallsInParts (FlagsGiven s) read_flags
flags-calls-in-parts s b =
    calls (λ p n. flags_from p n s) (λ p n. flags_answer p.run.bytes (length s - p.run.bytes) n) read_flags (FlagsGiven s)
    (λ p q n vs. refl) (λ n q q' e. ap (next_flag q) e) (λ p q n r e. never (cc))
    (λ p q n vs. flags-length s b n vs p q) (λ p n out places r g. (g.answer, g.places))
    (flags-in-parts s b)
