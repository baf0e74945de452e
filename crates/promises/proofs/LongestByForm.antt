-- The runs that rows, flag, form and width are written as have at most 4,102 bytes: a packed delta's header, two varints of ten and 510 values of 64 bits.
-- Assumes nothing.
use Rattle.format.proofs.Common.{◌≡◌, sym, ap, ◌∙◌, ℕ, zero, suc, ◌+◌, ◌*◌, ◌/◌, ◌%◌, ◌≤◌, mul-le-mul, arith, Bool, true, false, ◌&&◌, List}
use Rattle.format.proofs.Common.{[], ◌∷◌, map, length, length-map, ltb, ltb→lt}
use Rattle.format.specs.declared.Form.{Form}
use Rattle.format.specs.declared.Form.TheVariants.{ShortRepeat, Direct, FixedDelta, PackedDelta}
use Rattle.format.specs.Fields.{pick, width, zigzagged, shortest_in, shortest}
use Rattle.format.specs.Runs.{Description, layout}
use Rattle.format.specs.Answers.{answer_number}
use Rattle.format.specs.Parse.{Parsed, got, refused, plain}
use Rattle.format.specs.Promises.{answer_of}
use Rattle.format.specs.Writing.{stored, base_delta, falls, values_of, first_of, described, count_allowed, have_form, width_allowed, fit_width, writing}
use Rattle.format.proofs.Digits.{length_digits}
use Rattle.format.proofs.Rows.{byte_count, bytes_count, width-le}
use Rattle.format.proofs.Steps.{later-steps}
use Rattle.format.proofs.Tests.{and-e, between_le}
use Rattle.format.proofs.Accepted.{Accepted}
use Rattle.format.proofs.Runs.{got-inj}
use Rattle.format.proofs.Writing.{exactly, written, accepted}

-- n fields of w bits, where there are m at most, of b bits at most
pub fields_le : (n w m b : ℕ) → n ≤ m → w ≤ b → n * w ≤ m * b
fields_le n w m b h l = mul-le-mul h l

shortest_in-le : (k x : ℕ) → length (shortest_in k x) ≤ k
unfolding shortest_in
shortest_in-le zero x = omega arith
shortest_in-le (suc k) x = by (ltb x 128) (shortest_in-le k (x / 128))
  where
    by : (t : Bool) → length (shortest_in k (x / 128)) ≤ k → length (pick t (x ∷ []) ((x % 128 + 128) ∷ shortest_in k (x / 128))) ≤ suc k
    by true h = omega arith
    by false h = omega arith

-- a varint has ten bytes at most, of any number
shortest-le : (x : ℕ) → length (shortest x) ≤ 10
unfolding shortest
shortest-le x = shortest_in-le 10 x

described-le : (signed : Bool) (f : Form) (w : ℕ) (rs : List ℕ) → Accepted signed f w rs → length (layout (described signed f w rs)) ≤ 4102
unfolding described values_of
described-le signed f w rs a = rw (bytes_count (described signed f w rs)) (by f a)
  where
    by : (f : Form) → Accepted signed f w rs → byte_count (described signed f w rs) ≤ 4102
    by ShortRepeat a = omega (arith, between_le 1 8 w a.size, length_digits 256 w (first_of signed rs))
    by Direct a =
        let n = between_le 1 512 (length rs) a.count in
        omega (arith, fields_le (length (map (stored signed) rs)) (width w) 512 64 (omega (arith, n, length-map rs (stored signed))) (width-le w))
    by FixedDelta a = omega (arith, shortest-le (first_of signed rs), shortest-le (zigzagged (base_delta rs)))
    by PackedDelta a =
        let n = between_le 2 512 (length rs) a.count in
        let m : length (values_of signed PackedDelta rs) ≤ 510 = omega (arith, n, later-steps (falls (base_delta rs)) rs n.0) in
        omega (
          arith,
          shortest-le (first_of signed rs),
          shortest-le (zigzagged (base_delta rs)),
          fields_le (length (values_of signed PackedDelta rs)) (width w) 510 64 m (width-le w),
        )

module _ (signed : Bool) (f : Form) (w : ℕ) (rs : List ℕ) (places : ℕ) where
  abbrev D : Description
  D = described signed f w rs

  abbrev number : Parsed Description → ℕ
  number m = answer_number (answer_of 0 0 m)

  pub written-le : (d : Description) (rest : List ℕ) → writing signed f w rs places ≡ got d rest → length (layout d) ≤ 4102
  written-le d rest e =
      let a = accepted signed f w rs places (ap number e) in
      rw (got-inj (sym e ∙ written signed f w rs places a.0 a.1)).0 (described-le signed f w rs a.0)

  pub written-room : 4102 ≤ places → writing signed f w rs places ≡ refused (plain 8) → ⊥
  written-room h e =
      let form : Bool = have_form f rs && width_allowed f w in
      let few : Bool = ltb places (length (layout D)) in
      let three = and-e (count_allowed f (length rs) && form && fit_width signed f w rs) few ((exactly signed f w rs places).eight.0 (ap number e)) in
      let two = and-e (count_allowed f (length rs) && form) (fit_width signed f w rs) three.0 in
      let one = and-e (count_allowed f (length rs)) form two.0 in
      let ten = and-e (have_form f rs) (width_allowed f w) one.1 in
      omega (
        arith,
        described-le signed f w rs (record { count = one.0; form = ten.0; size = ten.1; fits = two.1 }),
        ltb→lt places (length (layout D)) three.1,
      )
