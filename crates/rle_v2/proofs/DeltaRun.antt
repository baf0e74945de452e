-- What a delta run's body gives, by the tests of its reader. Assumes nothing.
use mathlib.Core.Path.{◌≡◌, refl, ap, ◌∙◌}
use mathlib.Core.Logic.{◌≢◌}
use Prim.Native.Nat.{ℕ, ◌+◌, ◌-◌, ◌*◌, ◌^◌, ◌<◌, ◌≤◌}
use native.Mathlib.Omega.{arith}
use native.Mathlib.Decide.{ℕ_discrete}
use mathlib.Core.Bool.{Bool}
use mathlib.Core.List.{List, ◌++◌}
use lib.ListN.{length, drop, get_or}
use lib.IntN.{ℤ}
use lib.Dec.{leb}
use borrow.Author.Tests.{eq-eqb, ne_eqb}
use Rattle.format.specs.Fields.{width, bytes_for, row, zigzag}
use Rattle.format.specs.Runs.{Description, fixed, delta, row_count, layout}
use Rattle.format.specs.Rows.{plus, i64_rows, rows_of}
use Rattle.format.specs.Parse.{Parsed, code_of, rows_less, fixed_body, delta_body, delta_run}
use Rattle.format.specs.Promises.{answer_of, Gives}
use Rattle.format.specs.Answers.{Answer, ran, refused_at}
use Rattle.format.specs.declared.Run.{Run}
use Rattle.format.specs.declared.Kind.TheVariants.{Delta}
use Rattle.format.proofs.Rows.{width-le, bytes_count}
use Rattle.format.proofs.Reading.{byte-after, none_after, block_at, block_here, block-cut, answer-refused, answer-cut, gives-8, gives-run}
use Rattle.rle_v2.specs.declared.delta.Found.{Found}
use Rattle.rle_v2.specs.RefusedBy.{refused_by}
use Rattle.rle_v2.specs.DeltaStart.{both, gone_by, Started, NotStarted, Passed, IsMeasured, delta_rows}
use Rattle.format.proofs.Widths.{width-pos}
use Rattle.rle_v2.proofs.RefusedBy.{by_field}
use Rattle.rle_v2.proofs.Pass.{summed-is}
use Rattle.rle_v2.proofs.Blocks.{block-count, block-patterns, code-width}

-- what reading gives is refused, by one of the varints
pub refused-too : (s : List ℕ) (at : ℕ) (body : List ℕ → List ℕ → List ℕ → Parsed Description) (f : Found) → NotStarted s at f
    → refused_by at f.number f.field.bytes ≡ answer_of at (length s - at) (both body (drop (at + 2) s))
refused-too s at body f n = n.refusal_is ∙ rw (n.parsed body)

module _ (s : List ℕ) (at : ℕ) where
  -- ---- the header

  abbrev pub run : Parsed Description
  run = delta_run (get_or s at 0) (drop (at + 1) s)

  gone-plain : (n : ℕ) → n ≢ 0 → refused_at n at ≡ answer_of at (length s - at) run → IsMeasured s at run (gone_by n 0)
  gone-plain n z e = record { passed = λ y. absurd (z y); refusal = λ y. e }

  pub no_header : at < length s → length s - at < 2 → IsMeasured s at run (gone_by 1 0)
  unfolding delta_run
  no_header h l = gone-plain 1 (λ z. omega arith) (answer-refused at (length s - at) run 1 (rw (none_after s at h l)))

  module _ (h : 2 ≤ length s - at) where
    -- code 0: a fixed delta
    pub is-fixed : code_of (get_or s at 0) ≡ 0 → run ≡ fixed_body (rows_less (get_or s at 0) (get_or s (at + 1) 0) + 1) (drop (at + 2) s)
    unfolding delta_run
    is-fixed e = rw (byte-after s at h, eq-eqb (code_of (get_or s at 0)) 0 e)

    pub one-row : (code_of (get_or s at 0) ≡ 0 → ⊥) → rows_less (get_or s at 0) (get_or s (at + 1) 0) ≡ 0 → IsMeasured s at run (gone_by 4 0)
    unfolding delta_run
    one-row e r =
        gone-plain 4 (λ z. omega arith)
        (answer-refused at (length s - at) run 4
        (rw (byte-after s at h, ne_eqb (code_of (get_or s at 0)) 0 e, eq-eqb (rows_less (get_or s at 0) (get_or s (at + 1) 0)) 0 r)))

    pub is-packed : (code_of (get_or s at 0) ≡ 0 → ⊥) → (rows_less (get_or s at 0) (get_or s (at + 1) 0) ≡ 0 → ⊥)
        → run ≡ delta_body (code_of (get_or s at 0)) (rows_less (get_or s at 0) (get_or s (at + 1) 0) - 1) (drop (at + 2) s)
    unfolding delta_run
    is-packed e r = rw (byte-after s at h, ne_eqb (code_of (get_or s at 0)) 0 e, ne_eqb (rows_less (get_or s at 0) (get_or s (at + 1) 0)) 0 r)

  -- ---- a fixed delta

  pub fixed-refused : (rows : ℕ) (f : Found) → NotStarted s at f → refused_by at f.number f.field.bytes ≡ answer_of at (length s - at) (fixed_body rows (drop (at + 2) s))
  unfolding fixed_body
  fixed-refused rows f n = refused-too s at _ f n

  pub fixed-passed : (f : Found) → Started s at f → Passed s at (fixed_body f.rows.rows (drop (at + 2) s)) f
  unfolding fixed_body i64_rows rows_of
  fixed-passed f b =
      let n : f.end.bytes - at ≡ length (layout (fixed f.rows.rows b.first-bytes b.base-bytes))
      = omega (arith, bytes_count (fixed f.rows.rows b.first-bytes b.base-bytes), b.next-is, b.end_is) in
      record {
        d = fixed f.rows.rows b.first-bytes b.base-bytes;
        rest = drop f.next.bytes s;
        read = b.parsed _;
        from = omega (arith, b.next-is, b.end_is);
        run_is = rw (n, b.bits_is);
        ready = λ z. absurd (z b.bits_is);
        rows_are = λ signed. rw (b.bits_is, b.first-is, b.base-is);
      }

  -- ---- packed magnitudes: one for each row but two

  module _ (code : ℕ) where
    pub packed-refused : (n : ℕ) (f : Found) → NotStarted s at f → refused_by at f.number f.field.bytes ≡ answer_of at (length s - at) (delta_body code n (drop (at + 2) s))
    unfolding delta_body
    packed-refused n f b = refused-too s at _ f b

    module _ (f : Found) (b : Started s at f) where
      abbrev n : ℕ
      n = f.rows.rows - 2

      -- what is found, where `size` bytes of magnitudes of w bits stand behind the varints
      abbrev with-block : ℕ → ℕ → Found
      with-block w size = record { number = 0; field = record { bytes = 0 }; bits = w; rows = f.rows; first = f.first; base = f.base; next = f.next; end = record { bytes = f.next.bytes + size } }

      packed-whole : 2 ≤ f.rows.rows → f.rows.rows ≤ 512 → bytes_for (n * width code) ≤ length s - f.next.bytes
          → Passed s at (delta_body code n (drop (at + 2) s)) (with-block (width code) (bytes_for (n * width code)))
      unfolding delta_body i64_rows rows_of
      packed-whole two few l =
          let k = block_at s f.next.bytes (width code) n in
          let c = block-count s f.next.bytes (width code) n in
          let all : n + 2 ≡ f.rows.rows = omega arith in
          let size : f.next.bytes + bytes_for (n * width code) - at ≡ length (layout (delta code b.first-bytes b.base-bytes k))
          = omega (arith, rw c at (bytes_count (delta code b.first-bytes b.base-bytes k)), b.next-is) in
          record {
            d = delta code b.first-bytes b.base-bytes k;
            rest = drop (f.next.bytes + bytes_for (n * width code)) s;
            read = b.parsed _ ∙ rw (block_here s f.next.bytes 13 (width code) n l);
            from = omega (arith, b.next-is);
            run_is = rw (size, c, all);
            ready = λ z. record { wide = code-width code; two = two; few = few; within = b.within; there = l };
            rows_are = λ signed.
                rw (
                  ne_eqb (width code) 0 (λ e. omega (arith, e, width-pos code)),
                  summed-is (leb (2 ^ 63) (zigzag f.base)) (plus (row signed f.first) (zigzag f.base)) k.values (block-patterns s f.next.bytes (width code) n (width-le code)),
                  b.first-is,
                  b.base-is,
                );
          }

      -- as the reader counts its bits and bytes
      module _ (w size : ℕ) (e : w ≡ width code) (e' : size ≡ bytes_for (n * w)) where
        size_is : size ≡ bytes_for (n * width code)
        size_is = e' ∙ rw e

        pub packed-cut : length s - f.next.bytes < size → IsMeasured s at (delta_body code n (drop (at + 2) s)) (gone_by 13 f.next.bytes)
        unfolding delta_body
        packed-cut l = record {
          passed = λ z. absurd (omega (arith, z));
          refusal = λ z. by_field at 13 f.next.bytes (λ e. omega (arith, e, b.next-is)) ∙
              answer-cut s at f.next.bytes 13 _ (omega (arith, b.next-is)) b.within
              (b.parsed _ ∙ rw (block-cut s f.next.bytes 13 (width code) n (rw size_is at l)));
        }

        pub packed-passed : 2 ≤ f.rows.rows → f.rows.rows ≤ 512 → size ≤ length s - f.next.bytes → IsMeasured s at (delta_body code n (drop (at + 2) s)) (with-block w size)
        packed-passed two few l = record { passed = λ z. rw (size_is, e) (packed-whole two few (rw size_is at l)); refusal = λ z. absurd (z refl) }

  -- ---- either of them

  -- the varints are refused, whatever stands behind them
  pub no-varints : 2 ≤ length s - at → (rows_less (get_or s at 0) (get_or s (at + 1) 0) ≡ 0 → code_of (get_or s at 0) ≡ 0) → (f : Found) → NotStarted s at f
      → refused_by at f.number f.field.bytes ≡ answer_of at (length s - at) run
  no-varints h few f b = by (ℕ_discrete (code_of (get_or s at 0)) 0)
    where
      by : Dec (code_of (get_or s at 0) ≡ 0) → refused_by at f.number f.field.bytes ≡ answer_of at (length s - at) run
      by (yes e) = rw (is-fixed h e) (fixed-refused _ f b)
      by (no e) = rw (is-packed h e (λ z. e (few z))) (packed-refused _ _ f b)

-- ---- what a run that passed its tests gives

module _ (s : List ℕ) (at : ℕ) (m : Parsed Description) (f : Found) (p : Passed s at m f) where
  abbrev answered : Answer
  answered = ran Delta f.bits f.rows.rows (f.end.bytes - at)

  pub passed-answer : answered ≡ answer_of at (length s - at) m
  passed-answer = rw (p.run_is, p.read)

  module _ (signed : Bool) (out : List ℤ) where
    rows-count : f.rows.rows ≡ row_count p.d
    rows-count = ap (λ (r : Run). r.rows.rows) p.run_is

    pub passed-8 : length out < f.rows.rows → Gives at (length s - at) signed m out out (refused_at 8 at)
    passed-8 h = gives-8 at (length s - at) signed m out _ _ p.read (rw rows-count at h)

    pub passed-read : (out' : List ℤ) → f.rows.rows ≤ length out → out' ≡ delta_rows s signed f ++ drop f.rows.rows out → Gives at (length s - at) signed m out out' answered
    passed-read out' h e =
        gives-run at (length s - at) signed m out _ _ p.read out' answered passed-answer (rw rows-count at h)
        (e ∙ rw (p.rows_are signed, ← rows-count))
