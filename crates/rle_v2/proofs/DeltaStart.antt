-- The two varints of a delta run's body, by what the varint reader answered. Assumes nothing.
use Rattle.std.specs.Prelude.{Err}
use mathlib.Core.Path.{◌≡◌, refl, sym, ap, ◌∙◌}
use Prim.Native.Nat.{ℕ, ◌+◌, ◌<◌, ◌≤◌}
use native.Mathlib.Omega.{arith}
use mathlib.Core.List.{List}
use lib.ListN.{length, drop, get_or}
use Rattle.format.specs.Parse.{Parsed, plain, cut_in, refused}
use Rattle.format.specs.Runs.{Description}
use Rattle.format.proofs.Reading.{field-at}
use Rattle.util.specs.declared.varint.VarintError.TheVariants.{Cut, TooLong}
use Rattle.std.specs.Prelude.{Ok, Err}
use Rattle.util.specs.Varint.{varint_at}
use Rattle.util.proofs.Varints.{value-is, cut-is, long-is}
use Rattle.rle_v2.specs.DeltaStart.{both, gone_by, StartsAt}
use Rattle.rle_v2.proofs.RefusedBy.{by_field}

module _ (s : List ℕ) (at rows : ℕ) (below : (i : ℕ) → get_or s i 0 < 256) where
  -- the input ends in a varint, which begins at x; or it goes on after ten bytes
  cut_at : (x : ℕ) → at + 2 ≤ x → x ≤ length s
      → ((body : List ℕ → List ℕ → List ℕ → Parsed Description) → both body (drop (at + 2) s) ≡ refused (cut_in 12 (drop x s))) → StartsAt s at rows (gone_by 12 x)
  cut_at x h l p = record {
    rows_is = λ z. absurd (omega (arith, z));
    started = λ z. absurd (omega (arith, z));
    refusal = λ z. record {
      reason = cut_in 12 (drop x s);
      parsed = p;
      refusal_is = by_field at 12 x (λ e. omega (arith, e)) ∙ ap Err (sym (field-at s at x 12 (omega arith) l));
    };
  }

  long-at : ((body : List ℕ → List ℕ → List ℕ → Parsed Description) → both body (drop (at + 2) s) ≡ refused (plain 5)) → StartsAt s at rows (gone_by 5 0)
  long-at p = record {
    rows_is = λ z. absurd (omega (arith, z));
    started = λ z. absurd (omega (arith, z));
    refusal = λ z. record { reason = plain 5; parsed = p; refusal_is = refl };
  }

  -- the first ..
  pub first-cut : at + 2 ≤ length s → varint_at s (at + 2) ≡ Err Cut → StartsAt s at rows (gone_by 12 (at + 2))
  first-cut h q = cut_at (at + 2) (omega arith) h (λ body. rw (cut-is s (at + 2) below q))

  pub first-long : varint_at s (at + 2) ≡ Err TooLong → StartsAt s at rows (gone_by 5 0)
  first-long q = long-at (λ body. rw (long-is s (at + 2) below q))

  module _ (first next : ℕ) (q : varint_at s (at + 2) ≡ Ok (record { bits = first; next = next })) where
    -- .. or the second
    pub second-cut : varint_at s next ≡ Err Cut → StartsAt s at rows (gone_by 12 next)
    second-cut q' =
        let x = value-is s (at + 2) below first next q in
        cut_at next (omega (arith, x.end)) x.within (λ body. rw (x.parsed, cut-is s next below q'))

    pub second-long : varint_at s next ≡ Err TooLong → StartsAt s at rows (gone_by 5 0)
    second-long q' = long-at (λ body. rw ((value-is s (at + 2) below first next q).parsed, long-is s next below q'))

    pub both-stood : (base end : ℕ) → varint_at s next ≡ Ok (record { bits = base; next = end })
        → StartsAt s at rows (record {
          number = 0;
          field = record { bytes = 0 };
          bits = 0;
          rows = record { rows = rows };
          first = first;
          base = base;
          next = record { bytes = end };
          end = record { bytes = end };
        })
    both-stood base end q' =
        let x = value-is s (at + 2) below first next q in
        let y = value-is s next below base end q' in
        record {
          rows_is = λ z. refl;
          started = λ z. record {
            first-bytes = x.bytes;
            base-bytes = y.bytes;
            first-is = sym x.value;
            base-is = sym y.value;
            next-is = omega (arith, x.end, y.end);
            within = y.within;
            parsed = λ body. rw (x.parsed, y.parsed);
            bits_is = refl;
            end_is = refl;
          };
          refusal = λ z. absurd (z refl);
        }
