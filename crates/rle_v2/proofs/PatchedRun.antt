-- What a patched base run gives, by the tests of its reader. Assumes nothing.
use Rattle.std.specs.Prelude.{Err}
use mathlib.Core.Path.{◌≡◌, refl, sym, ap, ◌∙◌}
use Prim.Native.Nat.{ℕ, ◌+◌, ◌-◌, ◌*◌, ◌/◌, ◌%◌, ◌<◌, ◌≤◌}
use native.Mathlib.Omega.{arith}
use native.Mathlib.Decide.{dec_lt}
use mathlib.Core.Bool.{Bool, true, false}
use mathlib.Core.List.{List, [], ◌∷◌, ◌++◌, map}
use lib.ListN.{length, take, drop, get_or, length-drop}
use lib.Seq.{length-take-le}
use lib.IntN.{ℤ}
use borrow.Author.Tests.{lt-ltb, le-ltb}
use Rattle.format.specs.Fields.{pick, width, bytes_for}
use Rattle.format.specs.Runs.{Description, patched, entry_width, patches, too_large, out_of_place}
use Rattle.format.specs.Rows as Rows
use Rattle.format.specs.Rows.{as_i64, base_value, i64_rows, rows_of}
use Rattle.format.specs.Parse.{Parsed, got, refused, plain, code_of, rows_less, unless, patched_body, patched_run}
use Rattle.format.specs.Promises.{answer_of, Gives}
use Rattle.format.specs.Answers.{ran, refused_at}
use Rattle.format.specs.declared.Kind.TheVariants.{PatchedBase}
use Rattle.format.proofs.Rows.{width-le, bytes_count}
use Rattle.format.proofs.Reading.{byte-here, bytes-here, bytes_cut, block_at, block_here, block-cut, answer-refused, answer-cut, answer-run, gives-8, gives-run}
use Rattle.rle_v2.specs.Pass.{based}
use Rattle.rle_v2.specs.PatchList.{list_number, patch_all}
use Rattle.rle_v2.specs.PatchedHead.{cut_body}
use Rattle.rle_v2.proofs.Pass.{based-is}
use Rattle.rle_v2.proofs.PatchRefusals.{none-refused}
use Rattle.rle_v2.proofs.PatchRows.{patched-is}
use Rattle.rle_v2.proofs.Blocks.{block-count, block-patterns}

module _ (s : List ℕ) (at : ℕ) where
  -- ---- the header

  abbrev pub run : Parsed Description
  run = patched_run (get_or s at 0) (drop (at + 1) s)

  pub no_header : at < length s → length s - at < 4 → refused_at 1 at ≡ answer_of at (length s - at) run
  unfolding patched_run
  no_header h l = answer-refused at (length s - at) run 1 (few (drop (at + 1) s) (rw length-drop (omega arith)))
    where
      few : (bs : List ℕ) → length bs < 3 → patched_run (get_or s at 0) bs ≡ refused (plain 1)
      few [] k = refl
      few (b ∷ []) k = refl
      few (b ∷ c ∷ []) k = refl
      few (b ∷ c ∷ e ∷ bs) k = absurd (omega arith)

  pub is_body : 4 ≤ length s - at
      → run
      ≡ patched_body (code_of (get_or s at 0)) (rows_less (get_or s at 0) (get_or s (at + 1) 0) + 1) (get_or s (at + 2) 0 / 32 + 1) (get_or s (at + 2) 0 % 32)
      (get_or s (at + 3) 0 / 32 + 1) (get_or s (at + 3) 0 % 32) (drop (at + 4) s)
  unfolding patched_run
  is_body h =
      let e₂ : at + 2 ≡ at + 1 + 1 = omega arith in
      let e₃ : at + 3 ≡ at + 1 + 1 + 1 = omega arith in
      let e₄ : at + 4 ≡ at + 1 + 1 + 1 + 1 = omega arith in
      rw (e₂, e₃, e₄, byte-here s (at + 1) (omega arith), byte-here s (at + 1 + 1) (omega arith), byte-here s (at + 1 + 1 + 1) (omega arith))

  -- ---- the body

  module _ (code rows bw pc gw len : ℕ) where
    abbrev body : Parsed Description
    body = patched_body code rows bw pc gw len (drop (at + 4) s)

    -- the bytes of the values, and of the list
    abbrev size : ℕ
    size = bytes_for (rows * width code)

    abbrev list_size : ℕ
    list_size = bytes_for (len * entry_width pc gw)

    pub refused-2 : 64 < width pc + gw → refused_at 2 at ≡ answer_of at (length s - at) body
    unfolding patched_body
    refused-2 h = answer-refused at (length s - at) body 2 (rw (lt-ltb 64 (width pc + gw) h))

    module _ (not-2 : width pc + gw ≤ 64) where
      -- the input ends in the base, in the values or in the list
      pub broken-off : at + 4 ≤ length s → length s < at + 4 + bw + size + list_size
          → Err (cut_body (length s) at (at + 4 + bw) (at + 4 + bw + size)) ≡ answer_of at (length s - at) body
      unfolding patched_body cut_body
      broken-off t h = by (dec_lt (length s) (at + 4 + bw)) (dec_lt (length s) (at + 4 + bw + size))
        where
          by : Dec (length s < at + 4 + bw) → Dec (length s < at + 4 + bw + size) → Err (cut_body (length s) at (at + 4 + bw) (at + 4 + bw + size)) ≡ answer_of at (length s - at) body
          by (yes l) m =
              rw (lt-ltb (length s) (at + 4 + bw) l)
              (answer-cut s at (at + 4) 6 body (omega arith) t
              (rw (le-ltb 64 (width pc + gw) not-2, bytes_cut s (at + 4) 6 bw (omega arith))))
          by (no l) (yes m) =
              rw (le-ltb (length s) (at + 4 + bw) (omega arith), lt-ltb (length s) (at + 4 + bw + size) m)
              (answer-cut s at (at + 4 + bw) 13 body (omega arith) (omega arith)
              (rw (le-ltb 64 (width pc + gw) not-2, bytes-here s (at + 4) 6 bw (omega arith), block-cut s (at + 4 + bw) 13 (width code) rows (omega arith))))
          by (no l) (no m) =
              rw (le-ltb (length s) (at + 4 + bw) (omega arith), le-ltb (length s) (at + 4 + bw + size) (omega arith))
              (answer-cut s at (at + 4 + bw + size) 14 body (omega arith) (omega arith)
              (rw (
                le-ltb 64 (width pc + gw) not-2,
                bytes-here s (at + 4) 6 bw (omega arith),
                block_here s (at + 4 + bw) 13 (width code) rows (omega arith),
                block-cut s (at + 4 + bw + size) 14 (entry_width pc gw) len (omega arith),
              )))

      module _ (h : at + 4 + bw + size + list_size ≤ length s) where
        abbrev pub entries : List ℕ
        entries = (block_at s (at + 4 + bw + size) (entry_width pc gw) len).values

        abbrev number : ℕ
        number = list_number (width code) (width pc) rows entries

        abbrev all : Parsed Description
        all =
            got (patched code (take bw (drop (at + 4) s)) pc gw (block_at s (at + 4 + bw) (width code) rows) (block_at s (at + 4 + bw + size) (entry_width pc gw) len))
            (drop (at + 4 + bw + size + list_size) s)

        -- all of the body but the tests of the list
        all_there : body ≡ unless (too_large (width code) (patches (width pc) entries)) 3 (unless (out_of_place (width pc) rows entries) 7 all)
        unfolding patched_body
        all_there =
            rw (
              le-ltb 64 (width pc + gw) not-2,
              bytes-here s (at + 4) 6 bw (omega arith),
              block_here s (at + 4 + bw) 13 (width code) rows (omega arith),
              block_here s (at + 4 + bw + size) 14 (entry_width pc gw) len (omega arith),
            )

        pub refused-list : (number ≡ 0 → ⊥) → refused_at number at ≡ answer_of at (length s - at) body
        unfolding list_number
        refused-list z = answer-refused at (length s - at) body _ (all_there ∙ by (too_large (width code) (patches (width pc) entries)) (out_of_place (width pc) rows entries) z)
          where
            by : (t o : Bool) → (◌≡◌ {A = ℕ} (pick t 3 (pick o 7 0)) 0 → ⊥) → unless t 3 (unless o 7 all) ≡ refused (plain (pick t 3 (pick o 7 0)))
            by true o z = refl
            by false true z = refl
            by false false z = absurd (z refl)

        module _ (z : number ≡ 0) where
          is-run : body ≡ all
          is-run =
              let q = none-refused (width code) (width pc) rows entries z in
              all_there ∙ rw (q.0, q.1)

          pub run_is : ran PatchedBase (width code) rows (at + 4 + bw + size + list_size - at) ≡ answer_of at (length s - at) body
          run_is =
              let n = block-count s (at + 4 + bw) (width code) rows in
              answer-run at (length s - at) body _ _ is-run PatchedBase (width code) rows _ refl refl (sym n)
              (sym (bytes_count _ ∙ rw (length-take-le bw (drop (at + 4) s) (rw length-drop (omega arith)), n, block-count s (at + 4 + bw + size) (entry_width pc gw) len) (omega arith)))

          module _ (signed : Bool) (out : List ℤ) where
            pub refused-8 : length out < rows → Gives at (length s - at) signed body out out (refused_at 8 at)
            refused-8 r = gives-8 at (length s - at) signed body out _ _ is-run (rw (block-count s (at + 4 + bw) (width code) rows) r)

            pub read_is : (one out' : List ℤ) → rows ≤ length out
                → one ≡ based (base_value (take bw (drop (at + 4) s))) (map as_i64 (block_at s (at + 4 + bw) (width code) rows).values) ++ drop rows out
                → out' ≡ patch_all (width code) (width pc) 0 one entries
                → Gives at (length s - at) signed body out out' (ran PatchedBase (width code) rows (at + 4 + bw + size + list_size - at))
            unfolding i64_rows rows_of
            read_is one out' r e f =
                let n = block-count s (at + 4 + bw) (width code) rows in
                let vs = (block_at s (at + 4 + bw) (width code) rows).values in
                let base = base_value (take bw (drop (at + 4) s)) in
                let b : one ≡ map as_i64 (Rows.patched_rows base (width code) [] 0 vs) ++ drop rows out
                = e ∙ ap (λ (x : List ℤ). x ++ drop rows out) (based-is base (width code) 0 vs (block-patterns s (at + 4 + bw) (width code) rows (width-le code))) in
                gives-run at (length s - at) signed body out _ _ is-run out' _ run_is (rw n r)
                (f ∙ rw (b, n) (patched-is (width code) (width pc) base vs entries (drop rows out) (rw n (none-refused (width code) (width pc) rows entries z).1)))
