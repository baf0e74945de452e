-- Each answer follows from the first test that applies. If none does, every row has what it needs, and the columns hold what `label` says
-- of it. Assumes nothing.
use mathlib.Core.Path.{◌≡◌, refl, sym, ap, subst, ◌∙◌}
use Prim.Native.Nat.{ℕ, ◌<◌, ◌≤◌}
use native.Mathlib.Omega.{arith}
use native.Mathlib.Decide.{dec_lt}
use mathlib.Core.Bool.{Bool, true, false}
use mathlib.Core.List.{List}
use lib.ListN.{length, drop, get_or}
use lib.Seq.{drop_at}
use lib.IntN.{ℤ}
use Rattle.format.specs.Fields.{pick}
use Rattle.format.proofs.Tests.{never, T_true, is_false}
use Rattle.present.proofs.Columns.{spread-length}
use Rattle.std.specs.Prelude.{Result}
use Rattle.format.specs.declared.RowNumber.{RowNumber}
use Rattle.labels.specs.declared.ColumnRefusal.{ColumnRefusal}
use Rattle.labels.specs.Labels.{add_up, is_name, name_at, fallback_of}
use Rattle.labels.specs.Laws.{AddUp}
use Rattle.labels.specs.Column.{good_rows, LabelPlaces, start_for, size_for, LabelOutcome, gives, refuses, refuses_row, too_few_places}
use Rattle.labels.specs.Column.{offsets_from, starts_of, sizes_of, labelling, labelled_rows, column_refused, row_refused, labels_answer}
use Rattle.labels.specs.Column.{labels_at}
use Rattle.labels.specs.ColumnLaws.{label_held, LabelRoom, RowRefused, NoneNineteen, ColumnSaid, eighteen, nineteen, eight, all-rows}
use Rattle.labels.specs.ColumnLaws.{AllLabelsHold, AllLabelsDetermined}
use Rattle.labels.proofs.Labels.{adds, added}
use Rattle.labels.proofs.OffsetLoop.{offsets-length, begins-at}
use Rattle.labels.proofs.ColumnOutcome.{too_few, enough-places, room_of, comes-18, comes-19, comes-8, comes-all}
use Rattle.labels.proofs.ColumnRefusals.{every-18, bad-19, never-refused, not-before, all-good, adds-19, adds-18}
use Rattle.labels.proofs.ColumnRows.{number_at, name_for, served, good-before, label-served, column-at}

-- ---- each answer

module _ (flags : List ℕ) (numbers lengths : List ℤ) (block : List ℕ) (c : LabelPlaces) where
  abbrev outcome : LabelOutcome
  outcome = labelling flags numbers lengths (length block) c

  says : ColumnSaid flags numbers lengths block c (labels_answer (length flags) outcome)
  says =
      go (add_up lengths block) refl (dec_lt (good_rows lengths flags numbers) (length flags))
      (too_few_places (length lengths) (length flags) c) refl
    where
      go : (a : Bool) → add_up lengths block ≡ a → Dec (good_rows lengths flags numbers < length flags) → (t : Bool)
          → too_few_places (length lengths) (length flags) c ≡ t
          → ColumnSaid flags numbers lengths block c (labels_answer (length flags) outcome)
      go false a d t f =
          rw (comes-18 flags numbers lengths (length block) c a)
          (eighteen (λ u. let s : false ≡ true = sym a ∙ added lengths block u in never (cc)))
      go true a (yes h) t f =
          rw (comes-19 flags numbers lengths (length block) c a h)
          (nineteen (good_rows lengths flags numbers) h (bad-19 flags numbers lengths block a h)
          (λ k l q. never-refused flags numbers lengths block a k 19 (omega arith) l q))
      go true a (no h) true f =
          rw (comes-8 flags numbers lengths (length block) c a (omega arith) f)
          (eight (adds lengths block a) (λ row l q. never-refused flags numbers lengths block a row 19 l (omega arith) q)
          (λ m. let s : true ≡ false = sym f ∙ enough-places flags lengths c m in never (cc)))
      go true a (no h) false f =
          rw (comes-all flags numbers lengths (length block) c a (omega arith) f)
          (all-rows (adds lengths block a) (λ row l q. never-refused flags numbers lengths block a row 19 l (omega arith) q)
          (room_of flags lengths c f))

  -- the first row that is refused with 19
  first-is : (row : ℕ) → row < length flags → RowRefused flags numbers lengths block 19 row
      → ((k : ℕ) → k < row → RowRefused flags numbers lengths block 19 k → ⊥)
      → good_rows lengths flags numbers ≡ row
  first-is row h q first =
      let a = adds-19 flags numbers lengths block row h q in
      go (dec_lt (good_rows lengths flags numbers) row) a (not-before flags numbers lengths block a row h q)
    where
      go : Dec (good_rows lengths flags numbers < row) → add_up lengths block ≡ true → good_rows lengths flags numbers ≤ row
          → good_rows lengths flags numbers ≡ row
      go (yes g) a l = absurd (first (good_rows lengths flags numbers) g (bad-19 flags numbers lengths block a (omega arith)))
      go (no g) a l = omega arith

  comes-rows : AddUp lengths block → NoneNineteen flags numbers lengths block → LabelRoom flags lengths c → outcome ≡ gives
  comes-rows u n m =
      let a = added lengths block u in
      comes-all flags numbers lengths (length block) c a (all-good flags numbers lengths block a n) (enough-places flags lengths c m)

  said : {r : Result RowNumber ColumnRefusal} → ColumnSaid flags numbers lengths block c r → labels_answer (length flags) outcome ≡ r
  said (eighteen n) =
      rw (comes-18 flags numbers lengths (length block) c (is_false (add_up lengths block)
      (λ t. n (adds lengths block (T_true (add_up lengths block) t)))))
  said (nineteen row h q first) =
      let e = first-is row h q first in
      rw (comes-19 flags numbers lengths (length block) c (adds-19 flags numbers lengths block row h q) (omega arith), e)
  said (eight u n m) =
      let a = added lengths block u in
      rw (comes-8 flags numbers lengths (length block) c a (all-good flags numbers lengths block a n) (too_few flags lengths c m))
  said (all-rows u n m) = rw (comes-rows u n m)

  -- ---- what an answer tells

  not-added-up : {k : ℕ} → ColumnSaid flags numbers lengths block c (column_refused k) → k ≡ 18 → add_up lengths block ≡ false
  not-added-up (eighteen n) e = is_false (add_up lengths block) (λ t. n (adds lengths block (T_true (add_up lengths block) t)))
  not-added-up (eight u n m) e = absurd (omega arith)

  pub record AllGood : Type 0 where
    pub adds-up : add_up lengths block ≡ true
    pub good : length flags ≤ good_rows lengths flags numbers
    pub comes : outcome ≡ gives

  all-fine : {n : ℕ} → ColumnSaid flags numbers lengths block c (labelled_rows n) → AllGood
  all-fine (all-rows u n m) =
      let a = added lengths block u in
      record { adds-up = a; good = all-good flags numbers lengths block a n; comes = comes-rows u n m }

-- ---- the theorem

pub all-labels-hold : AllLabelsHold
all-labels-hold flags numbers lengths block c c' r p = record {
  exactly = λ a. (λ e. tells e, λ s. p.answer ∙ said flags numbers lengths block c s);
  every-18 = λ e row h. every-18 flags numbers lengths block (not-added-up flags numbers lengths block c (tells e) refl) row h;
  from-18 = λ row h q. p.answer ∙ said flags numbers lengths block c
      (eighteen (λ u. adds-18 flags numbers lengths block row h q (added lengths block u)));
  some-19 = λ row h q.
      let a = adds-19 flags numbers lengths block row h q in
      let g = not-before flags numbers lengths block a row h q in
      (good_rows lengths flags numbers, g, p.answer ∙ rw (comes-19 flags numbers lengths (length block) c a (omega arith)));
  each = λ n e fall row h.
      let g = all-fine flags numbers lengths block c (tells e) in
      let f = good-before lengths flags numbers row (omega (arith, g.good)) in
      label-served lengths numbers flags block row h g.adds-up fall f ∙ sym (holds g.comes fall row h f);
  no_name = λ n e row h x.
      let g = all-fine flags numbers lengths block c (tells e) in
      let f = good-before lengths flags numbers row (omega (arith, g.good)) in
      let o = is_false (is_name (get_or flags row 0)) x in
      (starts-at g.comes row h f ∙ rw o, sizes-at g.comes row h f ∙ rw o);
  begins = λ n e k h.
      let g = all-fine flags numbers lengths block c (tells e) in
      begins-at lengths c'.offsets (drop (length lengths) c.offsets) (ap (λ (x : LabelPlaces). x.offsets) (at_exit g.comes)) k h;
  kept = λ n e.
      let x = at_exit (all-fine flags numbers lengths block c (tells e)).comes in
      record {
        offsets = ap (λ (y : LabelPlaces). drop (length lengths) y.offsets) x
            ∙ drop_at (offsets_from 0 lengths) (drop (length lengths) c.offsets) (length lengths) (offsets-length 0 lengths);
        starts = ap (λ (y : LabelPlaces). drop (length flags) y.starts) x
            ∙ drop_at (starts_of lengths flags numbers) (drop (length flags) c.starts) (length flags) (spread-length 0 flags _);
        sizes = ap (λ (y : LabelPlaces). drop (length flags) y.sizes) x
            ∙ drop_at (sizes_of lengths flags numbers) (drop (length flags) c.sizes) (length flags) (spread-length 0 flags _);
      };
  untouched = λ k e. p.places ∙ as-was k (labelling flags numbers lengths (length block) c) (sym p.answer ∙ e);
  untouched-row = λ k row e. p.places ∙ as-was-row k row (labelling flags numbers lengths (length block) c) (sym p.answer ∙ e);
}
  where
    tells : {a : Result RowNumber ColumnRefusal} → r ≡ a → ColumnSaid flags numbers lengths block c a
    tells e =
        subst (λ (x : Result RowNumber ColumnRefusal). ColumnSaid flags numbers lengths block c x) (sym p.answer ∙ e)
        (says flags numbers lengths block c)

    at_exit : labelling flags numbers lengths (length block) c ≡ gives → c' ≡ labels_at flags numbers lengths c gives
    at_exit e = p.places ∙ ap (labels_at flags numbers lengths c) e

    starts-at : labelling flags numbers lengths (length block) c ≡ gives → (row : ℕ) → row < length flags
        → served lengths flags numbers row ≡ true
        → get_or c'.starts row 0 ≡ pick (is_name (get_or flags row 0)) (start_for lengths (number_at flags numbers row)) 0
    starts-at e row h f =
        ap (λ (x : LabelPlaces). get_or x.starts row 0) (at_exit e)
        ∙ column-at (start_for lengths) lengths flags numbers (drop (length flags) c.starts) row h f

    sizes-at : labelling flags numbers lengths (length block) c ≡ gives → (row : ℕ) → row < length flags
        → served lengths flags numbers row ≡ true
        → get_or c'.sizes row 0 ≡ pick (is_name (get_or flags row 0)) (size_for lengths (number_at flags numbers row)) 0
    sizes-at e row h f =
        ap (λ (x : LabelPlaces). get_or x.sizes row 0) (at_exit e)
        ∙ column-at (size_for lengths) lengths flags numbers (drop (length flags) c.sizes) row h f

    holds : labelling flags numbers lengths (length block) c ≡ gives → (fall : List ℕ) (row : ℕ) → row < length flags
        → served lengths flags numbers row ≡ true
        → label_held flags fall c' row
        ≡ pick (is_name (get_or flags row 0)) (name_for lengths (number_at flags numbers row)) (fallback_of (length fall))
    holds e fall row h f = go (is_name (get_or flags row 0)) (starts-at e row h f) (sizes-at e row h f)
      where
        go : (t : Bool) → get_or c'.starts row 0 ≡ pick t (start_for lengths (number_at flags numbers row)) 0
            → get_or c'.sizes row 0 ≡ pick t (size_for lengths (number_at flags numbers row)) 0
            → pick t (name_at (get_or c'.starts row 0) (get_or c'.sizes row 0)) (fallback_of (length fall))
            ≡ pick t (name_for lengths (number_at flags numbers row))
            (fallback_of (length fall))
        go true s z = rw (s, z)
        go false s z = refl

    as-was : (k : ℕ) (o : LabelOutcome) → labels_answer (length flags) o ≡ column_refused k → labels_at flags numbers lengths c o ≡ c
    as-was k gives e = never (cc)
    as-was k (refuses n) e = refl
    as-was k (refuses_row n row) e = refl

    as-was-row : (k row : ℕ) (o : LabelOutcome) → labels_answer (length flags) o ≡ row_refused k row → labels_at flags numbers lengths c o ≡ c
    as-was-row k row gives e = never (cc)
    as-was-row k row (refuses n) e = refl
    as-was-row k row (refuses_row n row') e = refl

pub all-labels-determined : AllLabelsDetermined
all-labels-determined flags numbers lengths bytes c one two r r' p q = (p.answer ∙ sym q.answer, p.places ∙ sym q.places)
