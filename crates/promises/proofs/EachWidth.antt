-- Each width at each length is read back: a valid description's layout parses as that description. Assumes nothing.
use Rattle.format.proofs.Common.{◌≡◌, refl, ap, ℕ, zero, suc, arith, Bool, List, [], ◌∷◌, map, replicate, ℤ}
use Rattle.format.specs.Fields.{row}
use Rattle.format.specs.Runs.{Description, Valid}
use Rattle.format.specs.Rows.{rows_of, as_i64, i64_rows}
use Rattle.format.proofs.RunComplete.{parse-complete}
use Rattle.format.proofs.Streams.{into-got}
use Rattle.promises.specs.EachWidth.{ReadBack, EachWidth}

valid-back : (d : Description) (rows : Bool → List ℤ) → Valid d → ((signed : Bool) → i64_rows signed d ≡ rows signed) → ReadBack d rows
valid-back d rows v f input at signed out out' r h rest e l = (
  rw (e, parse-complete d rest v, into-got _ d rest l) at h.answer,
  rw (e, parse-complete d rest v, into-got _ d rest l, f signed) at h.places,
)

map-replicate : {A B : Type 0} (f : A → B) (n : ℕ) (a : A) → map f (replicate n a) ≡ replicate n (f a)
map-replicate f zero a = refl
map-replicate f (suc n) a = ap (λ t. f a ∷ t) (map-replicate f n a)

map-map : {A B C : Type 0} (f : A → B) (g : B → C) (l : List A) → map g (map f l) ≡ map (λ a. g (f a)) l
map-map f g [] = refl
map-map f g (a ∷ l) = ap (λ t. g (f a) ∷ t) (map-map f g l)

pub each_width : EachWidth
unfolding i64_rows rows_of
each_width = record {
  short-runs = λ count value a b c d e.
      valid-back _ _ (record { few = a; many = b; some_bytes = c; eight = d; bytes = e }) (λ signed. map-replicate as_i64 count _);
  direct-runs = λ code k a b c d.
      valid-back _ _ (record { head = record { code_fits = a; some-rows = b; rows_fit = c }; block = d }) (λ signed. map-map (row signed) as_i64 k.values);
  fixed-runs = λ rows first base a b c d.
      valid-back _ _ (record { head = record { code_fits = omega arith; some-rows = a; rows_fit = b }; first-varint = c; base-varint = d }) (λ signed. refl);
  delta-runs = λ code first base k a b c d e f.
      valid-back _ _ (record {
        head = record { code_fits = b; some-rows = omega arith; rows_fit = c };
        not-fixed = a;
        first-varint = d;
        base-varint = e;
        block = f;
      }) (λ signed. refl);
  patched-runs = λ code base pc gw k l a b c d e f g h i j m n o p q.
      valid-back _ _ (record {
        head = record { code_fits = a; some-rows = b; rows_fit = c };
        some_bytes = d;
        eight = e;
        bytes = f;
        patch-code = g;
        gap-low = h;
        gap-high = i;
        entries_fit = j;
        not-2 = m;
        block = n;
        list = o;
        not-3 = p;
        not-7 = q;
      }) (λ signed. refl);
}
