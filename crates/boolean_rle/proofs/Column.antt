-- The runs of a column from a place on, and what reads them: `byte_runs` takes as many as some bytes need, or says why there are no more.
-- Assumes nothing.
use mathlib.Core.Path.{◌≡◌, refl, ap, ◌∙◌}
use Prim.Native.Nat.{ℕ, zero, suc, ◌+◌, ◌-◌, ◌<◌, ◌≤◌}
use native.Mathlib.Omega.{arith}
use native.Mathlib.Nat.{le_refl}
use mathlib.Core.Bool.{Bool, true, false, not}
use mathlib.Core.List.{List, [], ◌∷◌, ◌++◌, append_assoc}
use Rattle.std.specs.Prelude.{Err}
use lib.ListN.{length, take, drop, length-append, length-drop}
use lib.Dec.{T, ltb, leb, eqb, eqb→eq}
use mir.Facts.{eqb_no}
use Rattle.format.specs.Fields.{pick}
use Rattle.format.specs.Parse.{Reason, cut_in, Parsed, got, refused, then, bytes}
use Rattle.format.specs.Booleans.{ByteRun, repeat, literals, run_bytes, byte_count, joined_bytes, repeat_run, byte_run, byte_runs}
use Rattle.format.proofs.Posts.{Post, at-got, at-refused, then-post, pick_post}
use Rattle.format.proofs.Booleans.{length_run}
use Rattle.format.proofs.Tests.{never}
use Rattle.boolean_rle.specs.Column.{no_runs, run_then, scanned, scan, whole_runs}
use Rattle.boolean_rle.specs.Found.{cut_of, found_in}
use Rattle.boolean_rle.specs.declared.Cut.{Cut}

-- ---- every run takes a byte at least, so the length is fuel enough

abbrev Shorter : List ℕ → ByteRun → List ℕ → Type 0
Shorter bs d s = length s < length bs

repeat-shorter : (c : ℕ) (bs : List ℕ) → Post (Shorter (c ∷ bs)) (repeat_run c bs)
unfolding repeat_run
repeat-shorter c [] = at-refused
repeat-shorter c (b ∷ bs) = at-got {a = repeat (c + 3) b} {s = bs} (omega arith)

pub run-shorter : (bs : List ℕ) → Post (Shorter bs) (byte_run bs)
unfolding byte_run bytes
run-shorter [] = at-refused
run-shorter (c ∷ bs) =
    pick_post (ltb c 128) (λ t. repeat-shorter c bs) λ t.
    then-post {P = λ v s. length s ≤ length bs}
    (pick_post (leb (256 - c) (length bs)) (λ u. at-got {a = take (256 - c) bs} {s = drop (256 - c) bs} (rw length-drop (omega arith)))
    λ u. at-refused)
    λ v s h. at-got {a = literals v} {s = s} (omega arith)

scan-fuel : (f g : ℕ) (bs : List ℕ) → length bs ≤ f → length bs ≤ g → scan f bs ≡ scan g bs
unfolding scan byte_run
scan-fuel zero zero bs h l = refl
scan-fuel zero (suc g) [] h l = refl
scan-fuel zero (suc g) (b ∷ bs) h l = absurd (omega arith)
scan-fuel (suc f) zero [] h l = refl
scan-fuel (suc f) zero (b ∷ bs) h l = absurd (omega arith)
scan-fuel (suc f) (suc g) bs h l = go (byte_run bs) (run-shorter bs) λ s k. scan-fuel f g s (omega arith) (omega arith)
  where
    go : (m : Parsed ByteRun) → Post (Shorter bs) m → ((s : List ℕ) → length s < length bs → scan f s ≡ scan g s)
        → scanned (scan f) m ≡ scanned (scan g) m
    go m (at-got {a = d} {s} k) again = rw (again s k)
    go m at-refused again = refl

all-is : (f : ℕ) (bs : List ℕ) → length bs ≤ f → whole_runs bs ≡ scanned (scan f) (byte_run bs)
unfolding scan
all-is f bs h = scan-fuel (length bs) (suc f) bs (le_refl _) (omega arith)

module _ (bs : List ℕ) where
  pub all-got : (d : ByteRun) (s : List ℕ) → byte_run bs ≡ got d s → whole_runs bs ≡ run_then d (whole_runs s)
  all-got d s e = go (rw e at (run-shorter bs))
    where
      go : Post (Shorter bs) (got d s) → whole_runs bs ≡ run_then d (whole_runs s)
      go (at-got h) = all-is (length bs) bs (le_refl _) ∙ rw (e, scan-fuel (length bs) (length s) s (omega arith) (le_refl _))

  pub all-refused : (r : Reason) → byte_run bs ≡ refused r → whole_runs bs ≡ no_runs r
  all-refused r e = all-is (length bs) bs (le_refl _) ∙ rw e

pub joined-append : (ds es : List ByteRun) → joined_bytes (ds ++ es) ≡ joined_bytes ds ++ joined_bytes es
unfolding joined_bytes
joined-append [] es = refl
joined-append (d ∷ ds) es = rw (joined-append ds es, append_assoc)

-- no run is found: there is none, and the field that is cut is the one that was found
pub none_found : (total : ℕ) (bs : List ℕ) (q : Cut) → found_in total (byte_run bs) ≡ Err q
    → (r : Reason) × (whole_runs bs ≡ no_runs r) × (cut_of total r ≡ q)
none_found total bs q f = go (byte_run bs) refl (run-shorter bs) f
  where
    go : (m : Parsed ByteRun) → byte_run bs ≡ m → Post (Shorter bs) m → found_in total m ≡ Err q
        → (r : Reason) × (whole_runs bs ≡ no_runs r) × (cut_of total r ≡ q)
    go m e (at-got k) f = never (cc)
    go m e (at-refused {r}) f = (r, all-refused bs r e, cc)

-- ---- the runs that m bytes need are the first of all; or the bytes of all are fewer than m

pub data Reads (bs : List ℕ) (m : ℕ) : Parsed (List ByteRun) → Type 0 where
  enough : {ds : List ByteRun} {rest : List ℕ} → (whole_runs bs).runs ≡ ds ++ (whole_runs rest).runs → m ≤ length (joined_bytes ds)
      → Reads bs m (got ds rest)
  short : {r : Reason} → r ≡ (whole_runs bs).why → length (joined_bytes (whole_runs bs).runs) < m → Reads bs m (refused r)

pub of-enough : {bs : List ℕ} {m : ℕ} {ds : List ByteRun} {rest : List ℕ} → Reads bs m (got ds rest)
    → ((whole_runs bs).runs ≡ ds ++ (whole_runs rest).runs) × (m ≤ length (joined_bytes ds))
of-enough (enough e h) = (e, h)

-- one run in front of those
reads-run : (bs : List ℕ) (m : ℕ) (d : ByteRun) (s : List ℕ) (r : Parsed (List ByteRun)) → byte_run bs ≡ got d s
    → Reads s (m - byte_count d) r
    → Reads bs m (then r λ ds rest. got (d ∷ ds) rest)
unfolding joined_bytes
reads-run bs m d s r e (enough {ds} {rest} p l) =
    enough {ds = d ∷ ds} {rest = rest} (rw (all-got bs d s e) (ap (λ (x : List ByteRun). d ∷ x) p))
    (omega (arith, length-append (run_bytes d) (joined_bytes ds), length_run d))
reads-run bs m d s r e (short {r = w} p l) =
    short {r = w} (rw (all-got bs d s e) p) (rw (all-got bs d s e) (omega
    (arith, length-append (run_bytes d) (joined_bytes (whole_runs s).runs), length_run d)))

reads-pick : (bs : List ℕ) (m : ℕ) {x y : Parsed (List ByteRun)} (b : Bool) → (T b → Reads bs m x) → (T (not b) → Reads bs m y)
    → Reads bs m (pick b x y)
reads-pick bs m true h l = h tt
reads-pick bs m false h l = l tt

none : (bs : List ℕ) (m : ℕ) → T (eqb m 0) → Reads bs m (got [] bs)
none bs m t = enough {ds = []} {rest = bs} refl (omega (arith, eqb→eq m 0 t))

pub reads : (f m : ℕ) (bs : List ℕ) → length bs ≤ f → Reads bs m (byte_runs f m bs)
unfolding byte_runs joined_bytes scan
reads zero m [] h = reads-pick [] m (eqb m 0) (none [] m) λ t. short {r = cut_in 6 []} refl (omega (arith, eqb_no {a = m} {b = 0} t))
reads zero m (b ∷ bs) h = absurd (omega arith)
reads (suc f) m bs h =
    reads-pick bs m (eqb m 0) (none bs m) λ t.
    go (omega (arith, eqb_no {a = m} {b = 0} t)) (byte_run bs) refl (run-shorter bs) λ d s k. reads f (m - byte_count d) s (omega arith)
  where
    go : 0 < m → (x : Parsed ByteRun) → byte_run bs ≡ x → Post (Shorter bs) x
        → ((d : ByteRun) (s : List ℕ) → length s < length bs → Reads s (m - byte_count d) (byte_runs f (m - byte_count d) s))
        → Reads bs m (then x λ d s. then (byte_runs f (m - byte_count d) s) λ ds rest. got (d ∷ ds) rest)
    go l x e (at-got {a = d} {s} k) again = reads-run bs m d s _ e (again d s k)
    go l x e (at-refused {r}) again = short {r = r} (rw (all-refused bs r e)) (rw (all-refused bs r e) (omega arith))
