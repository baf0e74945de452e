-- What looking up and reading answer, by what the code found in the columns. Assumes nothing.
use mathlib.Core.Path.{◌≡◌, refl, sym, ap, ◌∙◌}
use mathlib.Core.Logic.{◌⊎◌}
use Prim.Native.Nat.{ℕ}
use mathlib.Core.Bool.{Bool, true, false, not}
use mathlib.Core.List.{List}
use lib.ListN.{length}
use Rattle.format.specs.Runs.{Description}
use Rattle.format.specs.Parse.{plain}
use Rattle.format.specs.Streams.{Reading, whole, broken, stream}
use Rattle.format.proofs.Tests.{never}
use Rattle.index.specs.Entries.{gives, refuses, unless}
use Rattle.index.specs.Columns.{Columns, checked_columns, checked_in, holder_in, lookup_in}
use Rattle.index.specs.Promises.{found_of, not_found, LookedUp}
use Rattle.index.specs.Walk.{right_from}
use Rattle.index.proofs.Columns.{columns-hold, alike-true, not-alike}

-- ---- the columns compared

module _ (bs f o n : List ℕ) where
  abbrev c : Columns
  c = record { firsts = f; offsets = o; counts = n }

  module _ (a : length o ≡ length f) (b : length n ≡ length f) where
    checked-is : checked_in c bs ≡ checked_columns c (stream bs)
    unfolding checked_in
    checked-is = rw (alike-true (length f) (length o) (length n) (sym a) (sym b))

    pub checked-wrong : right_from 0 0 f o n (stream bs) ≡ false → checked_in c bs ≡ refuses (plain 15) 0
    checked-wrong e = checked-is ∙ go (stream bs) e
      where
        go : (m : Reading) → right_from 0 0 f o n m ≡ false → checked_columns c m ≡ refuses (plain 15) 0
        go (whole ds) e = ap (λ (t : Bool). unless (not t) 15 (gives ds)) e
        go (broken ds r rest) e = refl

    pub checked-right : right_from 0 0 f o n (stream bs) ≡ true → (ds : List Description) × (stream bs ≡ whole ds) × (checked_in c bs ≡ gives ds)
    checked-right e = go (stream bs) refl e
      where
        go : (m : Reading) → stream bs ≡ m → right_from 0 0 f o n m ≡ true → (ds : List Description) × (stream bs ≡ whole ds) × (checked_in c bs ≡ gives ds)
        go (whole ds) q e = (ds, q, checked-is ∙ ap (checked_columns c) q ∙ ap (λ (t : Bool). unless (not t) 15 (gives ds)) e)
        go (broken ds r rest) q e = never (cc)

  -- ---- what looking up answers

  module _ (r : ℕ) where
    pub unequal : (length o ≡ length f → ⊥) ⊎ ((length o ≡ length f) × (length n ≡ length f → ⊥)) → LookedUp bs c r (not_found 15)
    unequal h = sym (ap found_of (columns-hold.unequal-lookup c bs r (λ p. not-alike h (p.offsets, p.counts))))

    module _ (a : length o ≡ length f) (b : length n ≡ length f) where
      pub wrong-so : right_from 0 0 f o n (stream bs) ≡ false → LookedUp bs c r (not_found 15)
      unfolding lookup_in
      wrong-so e = rw (checked-wrong a b e)

      module _ (e : right_from 0 0 f o n (stream bs) ≡ true) where
        lookup-is : lookup_in c bs r ≡ holder_in r f o n
        unfolding lookup_in
        lookup-is = let (ds, q, k) = checked-right a b e in rw k

        pub holder-so : LookedUp bs c r (found_of (holder_in r f o n))
        holder-so = sym (ap found_of lookup-is)
