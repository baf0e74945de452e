-- A group kept or replaced, and all groups: what they become reads whole, with the listed rows. Assumes nothing.
use mathlib.Core.Path.{◌≡◌, refl, sym, ap, ◌∙◌}
use mathlib.Core.Logic.{◌↔◌}
use Prim.Native.Nat.{ℕ, ◌*◌, ◌≤◌}
use native.Mathlib.Omega.{arith}
use mathlib.Core.Bool.{Bool, true, false}
use mathlib.Core.List.{List, [], ◌∷◌, ◌++◌}
use lib.ListN.{length, take, drop, length-append, length-replicate}
use lib.Seq.{take_at, drop-append-add}
use lib.Dec.{T, eqb→eq}
use lib.IntN.{ℤ}
use borrow.Author.Tests.{eq-eqb}
use mir.Syntax.{w64}
use mir.Val.{SFits}
use Rattle.format.specs.Digits.{AllBelow, sum}
use Rattle.format.specs.Runs.{Description, AllValid, layout, joined}
use Rattle.format.specs.Streams.{Reading, whole, read_all, stream, total_rows, joined_rows}
use Rattle.format.proofs.Rows.{row-bounds, joined-count}
use Rattle.format.proofs.Runs.{layout-pos}
use Rattle.format.proofs.Streams.{Reads, reads_whole, reads-broken, stream-post, stream-whole}
use Rattle.format.proofs.StreamRoom.{stream-is}
use Rattle.format.proofs.Joined.{rows-le, total-append, joined-append, rows_append}
use Rattle.format.proofs.Tests.{T_true, same_test}
use Rattle.salvage.specs.Salvage.{Group, kept_of, kept, fill_runs, mended, salvaged}
use Rattle.salvage.specs.Laws.{AllBytes, AllKept, counts, joined_groups, group_rows, renewed, SalvagedHolds}
use Rattle.salvage.proofs.Filling.{valid-append, fill-runs}

-- runs without rows are no runs, and have no bytes
no_rows : (ds : List Description) → AllValid ds → (1 ≤ total_rows ds) ↔ (1 ≤ length (joined ds))
unfolding total_rows joined
no_rows [] v = omega arith
no_rows (d ∷ ds) v = omega (arith, row-bounds d v.0, layout-pos d, length-append (layout d) (joined ds))

abbrev RunsOf : ℕ → List ℕ → Type 0
RunsOf n bs = (ds : List Description) × AllValid ds × (bs ≡ joined ds) × (total_rows ds ≡ n)

of-kept : (n : ℕ) {m : ℕ} {bs : List ℕ} {r : Reading} → Reads m bs r → T (kept_of n r) → RunsOf n bs
of-kept n (reads_whole {ds} v e l) t = (ds, v, e, eqb→eq (total_rows ds) n t)
of-kept n (reads-broken v e l r) t = absurd t

pub kept-exactly : (g : Group) → AllBelow 256 g.bytes → T (kept g) ↔ RunsOf g.rows g.bytes
unfolding kept stream
kept-exactly g h = (
  of-kept g.rows (stream-post (512 * length g.bytes) g.bytes h),
  λ (ds, v, b, t). rw (b, stream-whole (512 * length (joined ds)) ds v (rows-le ds v), eq-eqb (total_rows ds) g.rows t) tt,
)

-- a group is kept by what is read of it in any room that holds the rows listed
pub kept_by : (n m : ℕ) (bs : List ℕ) → AllBelow 256 bs → n ≤ m → kept_of n (read_all m bs) ≡ kept (record { bytes = bs; rows = n })
kept_by n m bs h l =
    let k = kept-exactly (record { bytes = bs; rows = n }) h in
    same_test (kept_of n (read_all m bs)) (kept (record { bytes = bs; rows = n })) (λ t. k.1 (of-kept n (stream-post m bs h) t)) (λ t. back (k.0 t))
  where
    back : RunsOf n bs → T (kept_of n (read_all m bs))
    back (ds, v, b, t) = rw (b, stream-whole m ds v (omega (arith, t)), eq-eqb (total_rows ds) n t) tt

module _ (signed : Bool) (fill : ℤ) (fits : SFits w64 fill) where
  -- what it becomes
  pub record Renewed (g : Group) : Type 0 where
    pub runs : List Description
    pub valid : AllValid runs
    pub bytes : mended signed fill g ≡ joined runs
    pub total : total_rows runs ≡ g.rows
    pub rows : joined_rows signed runs ≡ group_rows signed fill g

  pub renew : (g : Group) → AllBelow 256 g.bytes → Renewed g
  unfolding mended group_rows
  renew g h = go (kept g) refl
    where
      go : (t : Bool) → kept g ≡ t → Renewed g
      go true e =
          let (ds, v, b, t) = (kept-exactly g h).0 (rw e tt) in
          let w : stream g.bytes ≡ whole ds = ap stream b ∙ stream-is ds v in
          record { runs = ds; valid = v; bytes = rw e b; total = t; rows = rw (e, w) }
      go false e =
          let r = fill-runs signed fill fits g.rows in
          record {
            runs = fill_runs signed fill g.rows;
            valid = r.valid;
            bytes = rw e;
            total = sym (joined-count signed _) ∙ ap (λ (l : List ℤ). length l) r.rows ∙ length-replicate g.rows fill;
            rows = rw e r.rows;
          }

  pub some-rows : (g : Group) → Renewed g → (1 ≤ g.rows) ↔ (1 ≤ length (mended signed fill g))
  some-rows g r =
      let n = no_rows r.runs r.valid in
      let b : length (mended signed fill g) ≡ length (joined r.runs) = ap length r.bytes in
      (λ l. omega (arith, b, n.0 (omega (arith, r.total))), λ l. omega (arith, r.total, n.1 (omega (arith, b))))

  -- ---- all groups

  record AllRenewed (gs : List Group) : Type 0 where
    runs : List Description
    valid : AllValid runs
    bytes : salvaged signed fill gs ≡ joined runs
    total : total_rows runs ≡ sum (counts gs)
    rows : (before behind : List Group) (g : Group) → gs ≡ before ++ (g ∷ behind)
        → take g.rows (drop (sum (counts before)) (joined_rows signed runs)) ≡ group_rows signed fill g

  renew-all : (gs : List Group) → AllBytes gs → AllRenewed gs
  unfolding salvaged joined total_rows
  renew-all [] h = record {
    runs = [];
    valid = tt;
    bytes = refl;
    total = refl;
    rows = λ before behind g e. absurd (omega (arith, length-append before (g ∷ behind), ap (λ (l : List Group). length l) e));
  }
  renew-all (g ∷ gs) h =
      let r = renew g h.0 in
      let all = renew-all gs h.1 in
      record {
        runs = r.runs ++ all.runs;
        valid = valid-append r.runs all.runs r.valid all.valid;
        bytes = rw (r.bytes, all.bytes) (sym (joined-append r.runs all.runs));
        total = omega (arith, total-append r.runs all.runs, r.total, all.total);
        rows = λ before behind k e. at r all before behind k e;
      }
    where
      at : (r : Renewed g) (all : AllRenewed gs) (before behind : List Group) (k : Group) → (g ∷ gs) ≡ before ++ (k ∷ behind)
          → take k.rows (drop (sum (counts before)) (joined_rows signed (r.runs ++ all.runs))) ≡ group_rows signed fill k
      at r all [] behind k e =
          let s : g ≡ k = cc in
          rw (rows_append signed r.runs all.runs)
          (ap (λ (z : Group). take z.rows (joined_rows signed r.runs ++ joined_rows signed all.runs)) (sym s)
          ∙ take_at (joined_rows signed r.runs) (joined_rows signed all.runs) g.rows (joined-count signed r.runs ∙ r.total)
          ∙ r.rows ∙ ap (group_rows signed fill) s)
      at r all (b ∷ before) behind k e =
          let s : b ≡ g = cc in
          let f : gs ≡ before ++ (k ∷ behind) = cc in
          let l : b.rows ≡ length (joined_rows signed r.runs) = ap (λ (z : Group). z.rows) s ∙ sym (joined-count signed r.runs ∙ r.total) in
          rw (rows_append signed r.runs all.runs, l, drop-append-add (joined_rows signed r.runs) (joined_rows signed all.runs) (sum (counts before)))
          (all.rows before behind k f)

  -- ---- all kept

  pub kept-bytes : (g : Group) → T (kept g) → mended signed fill g ≡ g.bytes
  unfolding mended
  kept-bytes g t = rw (T_true (kept g) t)

  pub kept-joined : (gs : List Group) → AllKept gs → salvaged signed fill gs ≡ joined_groups gs
  unfolding salvaged joined_groups
  kept-joined [] h = refl
  kept-joined (g ∷ gs) h = rw (kept-bytes g h.0, kept-joined gs h.1)

  -- runs are kept with their rows
  pub runs-kept : (ds : List Description) (n : ℕ) → AllValid ds → total_rows ds ≡ n → T (kept (record { bytes = joined ds; rows = n }))
  unfolding kept
  runs-kept ds n v t = rw (stream-is ds v, eq-eqb (total_rows ds) n t) tt

  renewed-kept : (gs : List Group) → AllBytes gs → AllKept (renewed signed fill gs)
  unfolding renewed
  renewed-kept [] h = tt
  renewed-kept (g ∷ gs) h =
      let r = renew g h.0 in
      (rw r.bytes (runs-kept r.runs g.rows r.valid r.total), renewed-kept gs h.1)

  pub renewed-joined : (gs : List Group) → joined_groups (renewed signed fill gs) ≡ salvaged signed fill gs
  unfolding renewed joined_groups salvaged
  renewed-joined [] = refl
  renewed-joined (g ∷ gs) = rw (renewed-joined gs)

  pub salvaged-holds : (gs : List Group) → AllBytes gs → SalvagedHolds signed fill gs
  salvaged-holds gs h =
      let r = renew-all gs h in
      let k = renewed-kept gs h in
      record {
        runs = r.runs;
        reads_whole = ap stream r.bytes ∙ stream-is r.runs r.valid;
        in-places = λ n l. ap (read_all n) r.bytes ∙ stream-whole n r.runs r.valid (omega (arith, r.total));
        total = r.total;
        rows = r.rows;
        unchanged = kept-joined gs;
        all-kept = k;
        again = kept-joined (renewed signed fill gs) k ∙ renewed-joined gs;
      }
