-- A byte run at a place of the input, and the first pass: how many bytes the runs take. Assumes nothing.
use mathlib.Core.Path.{◌≡◌, refl, sym, ap, ◌∙◌}
use Prim.Native.Nat.{ℕ, zero, suc, ◌+◌, ◌-◌, ◌/◌, ◌%◌, ◌<◌, ◌≤◌, min}
use native.Mathlib.Omega.{arith}
use native.Mathlib.Nat.{add_assoc}
use mathlib.Core.List.{List, [], ◌∷◌, ◌++◌}
use Rattle.std.specs.Prelude.{Ok, Err}
use lib.ListN.{length, get_or, take, drop, length-append, length-drop, drop_of_length-le}
use lib.Seq.{drop-drop, drop_at}
use borrow.Author.Tests.{lt-ltb, le-ltb, ne_eqb}
use Rattle.format.specs.Fields.{bytes_for}
use Rattle.format.specs.Parse.{Parsed, end, got, refused, cut_in, then}
use Rattle.format.specs.Booleans.{ByteRun, repeat, literals, ValidRun, run_layout, byte_count, joined_runs, repeat_run, byte_run, byte_runs}
use Rattle.format.proofs.Posts.{Post, at-got, at-refused, Took}
use Rattle.format.proofs.Below.{below_all, below-drop}
use Rattle.format.proofs.ByteRuns.{run_sound}
use Rattle.format.proofs.Reading.{byte-here, bytes-here, bytes_cut}
use Rattle.format.proofs.Tests.{never}
use Rattle.boolean_rle.specs.declared.ByteRun as code
use Rattle.boolean_rle.specs.declared.Cut.{Cut}
use Rattle.boolean_rle.specs.Found.{Found, Span, found_in, span_of}

-- the field of which `left` bytes are left begins at p
pub field_is : (s : List ℕ) (p : ℕ) → p ≤ length s → length s - length (drop p s) ≡ p
field_is s p h = rw length-drop (omega arith)

-- ---- a run at the place p of s, by the tests that the reader makes

module _ (s : List ℕ) (p : ℕ) where
  pub none_here : length s ≤ p → byte_run (drop p s) ≡ refused (cut_in 6 [])
  unfolding byte_run
  none_here h = rw (drop_of_length-le s {i = p} h)

  module _ (h : p < length s) (l : get_or s p 0 < 128) where
    pub repeat-cut : length s - (p + 1) ≡ 0 → byte_run (drop p s) ≡ refused (cut_in 13 (drop (p + 1) s))
    unfolding byte_run repeat_run
    repeat-cut e = rw (byte-here s p h, lt-ltb (get_or s p 0) 128 l, drop_of_length-le s {i = p + 1} (omega arith))

    pub repeat-here : 0 < length s - (p + 1) → byte_run (drop p s) ≡ got (repeat (get_or s p 0 + 3) (get_or s (p + 1) 0)) (drop (p + 1 + 1) s)
    unfolding byte_run repeat_run
    repeat-here e = rw (byte-here s p h, lt-ltb (get_or s p 0) 128 l, byte-here s (p + 1) (omega arith))

  module _ (h : p < length s) (l : 128 ≤ get_or s p 0) where
    pub literals-cut : length s - (p + 1) < 256 - get_or s p 0 → byte_run (drop p s) ≡ refused (cut_in 13 (drop (p + 1) s))
    unfolding byte_run
    literals-cut e = rw (byte-here s p h, le-ltb (get_or s p 0) 128 l, bytes_cut s (p + 1) 13 (256 - get_or s p 0) e)

    pub literals-here : 256 - get_or s p 0 ≤ length s - (p + 1)
        → byte_run (drop p s) ≡ got (literals (take (256 - get_or s p 0) (drop (p + 1) s))) (drop (p + 1 + (256 - get_or s p 0)) s)
    unfolding byte_run
    literals-here e = rw (byte-here s p h, le-ltb (get_or s p 0) 128 l, bytes-here s (p + 1) 13 (256 - get_or s p 0) e)

-- a run that was found: its description, and where the next begins
pub record Here (s : List ℕ) (p : ℕ) (e : code.ByteRun) (d : ByteRun) : Type 0 where
  pub is-run : byte_run (drop p s) ≡ got d (drop (p + e.size) s)
  pub size_is : length (run_layout d) ≡ e.size
  pub count-is : byte_count d ≡ e.count
  pub split : drop p s ≡ run_layout d ++ drop (p + e.size) s
  pub inside : p + e.size ≤ length s
  pub takes : 1 ≤ e.size
  pub some : 1 ≤ e.count
  pub few : e.count ≤ 130
  pub valid : ValidRun d

size_in : Found → ℕ
size_in (Ok e) = e.size
size_in (Err q) = 0

unfoldable pub count_in : Found → ℕ
count_in (Ok e) = e.count
count_in (Err q) = 0

pub layout-pos : (d : ByteRun) → ValidRun d → (1 ≤ length (run_layout d)) × (1 ≤ byte_count d)
unfolding run_layout byte_count
layout-pos (repeat count byte) v = (omega arith, omega (arith, v))
layout-pos (literals bs) v = (omega arith, omega (arith, v))

pub count-le : (d : ByteRun) → ValidRun d → byte_count d ≤ 130
unfolding byte_count
count-le (repeat count byte) v = v.many
count-le (literals bs) v = omega (arith, v)

pub here : (s : List ℕ) (p : ℕ) (e : code.ByteRun) → ((i : ℕ) → get_or s i 0 < 256) → found_in (length s) (byte_run (drop p s)) ≡ Ok e → (d : ByteRun) × Here s p e d
unfolding size_in count_in
here s p e b f = go (byte_run (drop p s)) refl (run_sound (drop p s) (below-drop 256 p s (below_all 256 s b))) f
  where
    go : (m : Parsed ByteRun) → byte_run (drop p s) ≡ m → Post (Took (drop p s) run_layout ValidRun) m → found_in (length s) m ≡ Ok e → (d : ByteRun) × Here s p e d
    go m g (at-got {a = d} {s = rest} t) f =
        let z : length (run_layout d) ≡ e.size = ap size_in f in
        let n : byte_count d ≡ e.count = ap count_in f in
        let q : drop (p + e.size) s ≡ rest = sym (drop-drop e.size p s) ∙ ap (λ (x : List ℕ). drop e.size x) t.split ∙ drop_at (run_layout d) rest e.size z in
        let k = layout-pos d t.ok in (
          d,
          record {
            is-run = rw q g;
            size_is = z;
            count-is = n;
            split = rw q t.split;
            inside = omega (arith, z, k.0, length-append (run_layout d) rest, ap length t.split, length-drop p s);
            takes = omega (arith, z, k.0);
            some = omega (arith, n, k.1);
            few = omega (arith, n, count-le d t.ok);
            valid = t.ok;
          },
        )
    go m g at-refused f = never (cc)

-- ---- the first pass: how many bytes the runs take

-- the bytes that n booleans need
pub ceil-is : (n : ℕ) → n / 8 + min 1 (n % 8) ≡ bytes_for n
ceil-is n = omega arith

abbrev pub further : ℕ → Span → Span
further n (Ok k) = Ok (n + k)
further n (Err q) = Err q

further-further : (m n : ℕ) (w : Span) → further m (further n w) ≡ further (m + n) w
further-further m n (Ok k) = ap Ok (sym (add_assoc m n k))
further-further m n (Err q) = refl

pub further-zero : (n : ℕ) (w : Span) → w ≡ further (n - n) w
further-zero n (Ok k) = ap Ok (omega arith)
further-zero n (Err q) = refl

-- where a run is cut, so are the runs, in the same field
pub span-cut : (total g m : ℕ) (bs : List ℕ) (q : Cut) → 0 < m → length bs ≤ g → found_in total (byte_run bs) ≡ Err q → span_of total (byte_runs g m bs) ≡ Err q
unfolding byte_runs byte_run
span-cut total zero m [] q h l f = rw (ne_eqb m 0 (omega arith)) cc
span-cut total zero m (x ∷ bs) q h l f = absurd (omega arith)
span-cut total (suc g) m bs q h l f = rw (ne_eqb m 0 (omega arith)) (go (byte_run bs) f)
  where
    go : (p : Parsed ByteRun) → found_in total p ≡ Err q → span_of total (then p λ d s. then (byte_runs g (m - byte_count d) s) λ ds rest. got (d ∷ ds) rest) ≡ Err q
    go end f = cc
    go (got d rest) f = never (cc)
    go (refused n) f = cc

-- a run, and then the runs after it
pub span_run : (total g m : ℕ) (bs : List ℕ) (d : ByteRun) (s : List ℕ) → 0 < m → byte_run bs ≡ got d s
    → span_of total (byte_runs (suc g) m bs) ≡ further (length (run_layout d)) (span_of total (byte_runs g (m - byte_count d) s))
unfolding byte_runs joined_runs
span_run total g m bs d s h e = rw (ne_eqb m 0 (omega arith), e) (go (byte_runs g (m - byte_count d) s))
  where
    go : (r : Parsed (List ByteRun)) → span_of total (then r λ ds rest. got (d ∷ ds) rest) ≡ further (length (run_layout d)) (span_of total r)
    go end = refl
    go (got ds rest) = ap Ok (length-append (run_layout d) (joined_runs ds))
    go (refused r) = refl

-- what the first pass knows at the place p, with `left` bytes still needed: w is the whole answer
abbrev pub Passed : List ℕ → ℕ → Span → ℕ → ℕ → Type 0
Passed s at w p left = (at ≤ p) × ((g : ℕ) × (length s - p ≤ g) × (w ≡ further (p - at) (span_of (length s) (byte_runs g left (drop p s)))))

pub pass : (s : List ℕ) (at : ℕ) (w : Span) (p left : ℕ) (e : code.ByteRun) (d : ByteRun) → Here s p e d → 0 < left → Passed s at w p left
    → Passed s at w (p + e.size) (left - e.count)
pass s at w p left e d h l (i, (zero, b, q)) = absurd (omega (arith, h.inside, h.size_is, layout-pos d h.valid))
pass s at w p left e d h l (i, (suc g, b, q)) =
    let n : p - at + e.size ≡ p + e.size - at = omega arith in (
      omega arith,
      (
        g,
        omega (arith, h.inside, h.size_is, layout-pos d h.valid),
        q ∙ rw (span_run (length s) g left (drop p s) d (drop (p + e.size) s) l h.is-run, h.size_is, h.count-is, further-further (p - at) e.size, n),
      ),
    )
