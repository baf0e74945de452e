-- How many bytes reading one run looks at: an unfinished run has fewer than 4,356, and a run that is read has taken no more. Assumes nothing.
use Rattle.format.proofs.Common.{◌≡◌, refl, ℕ, zero, suc, ◌+◌, ◌-◌, ◌*◌, ◌/◌, ◌%◌, ◌<◌, ◌≤◌, mul-le-mul, arith, Bool, true, false}
use Rattle.format.proofs.Common.{not, List, [], ◌∷◌, length, take, drop, length-drop, T, T_not, leb, ltb, eqb, nleb→lt}
use Rattle.format.specs.Digits.{AllBelow}
use Rattle.format.specs.Fields.{pick, width, bytes_for, last_below}
use Rattle.format.specs.Runs.{Description, patches, too_large, out_of_place, entry_width}
use Rattle.format.specs.Parse
use Rattle.format.specs.Parse.{Reason, plain, cut_in, unfinished, Parsed, end, got, refused, then, unless, bytes, block, varint}
use Rattle.format.specs.Parse.{code_of, rows_less, parse}
use Rattle.format.proofs.Rows.{width-le}
use Rattle.format.proofs.Widths.{least-le}

-- reading the bytes bs looks at n of them at most: what is unfinished has fewer, and what is read has taken no more
pub data Within {A : Type 0} (n : ℕ) (bs : List ℕ) : Parsed A → Type 0 where
  at-end : Within n bs end
  took : {a : A} {s : List ℕ} → length bs ≤ n + length s → Within n bs (got a s)
  short-of : {r : Reason} → length bs < n → Within n bs (refused r)
  for-good : {r : Reason} → T (not (unfinished r)) → Within n bs (refused r)

-- more bytes allowed, of a longer list
widen : {A : Type 0} {n k : ℕ} {bs cs : List ℕ} {m : Parsed A} → Within n bs m → length cs + n ≤ length bs + k → Within k cs m
widen at-end h = at-end
widen (took {s} l) h = took {s = s} (omega arith)
widen (short-of l) h = short-of (omega arith)
widen (for-good u) h = for-good u

-- nothing more is looked at
all_read : {A : Type 0} {a : A} {s : List ℕ} → Within 0 s (got a s)
all_read {s} = took {s = s} (omega arith)

then-within : {A B : Type 0} {n k : ℕ} {bs : List ℕ} {m : Parsed A} {f : A → List ℕ → Parsed B}
    → Within n bs m → ((a : A) (s : List ℕ) → Within k s (f a s)) → Within (n + k) bs (then m f)
then-within at-end h = at-end
then-within (took {a} {s} l) h = widen (h a s) (omega arith)
then-within (short-of l) h = short-of (omega arith)
then-within (for-good u) h = for-good u

unless-within : {A : Type 0} {n : ℕ} {bs : List ℕ} {m : Parsed A} (b : Bool) (c : ℕ) → T (not (unfinished (plain c)))
    → Within n bs m → Within n bs (unless b c m)
unless-within true c u h = for-good u
unless-within false c u h = h

pick-within : {A : Type 0} {n : ℕ} {bs : List ℕ} {m l : Parsed A} (b : Bool) → Within n bs m → Within n bs l → Within n bs (pick b m l)
pick-within true h k = h
pick-within false h k = k

bytes-within : (c n : ℕ) (bs : List ℕ) → Within n bs (bytes c n bs)
unfolding bytes
bytes-within c n bs = go (leb n (length bs)) refl
  where
    go : (t : Bool) → leb n (length bs) ≡ t → Within n bs (pick t (got (take n bs) (drop n bs)) (refused (cut_in c bs)))
    go true e = took {s = drop n bs} (omega (arith, length-drop n bs))
    go false e = short-of (nleb→lt n (length bs) (rw e tt))

-- a block of at most m fields of at most 64 bits
block_within : (c w n m : ℕ) (bs : List ℕ) → w ≤ 64 → n ≤ m → Within (8 * m) bs (block c w n bs)
unfolding block
block_within c w n m bs hw hn =
    widen (then-within (bytes-within c (bytes_for (n * w)) bs) λ v s. all_read) (omega (arith, mul-le-mul hn hw))

varint-within : (r : Reason) (k : ℕ) (bs : List ℕ) → Within k bs (varint r k bs)
unfolding varint
varint-within r zero bs = for-good tt
varint-within r (suc k) [] = short-of (omega arith)
varint-within r (suc k) (b ∷ bs) =
    pick-within (ltb b 128) (unless-within (leb (last_below k) b) 5 tt (took {s = bs} (omega arith)))
    (widen (then-within (varint-within r k bs) λ v s. all_read) (omega arith))

short-within : (a : ℕ) (bs : List ℕ) → a / 64 ≡ 0 → Within 4355 bs (Parse.short_run a bs)
unfolding Parse.short_run
short-within a bs e = widen (then-within (bytes-within 6 (a / 8 + 1) bs) λ v s. all_read) (omega arith)

direct-within : (a : ℕ) (bs : List ℕ) → AllBelow 256 bs → Within 4355 bs (Parse.direct_run a bs)
unfolding Parse.direct_run
direct-within a [] h = short-of (omega arith)
direct-within a (b ∷ bs) h =
    widen (then-within (block_within _ (width (code_of a)) (rows_less a b + 1) 512 bs (width-le (code_of a)) (omega (arith, h.0))) λ k s. all_read)
    (omega arith)

delta-within : (a : ℕ) (bs : List ℕ) → AllBelow 256 bs → Within 4355 bs (Parse.delta_run a bs)
unfolding Parse.delta_run Parse.fixed_body Parse.delta_body
delta-within a [] h = short-of (omega arith)
delta-within a (b ∷ bs) h =
    pick-within (eqb (code_of a) 0)
    (widen (then-within (varint-within _ 10 bs) λ first s. then-within (varint-within _ 10 s) λ base rest. all_read) (omega arith))
    (unless-within (eqb (rows_less a b) 0) 4 tt
    (widen (then-within (varint-within _ 10 bs) λ first s. then-within (varint-within _ 10 s) λ base t.
    then-within (block_within _ (width (code_of a)) (rows_less a b - 1) 512 t (width-le (code_of a)) (omega (arith, h.0))) λ k rest. all_read) (omega arith)))

patched-within : (a : ℕ) (bs : List ℕ) → AllBelow 256 bs → Within 4355 bs (Parse.patched_run a bs)
unfolding Parse.patched_run Parse.patched_body
patched-within a [] h = short-of (omega arith)
patched-within a (b ∷ []) h = short-of (omega arith)
patched-within a (b ∷ c ∷ []) h = short-of (omega arith)
patched-within a (b ∷ c ∷ e ∷ bs) h =
    unless-within (ltb 64 (width (c % 32) + (e / 32 + 1))) 2 tt
    (widen (then-within (bytes-within 6 (c / 32 + 1) bs) λ base s.
    then-within (block_within _ (width (code_of a)) (rows_less a b + 1) 512 s (width-le (code_of a)) (omega (arith, h.0))) λ k t.
    then-within (block_within _ (entry_width (c % 32) (e / 32 + 1)) (e % 32) 31 t (least-le _) (omega arith)) λ l rest.
    unless-within (too_large (width (code_of a)) (patches (width (c % 32)) l.values)) 3 tt
    (unless-within (out_of_place (width (c % 32)) (rows_less a b + 1) l.values) 7 tt all_read))
    (omega (arith, h.1.0)))

pub parse-within : (bs : List ℕ) → AllBelow 256 bs → Within 4356 bs (parse bs)
unfolding parse Parse.by_kind
parse-within [] h = at-end
parse-within (a ∷ bs) h = widen (go (a / 64) refl) (omega arith)
  where
    go : (k : ℕ) → a / 64 ≡ k → Within 4355 bs (Parse.by_kind k a bs)
    go zero e = short-within a bs e
    go (suc zero) e = direct-within a bs h.1
    go (suc (suc zero)) e = patched-within a bs h.1
    go (suc (suc (suc k))) e = delta-within a bs h.1

pub unfinished-short : (bs : List ℕ) (r : Reason) → AllBelow 256 bs → parse bs ≡ refused r → T (unfinished r) → length bs < 4356
unfinished-short bs r b e u = go (rw e at (parse-within bs b))
  where
    go : Within {A = Description} 4356 bs (refused r) → length bs < 4356
    go (short-of l) = l
    go (for-good n) = absurd (T_not (unfinished r) n u)
