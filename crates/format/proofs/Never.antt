-- Reading one run never refuses with 8: that number is for places, and reading by itself has none. Assumes nothing.
use Rattle.format.proofs.Common.{◌≡◌, ◌≢◌, ℕ, zero, suc, ◌+◌, ◌-◌, ◌*◌, ◌/◌, ◌%◌, arith, Bool, true, false, List, [], ◌∷◌, length}
use Rattle.format.proofs.Common.{take, drop, leb, ltb, eqb}
use Rattle.format.specs.Fields.{pick, width, bytes_for, last_below}
use Rattle.format.specs.Runs.{patches, too_large, out_of_place, entry_width}
use Rattle.format.specs.Parse
use Rattle.format.specs.Parse.{Reason, plain, cut, cut_in, Parsed, end, got, refused, then, unless, bytes, block, varint, code_of}
use Rattle.format.specs.Parse.{rows_less, parse}

-- the number of a reason
abbrev pub reason_number : Reason → ℕ
reason_number (plain n) = n
reason_number (cut n left) = n

-- what reading gives is no refusal with 8
abbrev Never : {A : Type 0} → Parsed A → Type 0
Never end = Unit {0}
Never (got a s) = Unit {0}
Never (refused r) = reason_number r ≢ 8

then_never : {A B : Type 0} (m : Parsed A) (f : A → List ℕ → Parsed B) → Never m → ((a : A) (s : List ℕ) → Never (f a s)) → Never (then m f)
then_never end f h k = tt
then_never (got a s) f h k = k a s
then_never (refused r) f h k = h

unless-never : {A : Type 0} (b : Bool) (n : ℕ) (m : Parsed A) → n ≢ 8 → Never m → Never (unless b n m)
unless-never true n m h k = h
unless-never false n m h k = k

pick-never : {A : Type 0} (t : Bool) (m l : Parsed A) → Never m → Never l → Never (pick t m l)
pick-never true m l h k = h
pick-never false m l h k = k

module _ (c : ℕ) (h : c ≢ 8) where
  bytes-never : (n : ℕ) (bs : List ℕ) → Never (bytes c n bs)
  unfolding bytes
  bytes-never n bs = pick-never (leb n (length bs)) (got (take n bs) (drop n bs)) (refused (cut_in c bs)) tt h

  block-never : (w n : ℕ) (bs : List ℕ) → Never (block c w n bs)
  unfolding block
  block-never w n bs = then_never (bytes c (bytes_for (n * w)) bs) _ (bytes-never (bytes_for (n * w)) bs) (λ s rest. tt)

varint-never : (r : Reason) → reason_number r ≢ 8 → (k : ℕ) (bs : List ℕ) → Never (varint r k bs)
unfolding varint
varint-never r h zero bs = omega arith
varint-never r h (suc k) [] = h
varint-never r h (suc k) (b ∷ bs) =
    pick-never (ltb b 128) (unless (leb (last_below k) b) 5 (got (b ∷ []) bs)) (then (varint r k bs) λ v rest. got (b ∷ v) rest)
    (unless-never (leb (last_below k) b) 5 (got (b ∷ []) bs) (omega arith) tt)
    (then_never (varint r k bs) _ (varint-never r h k bs) (λ v s. tt))

fixed-never : (rows : ℕ) (bs : List ℕ) → Never (Parse.fixed_body rows bs)
unfolding Parse.fixed_body
fixed-never rows bs =
    then_never (varint (cut_in 12 bs) 10 bs) _ (varint-never (cut_in 12 bs) (omega arith) 10 bs) λ first s.
    then_never (varint (cut_in 12 s) 10 s) _ (varint-never (cut_in 12 s) (omega arith) 10 s) λ base rest. tt

delta-never : (code n : ℕ) (bs : List ℕ) → Never (Parse.delta_body code n bs)
unfolding Parse.delta_body
delta-never code n bs =
    then_never (varint (cut_in 12 bs) 10 bs) _ (varint-never (cut_in 12 bs) (omega arith) 10 bs) λ first s.
    then_never (varint (cut_in 12 s) 10 s) _ (varint-never (cut_in 12 s) (omega arith) 10 s) λ base t.
    then_never (block 13 (width code) n t) _ (block-never 13 (omega arith) (width code) n t) λ k rest. tt

patched-never : (code rows bw pc gw len : ℕ) (bs : List ℕ) → Never (Parse.patched_body code rows bw pc gw len bs)
unfolding Parse.patched_body
patched-never code rows bw pc gw len bs =
    unless-never (ltb 64 (width pc + gw)) 2 _ (omega arith)
    (then_never (bytes 6 bw bs) _ (bytes-never 6 (omega arith) bw bs) λ base s.
    then_never (block 13 (width code) rows s) _ (block-never 13 (omega arith) (width code) rows s) λ k t.
    then_never (block 14 (entry_width pc gw) len t) _ (block-never 14 (omega arith) (entry_width pc gw) len t) λ l rest.
    unless-never (too_large (width code) (patches (width pc) l.values)) 3 _ (omega arith)
    (unless-never (out_of_place (width pc) rows l.values) 7 _ (omega arith) tt))

by-kind : (k a : ℕ) (bs : List ℕ) → Never (Parse.by_kind k a bs)
unfolding Parse.by_kind Parse.short_run Parse.direct_run Parse.patched_run Parse.delta_run
by-kind zero a bs = then_never (bytes 6 (a / 8 + 1) bs) _ (bytes-never 6 (omega arith) (a / 8 + 1) bs) (λ v rest. tt)
by-kind (suc zero) a [] = omega arith
by-kind (suc zero) a (b ∷ bs) =
    then_never (block 13 (width (code_of a)) (rows_less a b + 1) bs) _ (block-never 13 (omega arith) (width (code_of a)) (rows_less a b + 1) bs) (λ k rest. tt)
by-kind (suc (suc zero)) a [] = omega arith
by-kind (suc (suc zero)) a (b ∷ []) = omega arith
by-kind (suc (suc zero)) a (b ∷ c ∷ []) = omega arith
by-kind (suc (suc zero)) a (b ∷ c ∷ e ∷ bs) = patched-never (code_of a) (rows_less a b + 1) (c / 32 + 1) (c % 32) (e / 32 + 1) (e % 32) bs
by-kind (suc (suc (suc k))) a [] = omega arith
by-kind (suc (suc (suc k))) a (b ∷ bs) =
    pick-never (eqb (code_of a) 0) _ _ (fixed-never (rows_less a b + 1) bs)
    (unless-never (eqb (rows_less a b) 0) 4 _ (omega arith) (delta-never (code_of a) (rows_less a b - 1) bs))

parse-never : (bs : List ℕ) → Never (parse bs)
unfolding parse
parse-never [] = tt
parse-never (a ∷ bs) = by-kind (a / 64) a bs

-- THE LAW
pub never-8 : (bs : List ℕ) (r : Reason) → parse bs ≡ refused r → reason_number r ≢ 8
never-8 bs r e = rw e at (parse-never bs)
