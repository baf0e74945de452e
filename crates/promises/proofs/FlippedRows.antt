-- The rows of runs by their fields, and the two varints that stand before a delta run's packed block. Assumes nothing.
use Rattle.format.proofs.Common.{◌≡◌, refl, sym, ap, ◌∙◌, ℕ, zero, suc, ◌+◌, ◌^◌, ◌<◌, ◌≤◌, arith, Bool, true, false, List, [], ◌∷◌, ◌++◌}
use Rattle.format.proofs.Common.{map, append_assoc, length, get_or, take, drop, length-append, length-take, take-append-drop, List·getD-map}
use Rattle.format.proofs.Common.{take-append-le, take-append_seam, get_or-take, ext_get_or, leb, ℤ, pos}
use Rattle.format.specs.Fields.{row, zigzag, Block, Varint, varint_value}
use Rattle.format.specs.Runs.{direct, delta}
use Rattle.format.specs.Rows.{rows_of, i64_rows, as_i64, plus, walk}
use Rattle.format.specs.Parse.{plain, got, varint}
use Rattle.format.proofs.Fields.{varint-complete}

-- ---- direct

pub direct-row : (signed : Bool) (code : ℕ) (k : Block) (i : ℕ) → get_or (i64_rows signed (direct code k)) i (pos 0) ≡ as_i64 (row signed (get_or k.values i 0))
unfolding i64_rows rows_of as_i64 row zigzag
direct-row signed code k i =
    ap (λ (z : ℤ). get_or (map as_i64 (map (row signed) k.values)) i z) (zero_row signed)
    ∙ List·getD-map as_i64 (map (row signed) k.values) i (row signed 0) ∙ ap as_i64 (List·getD-map (row signed) k.values i 0)
  where
    zero_row : (signed : Bool) → pos 0 ≡ as_i64 (row signed 0)
    zero_row true = refl
    zero_row false = refl

-- ---- packed delta

-- an element of two beginnings that are equal
pub at_take : (n i : ℕ) (l l' : List ℤ) → i < n → take n l ≡ take n l' → get_or l i (pos 0) ≡ get_or l' i (pos 0)
at_take n i l l' h e = sym (get_or-take n l i (pos 0) h) ∙ ap (λ (t : List ℤ). get_or t i (pos 0)) e ∙ get_or-take n l' i (pos 0) h

-- varints that two lists begin with
varint-same : (v v' s s' : List ℕ) → Varint 10 v → Varint 10 v' → v ++ s ≡ v' ++ s' → (v ≡ v') × (s ≡ s')
varint-same v v' s s' h h' e =
    let g : got v s ≡ got v' s' = sym (varint-complete (plain 6) 10 v s h) ∙ ap (varint (plain 6) 10) e ∙ varint-complete (plain 6) 10 v' s' h' in
    (cc, cc)

-- a list that begins with p, and has s for a beginning too that is no shorter
begins : (p q s t : List ℕ) → p ++ q ≡ s ++ t → length p ≤ length s → s ≡ p ++ drop (length p) s
begins p q s t e h =
    let f : take (length p) s ≡ p = sym (take-append-le (length p) s t h) ∙ ap (take (length p)) (sym e) ∙ take-append_seam p q in
    sym (take-append-drop (length p) s) ∙ ap (λ (l : List ℕ). l ++ drop (length p) s) f

walk-take : (falling : Bool) (n x : ℕ) (ms : List ℕ) → take n (walk falling x ms) ≡ walk falling x (take n ms)
unfolding walk
walk-take falling zero x ms = refl
walk-take falling (suc n) x [] = refl
walk-take falling (suc n) x (m ∷ ms) = rw (walk-take falling n _ ms)

map-take : {A B : Type 0} (f : A → B) (n : ℕ) (l : List A) → take n (map f l) ≡ map f (take n l)
map-take f zero l = refl
map-take f (suc n) [] = refl
map-take f (suc n) (x ∷ l) = ap (λ (t : List _). f x ∷ t) (map-take f n l)

rows_take : (falling : Bool) (n x : ℕ) (ms ms' : List ℕ) → take n ms ≡ take n ms'
    → take n (map as_i64 (walk falling x ms)) ≡ take n (map as_i64 (walk falling x ms'))
rows_take falling n x ms ms' e =
    rw (map-take as_i64 n (walk falling x ms), map-take as_i64 n (walk falling x ms'), walk-take falling n x ms, walk-take falling n x ms', e)

pub delta-rows : (signed : Bool) (code : ℕ) (first base : List ℕ) (k k' : Block) (n : ℕ) → take n k.values ≡ take n k'.values
    → take (2 + n) (i64_rows signed (delta code first base k)) ≡ take (2 + n) (i64_rows signed (delta code first base k'))
unfolding i64_rows rows_of
delta-rows signed code first base k k' n e =
    let c : 2 + n ≡ suc (suc n) = omega arith in
    let x : ℕ = row signed (varint_value first) in
    let step : ℕ = zigzag (varint_value base) in
    let y : ℕ = plus x step in
    rw c (ap (λ (l : List ℤ). as_i64 x ∷ as_i64 y ∷ l) (rows_take (leb (2 ^ 63) step) n y k.values k'.values e))

-- fields that are equal one by one
pub same-take : (n : ℕ) (l l' : List ℕ) → length l ≡ length l' → ((i : ℕ) → i < n → i < length l → get_or l i 0 ≡ get_or l' i 0) → take n l ≡ take n l'
same-take n l l' e h =
    ext_get_or 0 (take n l) (take n l') (rw (length-take n l, length-take n l', e)) λ i p.
    let q = length-take n l in
    rw (get_or-take n l i 0 (omega arith), get_or-take n l' i 0 (omega arith)) (h i (omega arith) (omega arith))

-- first row and base delta stand before the byte, and are the same
pub record Behind (first first' base base' bk bk' q q' s t t' : List ℕ) : Type 0 where
  pub same_first : first ≡ first'
  pub same_base : base ≡ base'
  pub u : List ℕ
  pub size : length s ≡ length first + length base + length u
  pub left : bk ++ q ≡ u ++ t
  pub right : bk' ++ q' ≡ u ++ t'

pub behind-varints : (first first' base base' bk bk' q q' s t t' : List ℕ) → Varint 10 first → Varint 10 first' → Varint 10 base → Varint 10 base'
    → s ++ t ≡ (first ++ (base ++ bk)) ++ q → s ++ t' ≡ (first' ++ (base' ++ bk')) ++ q' → length first + length base ≤ length s
    → Behind first first' base base' bk bk' q q' s t t'
behind-varints first first' base base' bk bk' q q' s t t' vf vf' vb vb' e e' h =
    let u : List ℕ = drop (length (first ++ base)) s in
    let l : length (first ++ base) ≡ length first + length base = length-append first base in
    let g : s ≡ (first ++ base) ++ u = begins (first ++ base) (bk ++ q) s t (simp append_assoc (sym (simp append_assoc at e))) (omega arith) in
    let r : (z : List ℕ) → s ++ z ≡ first ++ (base ++ (u ++ z)) = λ z. ap (λ (w : List ℕ). w ++ z) g ∙ simp append_assoc in
    let p = varint-same first first (base ++ (bk ++ q)) (base ++ (u ++ t)) vf vf (sym (simp append_assoc at e) ∙ r t) in
    let o = varint-same base base (bk ++ q) (u ++ t) vb vb p.1 in
    let p' = varint-same first' first (base' ++ (bk' ++ q')) (base ++ (u ++ t')) vf' vf (sym (simp append_assoc at e') ∙ r t') in
    let o' = varint-same base' base (bk' ++ q') (u ++ t') vb' vb p'.1 in
    record {
      same_first = sym p'.0;
      same_base = sym o'.0;
      u = u;
      size = omega (arith, length-append (first ++ base) u, ap length g);
      left = o.1;
      right = o'.1;
    }
