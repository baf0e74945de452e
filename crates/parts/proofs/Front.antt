-- The first 22 bytes of a run and how many bytes there are tell whether it is unfinished: its packed rows are not looked at for that. And a short repeat or a
-- direct run is refused for nothing else. Assumes nothing.
use Rattle.std.proofs.Common.{◌≡◌, ℕ, zero, suc, ◌+◌, ◌-◌, ◌*◌, ◌/◌, ◌%◌, ◌<◌, ◌≤◌, Bool, true, false, T, eqb, ltb, leb, List, [], ◌∷◌, ◌++◌, length, take, drop, sym, refl, ap, ◌∙◌, arith, length-append, length-drop}
use Rattle.format.specs.Fields.{pick, width, bytes_for, last_below}
use Rattle.format.specs.Runs.{Description, patches, too_large, out_of_place, entry_width}
use Rattle.format.specs.Parse
use Rattle.format.specs.Parse.{Reason, plain, cut_in, unfinished, Parsed, end, got, refused, then, unless, bytes, block, varint, code_of, rows_less, parse}
use Rattle.format.proofs.Tests.{never}

-- reading is refused, since the input ended too soon (true) or for good (false)
pub data Stops {A : Type 0} (b : Bool) : Parsed A → Type 0 where
  stops : {r : Reason} → unfinished r ≡ b → Stops b (refused r)

-- ---- fields of a fixed length: it alone decides

data Even {A : Type 0} : Parsed A → Parsed A → Type 0 where
  even-got : {a b : A} {s t : List ℕ} → length s ≡ length t → Even (got a s) (got b t)
  even-cut : {r r' : Reason} → unfinished r ≡ true → unfinished r' ≡ true → Even (refused r) (refused r')

then-even : {A B : Type 0} {b : Bool} {m m' : Parsed A} {f g : A → List ℕ → Parsed B}
    → Even m m' → ((v v' : A) (s t : List ℕ) → length s ≡ length t → Stops b (f v s) → Stops b (g v' t)) → Stops b (then m f) → Stops b (then m' g)
then-even (even-got {a} {b} {s} {t} e) h u = h a b s t e u
then-even (even-cut c c') h (stops e) = stops (c' ∙ sym c ∙ e)

bytes-even : (c n : ℕ) (s t : List ℕ) → length s ≡ length t → Even (bytes c n s) (bytes c n t)
unfolding bytes
bytes-even c n s t e = go (leb n (length s)) (leb n (length t)) (ap (leb n) e)
  where
    by : Bool → List ℕ → Parsed (List ℕ)
    by b s = pick b (got (take n s) (drop n s)) (refused (cut_in c s))

    same_test : (b : Bool) → Even (by b s) (by b t)
    same_test true = even-got (length-drop n s ∙ ap (λ (k : ℕ). k - n) e ∙ sym (length-drop n t))
    same_test false = even-cut refl refl

    go : (b b' : Bool) → b ≡ b' → Even (by b s) (by b' t)
    go b b' q = rw (← q) (same_test b)

block-even : (c w n : ℕ) (s t : List ℕ) → length s ≡ length t → Even (block c w n s) (block c w n t)
unfolding block
block-even c w n s t e = go (bytes-even c (bytes_for (n * w)) s t e)
  where
    go : {m m' : Parsed (List ℕ)} → Even m m'
        → Even (then m λ v rest. got (Parse.unpack w n (Rattle.format.specs.Digits.number 256 v)) rest)
        (then m' λ v rest. got (Parse.unpack w n (Rattle.format.specs.Digits.number 256 v)) rest)
    go (even-got e) = even-got e
    go (even-cut c c') = even-cut c c'

-- what is read is not refused, and other numbers than 1 stand for no unfinished run
not-got : {A B : Type 0} {b : Bool} {a : A} {s : List ℕ} → Stops b (got a s) → B
not-got = elim [ ]

not-unless : {A B : Type 0} {m : Parsed A} (t : Bool) (n : ℕ) → eqb n 1 ≡ false → (Stops true m → B) → Stops true (unless t n m) → B
not-unless {A = A} {B = B} true n h k = go
  where
    go : Stops {A = A} true (refused (plain n)) → B
    go (stops e) = never (cc)
not-unless false n h k = k

-- ---- a varint that lies in the first bytes

data Behind (x y : List ℕ) (n : ℕ) : List ℕ → List ℕ → Type 0 where
  behind : (p : List ℕ) → n ≤ length p → Behind x y n (p ++ x) (p ++ y)

data Ahead (x y : List ℕ) (n : ℕ) : Parsed (List ℕ) → Parsed (List ℕ) → Type 0 where
  same : {v s t : List ℕ} → Behind x y n s t → Ahead x y n (got v s) (got v t)
  too_long : Ahead x y n (refused (plain 5)) (refused (plain 5))

module _ (x y : List ℕ) where
  varint-ahead : (r r' : Reason) (n k : ℕ) (p : List ℕ) → k + n ≤ length p → Ahead x y n (varint r k (p ++ x)) (varint r' k (p ++ y))
  unfolding varint
  varint-ahead r r' n zero p h = too_long
  varint-ahead r r' n (suc k) [] h = absurd (omega arith)
  varint-ahead r r' n (suc k) (b ∷ p) h = by-top (ltb b 128) (λ l. varint-ahead r r' n k p l)
    where
      by_last : (t : Bool) → Ahead x y n (unless t 5 (got (b ∷ []) (p ++ x))) (unless t 5 (got (b ∷ []) (p ++ y)))
      by_last true = too_long
      by_last false = same (behind p (omega arith))

      more : {m m' : Parsed (List ℕ)} → Ahead x y n m m' → Ahead x y n (then m λ v rest. got (b ∷ v) rest) (then m' λ v rest. got (b ∷ v) rest)
      more (same q) = same q
      more too_long = too_long

      by-top : (t : Bool) → (k + n ≤ length p → Ahead x y n (varint r k (p ++ x)) (varint r' k (p ++ y)))
          → Ahead x y n (pick t (unless (leb (last_below k) b) 5 (got (b ∷ []) (p ++ x))) (then (varint r k (p ++ x)) λ v rest. got (b ∷ v) rest))
          (pick t (unless (leb (last_below k) b) 5 (got (b ∷ []) (p ++ y))) (then (varint r' k (p ++ y)) λ v rest. got (b ∷ v) rest))
      by-top true f = by_last (leb (last_below k) b)
      by-top false f = more (f (omega arith))

  then-ahead : {B : Type 0} {b : Bool} {n : ℕ} {m m' : Parsed (List ℕ)} {f g : List ℕ → List ℕ → Parsed B} → Ahead x y n m m'
      → ((v s t : List ℕ) → Behind x y n s t → Stops b (f v s) → Stops b (g v t)) → Stops b (then m f) → Stops b (then m' g)
  then-ahead (same {v} {s} {t} q) h u = h v s t q u
  then-ahead too_long h u = u

-- ---- a run

module _ (x y : List ℕ) (e : length x ≡ length y) where
  longer : (p : List ℕ) → length (p ++ x) ≡ length (p ++ y)
  longer p = length-append p x ∙ ap (λ (k : ℕ). length p + k) e ∙ sym (length-append p y)

  module _ {how : Bool} where
    short-alike : (a : ℕ) (p : List ℕ) → Stops how (Parse.short_run a (p ++ x)) → Stops how (Parse.short_run a (p ++ y))
    unfolding Parse.short_run
    short-alike a p = then-even (bytes-even 6 (a / 8 + 1) (p ++ x) (p ++ y) (longer p)) λ v v' s t l u. not-got u

    direct-alike : (a b : ℕ) (p : List ℕ) → Stops how (Parse.direct_run a (b ∷ (p ++ x))) → Stops how (Parse.direct_run a (b ∷ (p ++ y)))
    unfolding Parse.direct_run
    direct-alike a b p = then-even (block-even 13 (width (code_of a)) (rows_less a b + 1) (p ++ x) (p ++ y) (longer p)) λ v v' s t l u. not-got u

    -- two varints, and what follows them
    varints-alike : {B : Type 0} {f g : List ℕ → List ℕ → List ℕ → Parsed B} (p : List ℕ) → 20 ≤ length p
        → ((first base s t : List ℕ) → length s ≡ length t → Stops how (f first base s) → Stops how (g first base t))
        → Stops how (then (varint (cut_in 12 (p ++ x)) 10 (p ++ x)) λ first s. then (varint (cut_in 12 s) 10 s) λ base t. f first base t)
        → Stops how (then (varint (cut_in 12 (p ++ y)) 10 (p ++ y)) λ first s. then (varint (cut_in 12 s) 10 s) λ base t. g first base t)
    varints-alike {f = f} {g = g} p h k = then-ahead x y (varint-ahead x y _ _ 10 10 p (omega arith)) (λ first s t b. second first s t b)
      where
        third : (first base s t : List ℕ) → Behind x y 0 s t → Stops how (f first base s) → Stops how (g first base t)
        third first base s t (behind q l) = k first base (q ++ x) (q ++ y) (longer q)

        second : (first s t : List ℕ) → Behind x y 10 s t
            → Stops how (then (varint (cut_in 12 s) 10 s) λ base t. f first base t) → Stops how (then (varint (cut_in 12 t) 10 t) λ base t. g first base t)
        second first s t (behind q l) = then-ahead x y (varint-ahead x y _ _ 0 10 q (omega arith)) (third first)

    fixed_alike : (rows : ℕ) (p : List ℕ) → 20 ≤ length p → Stops how (Parse.fixed_body rows (p ++ x)) → Stops how (Parse.fixed_body rows (p ++ y))
    unfolding Parse.fixed_body
    fixed_alike rows p h = varints-alike p h λ first base s t l u. not-got u

    delta-alike : (code n : ℕ) (p : List ℕ) → 20 ≤ length p → Stops how (Parse.delta_body code n (p ++ x)) → Stops how (Parse.delta_body code n (p ++ y))
    unfolding Parse.delta_body
    delta-alike code n p h =
        varints-alike p h λ first base s t l. then-even (block-even 13 (width code) n s t l) λ v v' s' t' l' u. not-got u

    by-delta : (a b : ℕ) (p : List ℕ) → 20 ≤ length p → Stops how (Parse.delta_run a (b ∷ (p ++ x))) → Stops how (Parse.delta_run a (b ∷ (p ++ y)))
    unfolding Parse.delta_run
    by-delta a b p h = by_code (eqb (code_of a) 0)
      where
        by_rows : (t : Bool) → Stops how (unless t 4 (Parse.delta_body (code_of a) (rows_less a b - 1) (p ++ x)))
            → Stops how (unless t 4 (Parse.delta_body (code_of a) (rows_less a b - 1) (p ++ y)))
        by_rows true = λ u. u
        by_rows false = delta-alike (code_of a) (rows_less a b - 1) p h

        by_code : (t : Bool)
            → Stops how (pick t (Parse.fixed_body (rows_less a b + 1) (p ++ x))
            (unless (eqb (rows_less a b) 0) 4 (Parse.delta_body (code_of a) (rows_less a b - 1) (p ++ x))))
            → Stops how (pick t (Parse.fixed_body (rows_less a b + 1) (p ++ y))
            (unless (eqb (rows_less a b) 0) 4 (Parse.delta_body (code_of a) (rows_less a b - 1) (p ++ y))))
        by_code true = fixed_alike (rows_less a b + 1) p h
        by_code false = by_rows (eqb (rows_less a b) 0)

    -- .. and a delta run's also whether it is refused for good
    pub delta-told : (a : ℕ) (p : List ℕ) → 3 ≤ a / 64 → 22 ≤ length (a ∷ p) → Stops how (parse (a ∷ (p ++ x))) → Stops how (parse (a ∷ (p ++ y)))
    unfolding parse Parse.by_kind
    delta-told a [] d h = absurd (omega arith)
    delta-told a (b ∷ p) d h = go (a / 64) d
      where
        go : (k : ℕ) → 3 ≤ k → Stops how (Parse.by_kind k a (b ∷ (p ++ x))) → Stops how (Parse.by_kind k a (b ∷ (p ++ y)))
        go zero l = absurd (omega arith)
        go (suc zero) l = absurd (omega arith)
        go (suc (suc zero)) l = absurd (omega arith)
        go (suc (suc (suc k))) l = by-delta a b p (omega arith)

  patched-alike : (code rows bw pc gw len : ℕ) (p : List ℕ)
      → Stops true (Parse.patched_body code rows bw pc gw len (p ++ x)) → Stops true (Parse.patched_body code rows bw pc gw len (p ++ y))
  unfolding Parse.patched_body
  patched-alike code rows bw pc gw len p = by-widths (ltb 64 (width pc + gw))
    where
      body : List ℕ → Parsed Description
      body bs =
          then (bytes 6 bw bs) λ base s. then (block 13 (width code) rows s) λ k t. then (block 14 (entry_width pc gw) len t) λ l rest.
          unless (too_large (width code) (patches (width pc) l.values)) 3
          (unless (out_of_place (width pc) rows l.values) 7 (got (Rattle.format.specs.Runs.patched code base pc gw k l) rest))

      by-widths : (t : Bool) → Stops true (unless t 2 (body (p ++ x))) → Stops true (unless t 2 (body (p ++ y)))
      by-widths true = λ u. u
      by-widths false =
          then-even (bytes-even 6 bw (p ++ x) (p ++ y) (longer p)) λ base base' s s' h.
          then-even (block-even 13 (width code) rows s s' h) λ k k' t t' h'.
          then-even (block-even 14 (entry_width pc gw) len t t' h') λ l l' u u' h''.
          not-unless (too_large (width code) (patches (width pc) l.values)) 3 refl (not-unless (out_of_place (width pc) rows l.values) 7 refl not-got)

  pub alike : (p : List ℕ) → 22 ≤ length p → Stops true (parse (p ++ x)) → Stops true (parse (p ++ y))
  unfolding parse Parse.by_kind Parse.patched_run
  alike [] h = absurd (omega arith)
  alike (a ∷ []) h = absurd (omega arith)
  alike (a ∷ b ∷ []) h = absurd (omega arith)
  alike (a ∷ b ∷ c ∷ []) h = absurd (omega arith)
  alike (a ∷ b ∷ c ∷ d ∷ p) h = go (a / 64)
    where
      go : (k : ℕ) → Stops true (Parse.by_kind k a (b ∷ c ∷ d ∷ (p ++ x))) → Stops true (Parse.by_kind k a (b ∷ c ∷ d ∷ (p ++ y)))
      go zero = short-alike a (b ∷ c ∷ d ∷ p)
      go (suc zero) = direct-alike a b (c ∷ d ∷ p)
      go (suc (suc zero)) = patched-alike (code_of a) (rows_less a b + 1) (c / 32 + 1) (c % 32) (d / 32 + 1) (d % 32) p
      go (suc (suc (suc k))) = by-delta a b (c ∷ d ∷ p) (omega arith)

-- ---- short repeat and direct runs

data Patient {A : Type 0} : Parsed A → Type 0 where
  read : {a : A} {s : List ℕ} → Patient (got a s)
  cut_off : {r : Reason} → T (unfinished r) → Patient (refused r)

then-patient : {A B : Type 0} {m m' : Parsed A} {f : A → List ℕ → Parsed B} → Even m m' → ((a : A) (s : List ℕ) → Patient (f a s)) → Patient (then m' f)
then-patient (even-got {b} {t} e) h = h b t
then-patient (even-cut {r'} c c') h = cut_off {r = r'} (rw c' tt)

by-kind : (a : ℕ) (bs : List ℕ) → a / 64 < 2 → Patient (parse (a ∷ bs))
unfolding parse Parse.by_kind Parse.short_run Parse.direct_run
by-kind a bs h = go (a / 64) h bs
  where
    go : (k : ℕ) → k < 2 → (bs : List ℕ) → Patient (Parse.by_kind k a bs)
    go zero h bs = then-patient (bytes-even 6 (a / 8 + 1) bs bs refl) λ v s. read
    go (suc zero) h [] = cut_off tt
    go (suc zero) h (b ∷ bs) = then-patient (block-even 13 (width (code_of a)) (rows_less a b + 1) bs bs refl) λ v s. read
    go (suc (suc k)) h bs = absurd (omega arith)

pub patient : (a : ℕ) (bs : List ℕ) (r : Reason) → a / 64 < 2 → parse (a ∷ bs) ≡ refused r → T (unfinished r)
patient a bs r h e = go (rw e at (by-kind a bs h))
  where
    go : Patient {A = Description} (refused r) → T (unfinished r)
    go (cut_off c) = c
