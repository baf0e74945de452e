-- What stands in the input after a read, and what is left of it. Assumes nothing.
use Rattle.std.proofs.Common.{◌≡◌, ℕ, zero, suc, ◌+◌, ◌-◌, ◌≤◌, min, true, false, List, [], ◌++◌, length, take, drop, ℤ, pos, negsuc, sym, refl, ap, ◌∙◌, arith, length-drop, take-append-drop, length-take, length-take-le, take_all, take-take, w64, SFits, of_z, lt-ltb}
use lib.Signed.{lt_z}
use borrow.Rule.Slice.PartMut.{put_mid, same_len_mid, take_put}
use Rattle.format.proofs.Tests.{never}
use Rattle.util.proofs.Grow.{rest-is}
use Rattle.blocks.specs.Blocks.{begun_from, NoNewline, kept, part, came, Kept, Came, Carried}
use Rattle.blocks.proofs.Begun.{begun-append, begun-open, no-take}

-- ---- what the system answered

-- nothing came
pub none_came : (z : ℤ) → lt_z (pos 0) z ≡ false → came z ≡ 0
none_came (pos zero) h = refl
none_came (pos (suc k)) h = never (cc (sym (lt-ltb 0 (suc k) (omega arith)) ∙ h))
none_came (negsuc k) h = refl

-- something came, the input has ended, or the read failed: as the programs test it
pub some-came : (z : ℤ) → lt_z (pos 0) z ≡ true → (k : ℕ) × (z ≡ pos (suc k))
some-came (pos zero) h = never (cc)
some-came (pos (suc k)) h = (k, refl)
some-came (negsuc k) h = never (cc)

pub at-end : (z : ℤ) → SFits w64 z → of_z w64 z ≡ 0 → z ≡ pos 0
at-end (pos zero) f h = refl
at-end (pos (suc k)) f h = absurd (omega (arith, h))
at-end (negsuc k) f h = absurd (omega (arith, f.sfits, h))

pub read-failed : (z : ℤ) → lt_z (pos 0) z ≡ false → (of_z w64 z ≡ 0 → ⊥) → (k : ℕ) × (z ≡ negsuc k)
read-failed (pos zero) h n = absurd (n refl)
read-failed (pos (suc k)) h n = never (cc (lt-ltb 0 (suc k) (omega arith)))
read-failed (negsuc k) h n = (k, refl)

-- then there is only what was held
pub held_all : (s : List ℕ) (n : ℕ) (z : ℤ) → length s ≡ n + came z → lt_z (pos 0) z ≡ false → NoNewline (take n s) → (n ≡ length s) × NoNewline s
held_all s n z l h k = (omega (arith, l, none_came z h), rw (take_all n s (omega (arith, l, none_came z h))) at k)

-- the system never says that more came than there was room for
pub came-is : (z : ℤ) (n : ℕ) → came z ≤ n → min (came z) n ≡ came z
came-is z n h = omega arith

-- what is kept of a part of the input has room in it
pub kept-le : (line x₀ x : List ℕ) (n : ℕ) → Kept line x₀ x n → length line ≤ length x₀ → length x ≡ length x₀ → n ≤ length x
kept-le line x₀ x n k w e = omega (arith, k.count, length-take 8801 line, w, e)

-- ---- a read: `x` after what is kept was moved, and the bytes `new` in the places behind it
module _ (line x₀ x new : List ℕ) (n : ℕ) (k : Kept line x₀ x n) (w : length line ≤ length x₀) (e : length x ≡ length x₀)
    (l : length new ≡ length (take (length x - n) (drop n x))) where
  h : n ≤ length x
  h = kept-le line x₀ x n k w e

  abbrev whole : List ℕ
  whole = put_mid n (length x - n) x new

  whole_length : length whole ≡ length x
  whole_length = same_len_mid n (length x - n) x new l

  pub held-le : n ≤ length whole
  held-le = omega (arith, h, whole_length)

  pub room-is : length (take (length whole - n) (drop n whole)) ≡ length (take (length x - n) (drop n x))
  room-is = rw (rest-is whole n, rest-is x n, length-drop, length-drop, whole_length)

  pub stop_le : (m : ℕ) → m ≤ length (take (length whole - n) (drop n whole)) → n + m ≤ length whole
  stop_le m q = omega (arith, h, whole_length, q, ap length (rest-is whole n), length-drop n whole)

  pub front-is : take n whole ≡ kept line
  front-is = take_put n (length x - n) x new h ∙ k.front

-- ---- after a read
module _ (line input : List ℕ) (held stop : ℕ) (got : ℤ) (c : Came line input held stop got) where
  pub stop-long : length (take stop input) ≡ held + came got
  stop-long = length-take-le stop input c.within ∙ c.stop_is

  pub front-held : take held (take stop input) ≡ kept line
  front-held = take-take held stop input (omega (arith, c.stop_is)) ∙ c.front

  pub held-open : NoNewline line → NoNewline (take held (take stop input))
  held-open o = rw front-held (no-take 8801 line o)

  -- what was kept, and the block that came behind it
  pub block-long : length (part held stop input) ≡ came got
  block-long = rw length-drop (omega (arith, stop-long))

  pub input-whole : kept line ++ part held stop input ≡ take stop input
  input-whole = ap (λ (l : List ℕ). l ++ part held stop input) (sym front-held) ∙ take-append-drop held (take stop input)

  -- nothing came: there is only what was held
  pub only-held : came got ≡ 0 → (held ≡ length (take stop input)) × (kept line ≡ take stop input)
  only-held z =
      let e : held ≡ length (take stop input) = omega (arith, stop-long, z) in
      (e, sym front-held ∙ take_all held (take stop input) (omega (arith, e)))

  pub carried : (from end : ℕ) → end ≡ length (take stop input) → from ≤ end → begun_from [] (take from (take stop input)) ≡ []
      → NoNewline (drop from (take stop input))
      → Carried line input from end
  carried from end l o b n =
      let e : end ≡ stop = l ∙ length-take-le stop input c.within in
      record {
        front = rw (← c.count) c.front;
        behind = omega (arith, e, c.count, c.stop_is);
        within = omega (arith, e, c.within);
        order = o;
        whole = rw e b;
        begun = rw e n;
      }

-- ---- what is left of a turn
module _ (line input : List ℕ) (from end : ℕ) (c : Carried line input from end) where
  abbrev block : List ℕ
  block = part (length (kept line)) end input

  -- what stands in the input is what was kept, and the block
  input-is : take end input ≡ kept line ++ block
  input-is =
      let n = length (kept line) in
      sym (take-append-drop n (take end input)) ∙ ap (λ (l : List ℕ). l ++ block) (take-take n end input c.behind ∙ c.front)

  pub cut-is : kept line ++ block ≡ take from (take end input) ++ part from end input
  cut-is = sym (take-append-drop from (take end input) ∙ input-is)

  pub left_is : begun_from [] (kept line ++ block) ≡ part from end input
  left_is =
      let p = take from (take end input) in
      let q = part from end input in
      ap (λ (s : List ℕ). begun_from [] s) cut-is ∙ begun-append [] p q ∙ rw c.whole (begun-open [] q c.begun)
