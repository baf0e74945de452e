-- An input in blocks, cut anywhere, has the lines that the whole input has, to whatever takes every line over 8,800 characters alike: though no more is
-- held than 8,801 characters of a line. Assumes nothing.
use Rattle.std.proofs.Common.{◌≡◌, ℕ, ◌<◌, Bool, true, false, eqb, List, [], ◌∷◌, ◌++◌, map, length, sym, refl, ap, ◌∙◌, append_assoc, arith, length-append, length-take, take_all, ne_eqb}
use Prim.Native.Char.{code}
use native.Mathlib.Decide.{dec_lt}
use mathlib.Core.List.{map-append}
use Rattle.format.specs.Fields.{pick}
use Rattle.blocks.specs.Blocks.{lines_from, begun_from, last_line, lines_in, NoNewline, kept, block_lines, joined_blocks}
use Rattle.blocks.proofs.Begun.{begun-append, begun-open, no-take, no-begun}
use Rattle.blocks.proofs.Lines.{lines-append, lines-open}

module _ (A : Type 0) (f : List ℕ → A) (alike : (x y : List ℕ) → 8800 < length x → 8800 < length y → f x ≡ f y) where
  abbrev over : List ℕ → List ℕ → List A
  over line s = map f (lines_from line s)

  abbrev last : List ℕ → List A
  last line = map f (last_line line)

  -- what follows is taken alike
  record Like (x y : List ℕ) : Type 0 where
    pub lines : (s : List ℕ) → over x s ≡ over y s
    pub ends : (s : List ℕ) → last (begun_from x s) ≡ last (begun_from y s)

  long-lines : (x y s : List ℕ) → 8800 < length x → 8800 < length y → over x s ≡ over y s
  unfolding lines_from
  long-lines x y [] h k = refl
  long-lines x y (c ∷ s) h k =
      by (eqb c (code "\n"))
      (long-lines (x ++ (c ∷ [])) (y ++ (c ∷ [])) s (omega (arith, length-append x (c ∷ []))) (omega (arith, length-append y (c ∷ []))))
    where
      by : (t : Bool) → over (x ++ (c ∷ [])) s ≡ over (y ++ (c ∷ [])) s
          → map f (pick t (x ∷ lines_from [] s) (lines_from (x ++ (c ∷ [])) s)) ≡ map f (pick t (y ∷ lines_from [] s) (lines_from (y ++ (c ∷ [])) s))
      by true e = ap (λ (a : A). a ∷ map f (lines_from [] s)) (alike x y h k)
      by false e = e

  long-last : (x y s : List ℕ) → 8800 < length x → 8800 < length y → last (begun_from x s) ≡ last (begun_from y s)
  unfolding last_line begun_from
  long-last x y [] h k = rw (ne_eqb (length x) 0 (omega arith), ne_eqb (length y) 0 (omega arith), alike x y h k)
  long-last x y (c ∷ s) h k =
      by (eqb c (code "\n")) (long-last (x ++ (c ∷ [])) (y ++ (c ∷ [])) s (omega (arith, length-append x (c ∷ []))) (omega (arith, length-append y (c ∷ []))))
    where
      by : (t : Bool) → last (begun_from (x ++ (c ∷ [])) s) ≡ last (begun_from (y ++ (c ∷ [])) s)
          → last (pick t (begun_from [] s) (begun_from (x ++ (c ∷ [])) s)) ≡ last (pick t (begun_from [] s) (begun_from (y ++ (c ∷ [])) s))
      by true e = refl
      by false e = e

  kept-like : (line : List ℕ) → Like (kept line) line
  kept-like line = by (dec_lt (length line) 8802)
    where
      by : Dec (length line < 8802) → Like (kept line) line
      by (yes h) =
          let e : kept line ≡ line = take_all 8801 line (omega arith) in
          record { lines = λ s. rw e; ends = λ s. rw e }
      by (no h) =
          let k : 8800 < length (kept line) = rw length-take (omega arith) in
          record { lines = λ s. long-lines (kept line) line s k (omega arith); ends = λ s. long-last (kept line) line s k (omega arith) }

  at-end : (held line : List ℕ) → Like held line → last held ≡ over line [] ++ last (begun_from line [])
  unfolding lines_from begun_from
  at-end held line l = l.ends []

  blocks : (held line : List ℕ) (bs : List (List ℕ)) → NoNewline held → Like held line
      → map f (block_lines held bs) ≡ over line (joined_blocks bs) ++ last (begun_from line (joined_blocks bs))
  unfolding block_lines joined_blocks
  blocks held line [] n l = at-end held line l
  blocks held line (b ∷ bs) n l =
      let x = begun_from held b in
      let j = joined_blocks bs in
      let a : lines_from [] (held ++ b) ≡ lines_from held b = lines-append [] held b ∙ rw (lines-open [] held n, begun-open [] held n) in
      let g : begun_from [] (held ++ b) ≡ x = begun-append [] held b ∙ rw (begun-open [] held n) in
      let r = blocks (kept x) x bs (no-take 8801 x (no-begun held b n)) (kept-like x) in
      rw (map-append f (lines_from [] (held ++ b)) (block_lines (kept (begun_from [] (held ++ b))) bs), a, g, r)
      (sym (append_assoc (over held b) (over x j) (last (begun_from x j)))
      ∙ rw (← (map-append f (lines_from held b) (lines_from x j)), ← (lines-append held b j), ← (begun-append held b j), l.lines (b ++ j), l.ends (b ++ j)))

  -- THE LINES OF THE BLOCKS are those of the whole input
  pub blocks-joined : (bs : List (List ℕ)) → map f (block_lines [] bs) ≡ map f (lines_in (joined_blocks bs))
  unfolding lines_in
  blocks-joined bs =
      blocks [] [] bs tt (record { lines = λ s. refl; ends = λ s. refl })
      ∙ sym (map-append f (lines_from [] (joined_blocks bs)) (last_line (begun_from [] (joined_blocks bs))))
