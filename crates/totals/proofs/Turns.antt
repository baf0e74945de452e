-- From turn to turn: what is left is what the next turn may be given, and what is told is what was taken. Assumes nothing.
use mathlib.Core.Path.{◌≡◌, refl, sym, ap, ◌∙◌}
use Prim.Native.Nat.{ℕ, zero, suc, ◌<◌}
use native.Mathlib.Omega.{arith}
use mathlib.Core.Bool.{Bool, true, false}
use mathlib.Core.List.{List, [], ◌∷◌, ◌++◌, append-nil, append_assoc}
use lib.ListN.{length, take}
use lib.Seq.{length-take-le}
use lib.IntN.{ℤ, pos, negsuc}
use Rattle.blocks.specs.Blocks.{lines_from, begun_from, last_line, NoNewline, kept, part, came, not_ready}
use Rattle.blocks.specs.Reading.{no_reads, is_broken, ReadOnce, Brought}
use Rattle.blocks.specs.declared.reading.Reads.{Reads}
use Rattle.blocks.specs.declared.reading.Read.{Read}
use Rattle.blocks.proofs.Begun.{no-take}
use Rattle.blocks.proofs.Turns.{carried, block-long, input-whole, only-held}
use Rattle.blocks.proofs.Brought.{none-brought, brought-on}
use Rattle.tally.specs.declared.totals.Totals.{Totals}
use Rattle.tally.specs.Totals.{empty}
use Rattle.tally.specs.Held.{held, stopped, take_all}
use Rattle.totals.specs.Program.{answers_to, Rest, AfterBlock, AfterEnd, AfterFailure, After, Turned, Going, Reached, over, Final, at-end, in_block, Ready, Over}
use Rattle.totals.specs.Program.Takes.{ends, stops, turns}
use Rattle.totals.specs.declared.taking.Next.{Next}
use Rattle.totals.specs.declared.taking.Next.TheVariants.{Begun, Ended, Stopped, Failed}

-- nothing came, and the read is tried again: all that is left is what was held
rest-held : (before : Totals) (input : List ℕ) (n : ℕ) → n ≡ length input → NoNewline input → Rest before input before 0 n
unfolding lines_from begun_from take_all
rest-held before input n e k = record { ends = e; order = omega arith; whole = refl; begun = k; taken = refl }

-- a read, after which there is one block more
module _ (t : Totals) (reads : Reads) (line input : List ℕ) (read : Read) (once : ReadOnce reads line input read) (g : Reached reads t line)
    (few : reads.count < 18446744073709551615) where
  abbrev all : List ℕ
  all = take read.stop input

  abbrev block : List ℕ
  block = part read.held read.stop input

  more : (b : List ℕ) → length b ≡ came read.got → Brought read.reads (g.blocks ++ (b ∷ []))
  more b l = brought-on reads g.blocks line input read b g.brought once (omega (arith, g.brought.each, few)) l

  more-block : Brought read.reads (g.blocks ++ (block ∷ []))
  more-block = more block (block-long line input read.held read.stop read.got once.came)

  -- the beginning of a line is left
  ready_on : (t' : Totals) (from end : ℕ) → Rest t all t' from end → Ready input (Begun from end) read.reads t'
  ready_on t' from end r =
      let e : end ≡ read.stop = r.ends ∙ length-take-le read.stop input once.came.within in
      let c = carried line input read.held read.stop read.got once.came from end r.ends r.order r.whole r.begun in
      let s : Going t line input t' from end = record { carried = c; taken = rw e r.taken } in
      let b : block ≡ part (length (kept line)) end input = rw (e, ← once.came.count) in (
        c.begun,
        record {
          blocks = g.blocks ++ (block ∷ []);
          brought = more-block;
          takes = λ later r h. rw (append_assoc g.blocks (block ∷ []) later, b) (g.takes (part (length (kept line)) end input ∷ later) r (turns s h));
        },
      )

  ready-block : (t' : Totals) (next : Next) → AfterBlock t all t' next → Ready input next read.reads t'
  ready-block t' (Begun from end) a = ready_on t' from end a
  ready-block t' Ended a = absurd a
  ready-block t' Stopped a =
      let w = input-whole line input read.held read.stop read.got once.came in
      let h : take_all t (answers_to (lines_from [] (kept line ++ block))) ≡ stopped t' = ap (λ (i : List ℕ). take_all t (answers_to (lines_from [] i))) w ∙ a in
      in_block (g.blocks ++ (block ∷ [])) refl more-block
      (λ later. rw (append_assoc g.blocks (block ∷ []) later) (g.takes (block ∷ later) (stopped t') (stops h)))
  ready-block t' Failed a = absurd a

  -- the input has ended
  final-end : (t' : Totals) (halted : Bool) → read.got ≡ pos 0 → take_all t (answers_to (last_line all)) ≡ over t' halted → Final read.reads t' halted
  final-end t' halted z h =
      let n : came read.got ≡ 0 = rw z refl in
      let k = rw (← (only-held line input read.held read.stop read.got once.came n).1) at h in
      at-end g.blocks (record { end = ap (λ (x : Reads). x.got) once.reads ∙ z; brought = more [] (sym n) })
      (rw (append-nil g.blocks) at (g.takes [] (over t' halted) (rw k at (ends {line = line} {t = t}))))

  ready-end : read.got ≡ pos 0 → (t' : Totals) (next : Next) → AfterEnd t all t' next → Ready input next read.reads t'
  ready-end z t' (Begun from end) a = absurd a
  ready-end z t' Ended a = final-end t' false z a
  ready-end z t' Stopped a = final-end t' true z a
  ready-end z t' Failed a = absurd a

  -- the read failed
  ready-failure : NoNewline line → (k : ℕ) → read.got ≡ negsuc k → (again : Bool) → not_ready read.error ≡ again → (t' : Totals) (next : Next) → AfterFailure t read.held again t' next
      → Ready input next read.reads t'
  unfolding is_broken
  ready-failure o k e true b t' next a =
      let z : came read.got ≡ 0 = rw e refl in
      let h = only-held line input read.held read.stop read.got once.came z in
      let n : NoNewline all = rw h.1 at (no-take 8801 line o) in
      rw (a.goes_on, a.nothing) (ready_on t 0 read.held (rest-held t all read.held h.0 n))
  ready-failure o k e false b t' next a = rw (a.goes_on, once.reads, e, b)

  by_answer : NoNewline line → (got : ℤ) → read.got ≡ got → (t' : Totals) (next : Next) → After t all read.held got read.error t' next → Ready input next read.reads t'
  by_answer o (pos zero) e t' next a = ready-end e t' next a
  by_answer o (pos (suc k)) e t' next a = ready-block t' next a
  by_answer o (negsuc k) e t' next a = ready-failure o k e (not_ready read.error) refl t' next a

-- what is left is what a turn may be given, and what is told is what was taken
pub turned-ready : (t : Totals) (reads : Reads) (line input : List ℕ) (t' : Totals) (next : Next) (reads' : Reads) → NoNewline line → Reached reads t line
    → reads.count < 18446744073709551615 → Turned t reads line input t' next reads' → Ready input next reads' t'
turned-ready t reads line input t' next reads' o g few u = rw u.is (by_answer t reads line input u.read u.once g few o u.read.got refl t' next u.after)

pub ready-first : (t : Totals) (reads : Reads) (input : List ℕ) → t ≡ held empty → reads ≡ no_reads → Ready input (Begun 0 0) reads t
ready-first t reads input e h = (tt, record { blocks = []; brought = none-brought reads h; takes = λ later r k. rw e at k })

pub ready-over : (input : List ℕ) (next : Next) (reads : Reads) (t : Totals) → reads.count ≡ 18446744073709551615 → Ready input next reads t → Over next reads t
ready-over input (Begun from end) reads t e r = e
ready-over input Ended reads t e r = r
ready-over input Stopped reads t e r = r
ready-over input Failed reads t e r = r
