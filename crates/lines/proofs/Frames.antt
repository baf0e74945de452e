-- A line's frame by the tests that the code makes, and what the run reader gives on it, in words.
-- Assumes nothing.
use Rattle.std.specs.Prelude.{Some, None, Ok, Err}
use mathlib.Core.Path.{◌≡◌, refl, sym, ap, ◌∙◌}
use Prim.Native.Nat.{ℕ, suc, ◌+◌, ◌-◌, ◌*◌, ◌/◌, ◌%◌, ◌<◌, ◌≤◌}
use native.Mathlib.Omega.{arith}
use mathlib.Core.Bool.{Bool, true, false}
use mathlib.Core.List.{List, [], ◌∷◌}
use lib.ListN.{length, take, drop, get_or, length-append, length-take}
use lib.Seq.{length-take-le, take_at, get_or-take}
use lib.Dec.{ltb, eqb}
use lib.IntN.{ℤ}
use borrow.Author.Tests.{lt-ltb, le-ltb, eq-eqb, ne_eqb, ltb-false}
use Rattle.format.specs.Runs.{Description, row_count}
use Rattle.format.specs.Rows.{i64_rows}
use Rattle.format.specs.Parse.{Parsed, end, got, refused, unless, into, parse}
use Rattle.format.specs.Answers.{Answer, answer_rows}
use Rattle.format.specs.Promises.{RunRead, answer_of, run_places}
use Rattle.format.proofs.Rows.{i64-count}
use Rattle.format.proofs.Tests.{never}
use Rattle.text.specs.Ascii.{ascii}
use Rattle.text.specs.Hexadecimal.{all_hex, hex_bytes}
use Rattle.text.specs.Decimal.{row_text, rows_text}
use Rattle.lines.specs.Line.{bad_line, frame_of, frame_text, answer_text, ended, answer_line, reply_text, reading_text, Framed, Answered}
use Rattle.text.specs.Written.{TextWritten}
use Rattle.text.proofs.Texts.{decimal-length, row-length}

-- ---- the tests of a line

module _ (line : List ℕ) where
  framed-none : bad_line line ≡ true → frame_of line ≡ []
  unfolding frame_of
  framed-none e = rw e

  pub bad-empty : length line ≡ 0 → frame_of line ≡ []
  unfolding bad_line
  bad-empty h = framed-none (rw (eq-eqb (length line) 0 h))

  module _ (some : length line ≡ 0 → ⊥) where
    pub bad-odd : length line % 2 ≡ 1 → frame_of line ≡ []
    unfolding bad_line
    bad-odd h = framed-none (rw (ne_eqb (length line) 0 some, eq-eqb (length line % 2) 1 h))

    module _ (even : length line % 2 ≡ 1 → ⊥) where
      pub bad-long : 8800 < length line → frame_of line ≡ []
      unfolding bad_line
      bad-long h = framed-none (rw (ne_eqb (length line) 0 some, ne_eqb (length line % 2) 1 even, lt-ltb 8800 (length line) h))

      module _ (short : length line ≤ 8800) where
        pub bad-digit : all_hex line ≡ false → frame_of line ≡ []
        unfolding bad_line
        bad-digit h = framed-none (rw (ne_eqb (length line) 0 some, ne_eqb (length line % 2) 1 even, le-ltb 8800 (length line) short, h))

        module _ (frame : List ℕ) (hex : all_hex line ≡ true) (is : take (length line / 2) frame ≡ hex_bytes line) (room : length line / 2 ≤ length frame) where
          flag_is : get_or (hex_bytes line) 0 0 ≡ get_or frame 0 0
          flag_is = ap (λ (l : List ℕ). get_or l 0 0) (sym is) ∙ get_or-take (length line / 2) frame 0 0 (omega arith)

          pub bad-flag : 1 < get_or frame 0 0 → frame_of line ≡ []
          unfolding bad_line
          bad-flag h =
              framed-none (rw (
                ne_eqb (length line) 0 some,
                ne_eqb (length line % 2) 1 even,
                le-ltb 8800 (length line) short,
                hex,
                flag_is,
                lt-ltb 1 (get_or frame 0 0) h,
              ))

          pub framed : get_or frame 0 0 ≤ 1 → Framed line frame (length line / 2) × (0 < length line / 2)
          unfolding bad_line frame_of
          framed h =
              let e : bad_line line ≡ false =
              rw (ne_eqb (length line) 0 some, ne_eqb (length line % 2) 1 even, le-ltb 8800 (length line) short, hex, flag_is, le-ltb 1 (get_or frame 0 0) h) in
              (record { count = rw (e, ← is) (sym (length-take-le (length line / 2) frame room)); bytes = rw e is }, omega arith)

-- ---- what a frame says of its line

module _ (line frame : List ℕ) (n : ℕ) (f : Framed line frame n) where
  pub frame-long : n ≡ length (take n frame)
  frame-long = f.count ∙ sym (ap length f.bytes)

  pub frame-fits : n ≤ length frame
  frame-fits = omega (arith, frame-long, length-take n frame)

  pub text_of : frame_text (take n frame) ≡ answer_text line
  unfolding answer_text
  text_of = ap frame_text f.bytes

pub text-bad : (line : List ℕ) → frame_of line ≡ [] → answer_text line ≡ ascii "bad line"
unfolding frame_text answer_text
text-bad line e = rw e

-- ---- the promise

module _ (line out out' : List ℕ) where
  pub answered-none : length out < 11310 → Answered line out out 0
  unfolding answer_line
  answered-none h = record { count = rw (lt-ltb (length out) 11310 h); places = rw (lt-ltb (length out) 11310 h) }

  pub answered : (r : ℕ) → 11310 ≤ length out → TextWritten (ended (answer_text line)) out 0 out' r → Answered line out out' r
  unfolding answer_line
  answered r h w =
      let z : 0 + length (ended (answer_text line)) ≡ length (ended (answer_text line)) = omega arith in
      record { count = rw (le-ltb (length out) 11310 h) (w.next ∙ z); places = rw (le-ltb (length out) 11310 h) (rw z at w.places) }

-- any two outcomes that the promise allows are equal
pub answered-unique : {line out o o' : List ℕ} {r r' : ℕ} → Answered line out o r → Answered line out o' r' → (r ≡ r') × (o ≡ o')
answered-unique a b = (a.count ∙ sym b.count, a.places ∙ sym b.places)

-- ---- the run reader's answer

-- the rows that were read fit the places
into-rows : (n : ℕ) (m : Parsed Description) (d : Description) (rest : List ℕ) → into n m ≡ got d rest → row_count d ≤ n
unfolding into
into-rows n end d rest e = never (cc)
into-rows n (refused r) d rest e = never (cc)
into-rows n (got b s) d rest e = by (ltb n (row_count b)) refl e
  where
    by : (t : Bool) → ltb n (row_count b) ≡ t → unless t 8 (got b s) ≡ got d rest → row_count d ≤ n
    by true f e = never (cc)
    by false f e =
        let z : b ≡ d = cc in
        rw z at (ltb-false n (row_count b) f)

-- what was read at byte 1 of a frame, in words
pub record Reads (frame : List ℕ) (signed : Bool) (out' : List ℤ) (r : Answer) : Type 0 where
  pub few : answer_rows r ≤ 512
  pub words : reply_text r (take (answer_rows r) out') ≡ reading_text (length frame - 1) signed (into 512 (parse (drop 1 frame)))

pub reads : (frame : List ℕ) (signed : Bool) (out out' : List ℤ) (r : Answer) → length out ≡ 512 → RunRead frame 1 signed out out' r → Reads frame signed out' r
reads frame signed out out' r l g = by (into 512 (parse (drop 1 frame))) refl (rw l at g.answer) (rw l at g.places)
  where
    by : (x : Parsed Description) → into 512 (parse (drop 1 frame)) ≡ x → r ≡ answer_of 1 (length frame - 1) x → out' ≡ run_places signed out x
        → Reads frame signed out' r
    by end e a p = record { few = rw a (omega arith); words = rw (a, e) }
    by (refused n) e a p = record { few = rw a (omega arith); words = rw (a, e) }
    by (got d rest) e a p = record {
      few = rw a (into-rows 512 (parse (drop 1 frame)) d rest e);
      words = rw (a, e, p, take_at (i64_rows signed d) (drop (row_count d) out) (row_count d) (i64-count signed d));
    }

-- the frame's first byte and the run after it
pub frame-text : (frame : List ℕ) → 0 < length frame
    → frame_text frame ≡ reading_text (length frame - 1) (eqb (get_or frame 0 0) 1) (into 512 (parse (drop 1 frame)))
unfolding frame_text
frame-text [] h = absurd (omega arith)
frame-text (flag ∷ run) h =
    let e : suc (length run) - 1 ≡ length run = omega arith in
    rw e

-- ---- room

rows-length : (rows : List ℤ) → length (rows_text rows) ≤ 22 * length rows
unfolding rows_text
rows-length [] = omega arith
rows-length (z ∷ zs) = omega (arith, length-append (32 ∷ row_text z) (rows_text zs), row-length z, rows-length zs)

reply-room : (r : Answer) (rows : List ℤ) → length rows ≤ 512 → length (reply_text r rows) ≤ 11309
unfolding reply_text
reply-room (Ok None) rows h = omega arith
reply-room (Ok (Some run)) rows h = simp length-append (omega (arith, decimal-length run.rows.rows, decimal-length run.consumed.bytes, rows-length rows))
reply-room (Err f) rows h = simp length-append (omega (arith, decimal-length f.number))

pub reply-length : (r : Answer) (n : ℕ) (rows : List ℤ) → n ≤ 512 → length (reply_text r (take n rows)) ≤ 11309
reply-length r n rows h = reply-room r (take n rows) (rw length-take (omega arith))
