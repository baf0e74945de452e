-- The groups written one after another, each with its line, and what a call comes to. Assumes nothing.
use mathlib.Core.Path.{◌≡◌, refl, sym, ap, ◌∙◌}
use mathlib.Core.Logic.{◌≢◌}
use Prim.Native.Nat.{ℕ, suc, ◌+◌, ◌<◌, ◌≤◌}
use native.Mathlib.Omega.{arith}
use mathlib.Core.Bool.{Bool, true, false, not, ◌||◌, and-false}
use mathlib.Core.List.{List, [], ◌++◌, append_assoc, append-nil}
use lib.ListN.{length, drop, length-append}
use lib.Dec.{ltb, eqb}
use lib.IntN.{ℤ}
use borrow.Author.Tests.{ltb-false, eq-eqb, ne_eqb, not-true}
use Rattle.text.specs.Written.{TextWritten}
use Rattle.text.proofs.Texts.{none_written, then-written, from_first}
use Rattle.salvage.specs.Salvage.{Outcome, starts_right, salvaged, line, report, Call, refused, written, unless, salvaging, written_of, refused_with, Salvaged}
use Rattle.salvage.specs.Steps.{made, room_for}
use Rattle.salvage.specs.Laws.{RightStarts, Room}
use Rattle.salvage.proofs.Walking.{groups-end}
use Rattle.salvage.proofs.Turning.{gs, new, text, Turn, stream-next, lines_next}
use Rattle.format.proofs.Tests.{never, T_true, neither}

module _ (signed : Bool) (fill : ℤ) (bs starts ns : List ℕ) where
  pub has : {places lines : ℕ} → room_for signed fill bs starts ns places lines ≡ true
      → Room places lines (new signed fill bs starts ns) (text signed fill bs starts ns)
  unfolding room_for
  has {places} {lines} e =
      let b = neither (ltb places (length (new signed fill bs starts ns))) (ltb lines (length (text signed fill bs starts ns))) (not-true _ e) in
      record { stream = ltb-false places _ b.0; lines_fit = ltb-false lines _ b.1 }

  -- ---- the groups before i are written, and their lines

  pub record GroupsLaid (out₀ lines₀ out lines : List ℕ) (stream told i : ℕ) : Type 0 where
    pub bound : i ≤ length starts
    pub done : List ℕ
    pub said : List ℕ
    pub stream-is : TextWritten done out₀ 0 out stream
    pub lines_are : TextWritten said lines₀ 0 lines told
    pub stream-left : done ++ salvaged signed fill (drop i (gs signed fill bs starts ns)) ≡ new signed fill bs starts ns
    pub lines_left : said ++ report i (drop i (gs signed fill bs starts ns)) ≡ text signed fill bs starts ns
    pub same_out : length out ≡ length out₀
    pub same_lines : length lines ≡ length lines₀
    pub room : Room (length out₀) (length lines₀) (new signed fill bs starts ns) (text signed fill bs starts ns)

  pub laid_none : (out lines : List ℕ) → room_for signed fill bs starts ns (length out) (length lines) ≡ true → GroupsLaid out lines out lines 0 0 0
  laid_none out lines e = record {
    bound = omega arith;
    done = [];
    said = [];
    stream-is = none_written out 0;
    lines_are = none_written lines 0;
    stream-left = refl;
    lines_left = refl;
    same_out = refl;
    same_lines = refl;
    room = has e;
  }

  module _ {out₀ lines₀ out lines bytes : List ℕ} {stream told i rows first : ℕ} {keep : Bool} (l : GroupsLaid out₀ lines₀ out lines stream told i)
      (t : Turn signed fill bs starts ns i bytes rows keep first) where
    at-stream : (l.done ++ made keep bytes first rows) ++ salvaged signed fill (drop (suc i) (gs signed fill bs starts ns)) ≡ new signed fill bs starts ns
    at-stream =
        append_assoc l.done (made keep bytes first rows) (salvaged signed fill (drop (suc i) (gs signed fill bs starts ns)))
        ∙ ap (λ (x : List ℕ). l.done ++ x) (sym (stream-next signed fill bs starts ns t)) ∙ l.stream-left

    at-lines : (l.said ++ line keep i rows) ++ report (suc i) (drop (suc i) (gs signed fill bs starts ns)) ≡ text signed fill bs starts ns
    at-lines =
        append_assoc l.said (line keep i rows) (report (suc i) (drop (suc i) (gs signed fill bs starts ns)))
        ∙ ap (λ (x : List ℕ). l.said ++ x) (sym (lines_next signed fill bs starts ns t)) ∙ l.lines_left

    -- there is room for the group, and for its line
    pub stream-room : stream + length (made keep bytes first rows) ≤ length out
    stream-room =
        omega (
          arith,
          l.stream-is.next,
          l.same_out,
          l.room.stream,
          ap length at-stream,
          length-append (l.done ++ made keep bytes first rows) (salvaged signed fill (drop (suc i) (gs signed fill bs starts ns))),
          length-append l.done (made keep bytes first rows),
        )

    pub lines-room : told + length (line keep i rows) ≤ length lines
    lines-room =
        omega (
          arith,
          l.lines_are.next,
          l.same_lines,
          l.room.lines_fit,
          ap length at-lines,
          length-append (l.said ++ line keep i rows) (report (suc i) (drop (suc i) (gs signed fill bs starts ns))),
          length-append l.said (line keep i rows),
        )

    pub laid_next : {out' lines' : List ℕ} {stream' told' : ℕ} → i < length starts → TextWritten (made keep bytes first rows) out stream out' stream'
        → length out' ≡ length out
        → TextWritten (line keep i rows) lines told lines' told' → length lines' ≡ length lines → GroupsLaid out₀ lines₀ out' lines' stream' told' (i + 1)
    laid_next h w s v r =
        let e : i + 1 ≡ suc i = omega arith in
        rw e (record {
          bound = omega arith;
          done = l.done ++ made keep bytes first rows;
          said = l.said ++ line keep i rows;
          stream-is = then-written (omega arith) l.stream-is w;
          lines_are = then-written (omega arith) l.lines_are v;
          stream-left = at-stream;
          lines_left = at-lines;
          same_out = s ∙ l.same_out;
          same_lines = r ∙ l.same_lines;
          room = l.room;
        })

  -- ---- the call

  module _ (places lines : ℕ) where
    abbrev call : Call
    call = salvaging signed fill bs starts ns places lines

    pub other-lengths : length starts ≢ length ns → call ≡ refused 17
    unfolding salvaging
    other-lengths h = rw (ne_eqb (length starts) (length ns) h)

    pub wrong-starts : starts_right (length bs) starts ≡ false → call ≡ refused 17
    unfolding salvaging
    wrong-starts h = rw (h, and-false (eqb (length starts) (length ns)))

    module _ (r : RightStarts bs starts ns) where
      right-call : call ≡ unless (ltb places (length (new signed fill bs starts ns)) || ltb lines (length (text signed fill bs starts ns))) 8
          (written (new signed fill bs starts ns) (text signed fill bs starts ns))
      unfolding salvaging
      right-call = rw (eq-eqb (length starts) (length ns) r.lengths, T_true (starts_right (length bs) starts) r.right)

      pub no_room : room_for signed fill bs starts ns places lines ≡ false → call ≡ refused 8
      unfolding room_for
      no_room e = right-call ∙ go (ltb places (length (new signed fill bs starts ns)) || ltb lines (length (text signed fill bs starts ns))) e
        where
          go : (b : Bool) → not b ≡ false → unless b 8 (written (new signed fill bs starts ns) (text signed fill bs starts ns)) ≡ refused 8
          go true e = refl
          go false e = never (cc)

      pub is-written : room_for signed fill bs starts ns places lines ≡ true → call ≡ written (new signed fill bs starts ns) (text signed fill bs starts ns)
      unfolding room_for
      is-written e =
          let b = neither (ltb places (length (new signed fill bs starts ns))) (ltb lines (length (text signed fill bs starts ns))) (not-true _ e) in
          right-call ∙ rw (b.0, b.1)

  pub was-refused : (n : ℕ) {out lines : List ℕ} {r : Outcome} → salvaging signed fill bs starts ns (length out) (length lines) ≡ refused n → r ≡ refused_with n
      → Salvaged bs starts ns fill signed out out lines lines r
  was-refused n {out} {lines} {r} e f = record { answer = rw e f; new-stream = rw e; report-is = rw e }

  pub was-written : {out₀ lines₀ out lines : List ℕ} {stream told i : ℕ} {r : Outcome} → RightStarts bs starts ns
      → room_for signed fill bs starts ns (length out₀) (length lines₀) ≡ true
      → GroupsLaid out₀ lines₀ out lines stream told i → length starts ≤ i → r ≡ written_of stream told
      → Salvaged bs starts ns fill signed out₀ out lines₀ lines r
  unfolding salvaged report
  was-written {out₀} {lines₀} {out} {lines} {stream} {told} {i} {r} s e l h f =
      let g = groups-end bs starts ns i h in
      let d : l.done ≡ new signed fill bs starts ns = sym (append-nil l.done) ∙ (rw g at l.stream-left) in
      let t : l.said ≡ text signed fill bs starts ns = sym (append-nil l.said) ∙ (rw g at l.lines_left) in
      let a = from_first (rw d at l.stream-is) in
      let b = from_first (rw t at l.lines_are) in
      let c = is-written (length out₀) (length lines₀) s e in
      record { answer = rw c (rw (a.0, b.0) at f); new-stream = rw c a.1; report-is = rw c b.1 }
