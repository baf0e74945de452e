-- A turn over the groups: one group more is measured, or written. Assumes nothing.
use mathlib.Core.Path.{◌≡◌, refl, sym, ap, ◌∙◌}
use Prim.Native.Nat.{ℕ, suc, ◌+◌, ◌-◌, ◌<◌, ◌≤◌}
use native.Mathlib.Omega.{arith}
use mathlib.Core.Bool.{Bool, true, false, not, ◌||◌}
use mathlib.Core.List.{List, ◌∷◌, ◌++◌}
use lib.ListN.{length, drop, get_or, length-append}
use lib.Dec.{ltb}
use lib.IntN.{ℤ}
use borrow.Author.Tests.{lt-ltb, le-ltb}
use mir.Syntax.{w64}
use mir.Val.{SFits}
use Rattle.format.specs.Rows.{as_u64}
use Rattle.format.specs.Writing.{stored}
use Rattle.salvage.specs.Salvage.{Group, groups, kept, mended, salvaged, line, report}
use Rattle.salvage.specs.Steps.{group, bytes_of, made, room_for}
use Rattle.salvage.proofs.Laying.{made-is}
use Rattle.salvage.proofs.Walking.{groups-at, groups-end}

module _ (signed : Bool) (fill : ℤ) (bs starts ns : List ℕ) where
  abbrev pub gs : List Group
  gs = groups bs starts ns

  abbrev pub new : List ℕ
  new = salvaged signed fill gs

  abbrev pub text : List ℕ
  text = report 0 gs

  -- what is known of group i in its turn: its bytes, rows, whether it is kept, and what stands for it
  pub record Turn (i : ℕ) (bytes : List ℕ) (rows : ℕ) (keep : Bool) (first : ℕ) : Type 0 where
    pub next : drop i gs ≡ group bytes rows ∷ drop (suc i) gs
    pub keep-is : keep ≡ kept (group bytes rows)
    pub piece : made keep bytes first rows ≡ mended signed fill (group bytes rows)

  pub turn : SFits w64 fill → (i : ℕ) → i < length starts → length starts ≡ length ns → {bytes : List ℕ} → bytes ≡ bytes_of bs starts i
      → {rows : ℕ} → rows ≡ get_or ns i 0 → {keep : Bool} → keep ≡ kept (group bytes rows) → {first : ℕ} → first ≡ stored signed (as_u64 fill)
      → Turn i bytes rows keep first
  turn fits i h l {bytes} b {rows} r {keep} k {first} f = record {
    next = rw (b, r) (groups-at bs starts ns i h l);
    keep-is = k;
    piece = rw f (made-is signed fill fits (group bytes rows) keep k);
  }

  module _ {i rows first : ℕ} {bytes : List ℕ} {keep : Bool} (t : Turn i bytes rows keep first) where
    pub stream-next : salvaged signed fill (drop i gs) ≡ made keep bytes first rows ++ salvaged signed fill (drop (suc i) gs)
    unfolding salvaged
    stream-next = ap (salvaged signed fill) t.next ∙ ap (λ (l : List ℕ). l ++ salvaged signed fill (drop (suc i) gs)) (sym t.piece)

    pub lines_next : report i (drop i gs) ≡ line keep i rows ++ report (suc i) (drop (suc i) gs)
    unfolding report
    lines_next = ap (report i) t.next ∙ ap (λ (k : Bool). line k i rows ++ report (suc i) (drop (suc i) gs)) (sym t.keep-is)

  -- ---- measured: the bytes of the groups before i, and of their lines

  pub record Measured (places lines : ℕ) (stream told i : ℕ) : Type 0 where
    pub bound : i ≤ length starts
    pub stream-fits : stream ≤ places
    pub lines_fit : told ≤ lines
    pub stream-left : stream + length (salvaged signed fill (drop i gs)) ≡ length new
    pub lines_left : told + length (report i (drop i gs)) ≡ length text

  pub measured-none : (places lines : ℕ) → Measured places lines 0 0 0
  measured-none places lines = record {
    bound = omega arith;
    stream-fits = omega arith;
    lines_fit = omega arith;
    stream-left = omega arith;
    lines_left = omega arith;
  }

  module _ {places lines stream told i rows first : ℕ} {bytes : List ℕ} {keep : Bool} (m : Measured places lines stream told i)
      (t : Turn i bytes rows keep first) where
    at-stream : stream + length (made keep bytes first rows) + length (salvaged signed fill (drop (suc i) gs)) ≡ length new
    at-stream = omega (arith, m.stream-left, ap length (stream-next t), length-append (made keep bytes first rows) (salvaged signed fill (drop (suc i) gs)))

    at-lines : told + length (line keep i rows) + length (report (suc i) (drop (suc i) gs)) ≡ length text
    at-lines = omega (arith, m.lines_left, ap length (lines_next t), length-append (line keep i rows) (report (suc i) (drop (suc i) gs)))

    -- the group, or its line, passes the room
    pub measured-short : places - stream < length (made keep bytes first rows) → false ≡ room_for signed fill bs starts ns places lines
    unfolding room_for
    measured-short h = rw (lt-ltb places (length new) (omega (arith, m.stream-fits, at-stream)))

    pub measured-few : lines - told < length (line keep i rows) → false ≡ room_for signed fill bs starts ns places lines
    unfolding room_for
    measured-few h = rw (lt-ltb lines (length text) (omega (arith, m.lines_fit, at-lines))) (none (ltb places (length new)))
      where
        none : (b : Bool) → false ≡ not (b || true)
        none true = refl
        none false = refl

    pub measured-next : i < length starts → (more line-size : ℕ) → more ≡ length (made keep bytes first rows) → line-size ≡ length (line keep i rows)
        → more ≤ places - stream → line-size ≤ lines - told
        → Measured places lines (stream + more) (told + line-size) (i + 1)
    measured-next h more line-size e f p q =
        let s : i + 1 ≡ suc i = omega arith in
        rw (s, e, f) (record {
          bound = omega arith;
          stream-fits = omega (arith, m.stream-fits);
          lines_fit = omega (arith, m.lines_fit);
          stream-left = at-stream;
          lines_left = at-lines;
        })

  pub measured-all : {places lines stream told i : ℕ} → Measured places lines stream told i → length starts ≤ i
      → true ≡ room_for signed fill bs starts ns places lines
  unfolding room_for salvaged report
  measured-all {places} {lines} {stream} {told} {i} m h =
      let e = groups-end bs starts ns i h in
      let a : stream ≡ length new = omega (arith, rw e at m.stream-left) in
      let b : told ≡ length text = omega (arith, rw e at m.lines_left) in
      rw (le-ltb places (length new) (omega (arith, m.stream-fits)), le-ltb lines (length text) (omega (arith, m.lines_fit)))
