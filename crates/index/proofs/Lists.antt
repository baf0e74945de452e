-- The entry that holds a row, and the rows that are left. Assumes nothing.
use mathlib.Core.Path.{◌≡◌}
use Prim.Native.Nat.{ℕ, suc, ◌+◌, ◌-◌, ◌<◌, ◌≤◌}
use native.Mathlib.Omega.{arith}
use mathlib.Core.Bool.{true, false}
use mathlib.Core.List.{List}
use lib.ListN.{length, drop, get_or, drop_of_length-le}
use lib.Seq.{drop-cons}
use borrow.Author.Tests.{le-ltb, lt-ltb}
use Rattle.format.specs.Fields.{pick}
use Rattle.format.specs.Parse.{plain}
use Rattle.std.specs.Prelude.{Some, None}
use Rattle.index.specs.Entries.{Result, gives, refuses, Entry, holds_row}
use Rattle.index.specs.Columns.{holder_in}
use Rattle.index.specs.Walk.{left_of}

-- ---- the walk that looks for the entry

module _ (r : ℕ) (fs os ns : List ℕ) (i : ℕ) where
  abbrev left : Result Entry
  left = holder_in r (drop i fs) (drop i os) (drop i ns)

  abbrev entry : Entry
  entry = record { first = get_or fs i 0; at = get_or os i 0; rows = get_or ns i 0 }

  module _ (h : i < length fs) (a : length os ≡ length fs) (b : length ns ≡ length fs) where
    here : left ≡ pick (holds_row entry r) (gives entry) (holder_in r (drop (i + 1) fs) (drop (i + 1) os) (drop (i + 1) ns))
    unfolding holder_in
    here =
        let s : i + 1 ≡ suc i = omega arith in
        rw (s, drop-cons fs i 0 h, drop-cons os i 0 (omega arith), drop-cons ns i 0 (omega arith))

    pub holder-here : true ≡ holds_row entry r → left ≡ gives entry
    holder-here e = rw (← e) at here

    pub holder-next : false ≡ holds_row entry r → left ≡ holder_in r (drop (i + 1) fs) (drop (i + 1) os) (drop (i + 1) ns)
    holder-next e = rw (← e) at here

  pub holder-none : length fs ≤ i → left ≡ refuses (plain 16) 0
  unfolding holder_in
  holder-none h = rw (drop_of_length-le fs {i = i} h)

-- ---- the rows from a row on

module _ (first rows row places : ℕ) where
  pub too_many : places < first + rows - row → None ≡ left_of first rows row places
  too_many h = rw (lt-ltb places (first + rows - row) h)

  pub so-many : (n : ℕ) → n ≡ first + rows - row → n ≤ places → Some (record { rows = n }) ≡ left_of first rows row places
  so-many n e h = rw (← e, le-ltb places n h)
