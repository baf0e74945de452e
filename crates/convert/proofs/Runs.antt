-- One run: what an altered run is; that it is valid, has the same rows and no odd width, and is the writer's. Assumes nothing.
use Rattle.format.proofs.Common.{◌≡◌, refl, sym, ap, ◌∙◌, ℕ, ◌<◌, ◌≤◌, le_refl, le_trans, Bool, true, false, not, List, [], map, length}
use Rattle.format.proofs.Common.{pow_pos, pow_mono}
use Rattle.format.specs.declared.Form.{Form}
use Rattle.format.specs.declared.Form.TheVariants.{Direct, PackedDelta}
use Rattle.format.specs.Fields.{pick, width, two64, Block, IsBlock, varint_value, shortest, Shortest}
use Rattle.format.specs.Runs.{Description, short, direct, fixed, delta, patched, Valid, layout}
use Rattle.format.specs.Rows.{rows_of, i64_rows, as_i64, as_u64}
use Rattle.format.specs.Parse.{Parsed, got}
use Rattle.format.specs.Promises.{answer_of}
use Rattle.format.specs.Answers.{answer_number}
use Rattle.format.specs.Writing.{padded, described, writing, AsWritten, direct-run, packed-delta}
use Rattle.format.proofs.Patterns.{as-back}
use Rattle.format.proofs.Varints.{varint-lt, shortest-stands, shortest-varint, shortest-value}
use Rattle.format.proofs.Rows.{rows-below}
use Rattle.format.proofs.Runs.{got-inj}
use Rattle.format.proofs.Again.{below-mono}
use Rattle.format.proofs.Steps.{map_back}
use Rattle.format.proofs.Writing.{accepted, written, writes-back}
use Rattle.format.specs.Kept.{next_kept}
use Rattle.format.proofs.Kept.{next-kept, next-code, next-wider}
use Rattle.format.proofs.Tests.{never}
use Rattle.convert.specs.Convert.{is_odd, rewritten, converted}
use Rattle.convert.specs.Laws.{RunsHold, Altered, AlteredWritten}

-- a run as the writer lays it down is the writer's own of its rows
pub described-again : (signed : Bool) (f : Form) (w : ℕ) (d : Description) → Valid d → AsWritten f w d → described signed f w (rows_of signed d) ≡ d
unfolding i64_rows
described-again signed f w d v c =
    let e = rw (map_back as_u64 as_i64 two64 as-back (rows_of signed d) (rows-below signed d v)) at
    (writes-back signed f w d (length (layout d)) v c (le_refl _)) in
    let a = accepted signed f w (rows_of signed d) (length (layout d)) (ap (λ (m : Parsed Description). answer_number (answer_of 0 0 m)) e) in
    (got-inj (sym (written signed f w (rows_of signed d) (length (layout d)) a.0 a.1) ∙ e)).0

-- values in a wider field, padded with zeros
wider : (code n : ℕ) (k : Block) → code < 32 → IsBlock (width code) n k → IsBlock (width (next_kept code)) n (padded k.values)
wider code n k h b =
    record { count = b.count; fits = below-mono _ _ (pow_mono (next-wider code h)) k.values b.fits; pad_fits = pow_pos _ }

-- ---- the run at the next kept width

pub direct-valid : (code : ℕ) (k : Block) → Valid (direct code k) → Valid (direct (next_kept code) (padded k.values))
direct-valid code k v = record {
  head = record { code_fits = (next-code code v.head.code_fits).1; some-rows = v.head.some-rows; rows_fit = v.head.rows_fit };
  block = wider code (length k.values) k v.head.code_fits v.block;
}

module _ (code : ℕ) (first base : List ℕ) (k : Block) where
  unfoldable pub rebuilt : Description
  rebuilt = delta (next_kept code) (shortest (varint_value first)) (shortest (varint_value base)) (padded k.values)

  pub delta-valid : Valid (delta code first base k) → Valid rebuilt
  unfolding rebuilt
  delta-valid v = record {
    head = record { code_fits = (next-code code v.head.code_fits).1; some-rows = v.head.some-rows; rows_fit = v.head.rows_fit };
    not-fixed = le_trans v.not-fixed (next-code code v.head.code_fits).0;
    first-varint = shortest-varint (varint_value first) (varint-lt first v.first-varint);
    base-varint = shortest-varint (varint_value base) (varint-lt base v.base-varint);
    block = wider code (length k.values) k v.head.code_fits v.block;
  }

  pub delta-rows : (signed : Bool) → Valid (delta code first base k) → rows_of signed rebuilt ≡ rows_of signed (delta code first base k)
  unfolding rows_of rebuilt
  delta-rows signed v =
      rw (shortest-value (varint_value first) (varint-lt first v.first-varint), shortest-value (varint_value base) (varint-lt base v.base-varint))

short-varint : (x : ℕ) → x < two64 → Shortest (shortest x)
short-varint x h = (shortest-stands x h).least

pub delta-shortest : (code : ℕ) (first base : List ℕ) (k : Block) → Valid (delta code first base k)
    → Shortest (shortest (varint_value first)) × Shortest (shortest (varint_value base))
delta-shortest code first base k v =
    (short-varint (varint_value first) (varint-lt first v.first-varint), short-varint (varint_value base) (varint-lt base v.base-varint))

-- ---- what a rewritten run is

pub altered : (signed : Bool) → Altered signed
unfolding rewritten rebuilt rows_of
altered signed = record {
  direct-run = λ code k v. described-again signed Direct (next_kept code) (direct (next_kept code) (padded k.values)) (direct-valid code k v)
      (direct-run (next-kept code v.head.code_fits));
  delta-run = λ code first base k v.
      ap (described signed PackedDelta (next_kept code)) (sym (delta-rows code first base k signed v))
      ∙ described-again signed PackedDelta (next_kept code) (rebuilt code first base k) (delta-valid code first base k v)
      (packed-delta (next-kept code v.head.code_fits) (short-varint (varint_value first) (varint-lt first v.first-varint))
      (short-varint (varint_value base) (varint-lt base v.base-varint)));
}

-- ---- each run, by whether it is odd

record Good (signed : Bool) (d d' : Description) : Type 0 where
  valid : Valid d'
  rows : rows_of signed d' ≡ rows_of signed d
  not-odd : is_odd d' ≡ false

direct_good : (signed : Bool) (code : ℕ) (k : Block) → Valid (direct code k) → Good signed (direct code k) (rewritten signed (direct code k))
unfolding rows_of
direct_good signed code k v =
    rw ((altered signed).direct-run code k v)
    (record { valid = direct-valid code k v; rows = refl; not-odd = ap not (next-kept code v.head.code_fits) })

delta-good : (signed : Bool) (code : ℕ) (first base : List ℕ) (k : Block) → Valid (delta code first base k)
    → Good signed (delta code first base k) (rewritten signed (delta code first base k))
unfolding rebuilt
delta-good signed code first base k v =
    rw ((altered signed).delta-run code first base k v)
    (record { valid = delta-valid code first base k v; rows = delta-rows code first base k signed v; not-odd = rw (next-kept code v.head.code_fits) })

-- a direct or delta run is odd, and else no run is
odd-good : (signed : Bool) (d : Description) → Valid d → is_odd d ≡ true → Good signed d (rewritten signed d)
odd-good signed (short count value) v e = never (cc)
odd-good signed (direct code k) v e = direct_good signed code k v
odd-good signed (fixed rows first base) v e = never (cc)
odd-good signed (delta code first base k) v e = delta-good signed code first base k v
odd-good signed (patched code base pc gw k l) v e = never (cc)

good : (signed : Bool) (d : Description) → Valid d → Good signed d (converted signed d)
unfolding converted
good signed d v = go (is_odd d) refl
  where
    go : (t : Bool) → is_odd d ≡ t → Good signed d (pick t (rewritten signed d) d)
    go true e = odd-good signed d v e
    go false e = record { valid = v; rows = refl; not-odd = e }

pub runs-hold : RunsHold
unfolding converted
runs-hold signed d v =
    let g = good signed d v in
    record { valid = g.valid; rows = g.rows; not-odd = g.not-odd; copied = λ e. rw e }

-- ---- the writer takes the rows of a run of an odd width, and writes what it is converted to

module _ (signed : Bool) where
  direct-again : (code : ℕ) (k : Block) (places : ℕ) → Valid (direct code k) → length (layout (rewritten signed (direct code k))) ≤ places
      → writing signed Direct (next_kept code) (map as_u64 (i64_rows signed (direct code k))) places ≡ got (rewritten signed (direct code k)) []
  unfolding i64_rows rows_of
  direct-again code k places v room =
      let d : Description = direct (next_kept code) (padded k.values) in
      let w : Valid d = direct-valid code k v in
      rw ((altered signed).direct-run code k v)
      (writes-back signed Direct (next_kept code) d places w (direct-run (next-kept code v.head.code_fits))
      (rw ((altered signed).direct-run code k v) at room))

  delta-again : (code : ℕ) (first base : List ℕ) (k : Block) (places : ℕ) → Valid (delta code first base k)
      → length (layout (rewritten signed (delta code first base k))) ≤ places
      → writing signed PackedDelta (next_kept code) (map as_u64 (i64_rows signed (delta code first base k))) places
      ≡ got (rewritten signed (delta code first base k)) []
  unfolding i64_rows rebuilt
  delta-again code first base k places v room =
      let d : Description = rebuilt code first base k in
      let w : Valid d = delta-valid code first base k v in
      let s = delta-shortest code first base k v in
      rw ((altered signed).delta-run code first base k v, ← (delta-rows code first base k signed v))
      (writes-back signed PackedDelta (next_kept code) d places w (packed-delta (next-kept code v.head.code_fits) s.0 s.1)
      (rw ((altered signed).delta-run code first base k v) at room))

pub altered-written : AlteredWritten
unfolding converted
altered-written signed places = record {
  direct-run = λ code k v o room. rw o (direct-again signed code k places v (rw o at room));
  delta-run = λ code first base k v o room. rw o (delta-again signed code first base k places v (rw o at room));
}
