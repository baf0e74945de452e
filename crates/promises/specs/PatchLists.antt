-- The user's second question: every damaged patch list. Whatever the bytes of the list are, the answer is refusal 3, or refusal 7 in one of
-- its three cases, or rows in which exactly the places that the list names are patched; and 8 in the place of the rows if they lack room.
-- Assumes nothing.
use Rattle.std.specs.Prelude.{◌≡◌, ◌⊎◌, ℕ, suc, ◌+◌, ◌-◌, ◌*◌, ◌%◌, ◌^◌, ◌<◌, ◌≤◌, Bool, not, List, [], ◌++◌, map, length, get_or, take, drop, T, ℤ, pos}
use Rattle.format.specs.declared.Kind.TheVariants.{PatchedBase}
use Rattle.format.specs.Answers.{Answer, ran, refused_at}
use Rattle.format.specs.Digits.{AllBelow, sum}
use Rattle.format.specs.Fields.{two64, width, bytes_for, Block, IsBlock, block_bytes}
use Rattle.format.specs.Runs.{patched, Valid, layout, patch_of, gap_of, is_skip, entry_width}
use Rattle.format.specs.Rows.{base_value, as_i64}
use Rattle.format.specs.Promises.{RunRead}

-- an entry's place is the whole-number sum of all gaps up to its own
abbrev pub place_of : ℕ → List ℕ → ℕ → ℕ
place_of pw es j = sum (map (λ e. gap_of pw e) (take (suc j) es))

-- entry j of the list is no skip, and has this place
pub record Names (pw : ℕ) (es : List ℕ) (j p : ℕ) : Type 0 where
  pub there : j < length es
  pub no-skip : T (not (is_skip pw (get_or es j 0)))
  pub here : place_of pw es j ≡ p

-- ---- refusal 3: the patch of some entry that is no skip is 2^(64-W) or more

abbrev pub TooLarge : ℕ → ℕ → List ℕ → Type 0
TooLarge w pw es = (j p : ℕ) × Names pw es j p × (2 ^ (64 - w) ≤ patch_of pw (get_or es j 0))

-- ---- the three cases of refusal 7, for a run of that many rows

abbrev pub LastIsSkip : ℕ → List ℕ → Type 0
LastIsSkip pw es = (1 ≤ length es) × T (is_skip pw (get_or es (length es - 1) 0))

abbrev pub TwoShare : ℕ → List ℕ → Type 0
TwoShare pw es = (i j p : ℕ) × (i < j) × Names pw es i p × Names pw es j p

abbrev pub OneBeyond : ℕ → ℕ → List ℕ → Type 0
OneBeyond pw rows es = (j p : ℕ) × Names pw es j p × (rows ≤ p)

abbrev pub OutOfPlace : ℕ → ℕ → List ℕ → Type 0
OutOfPlace pw rows es = LastIsSkip pw es ⊎ (TwoShare pw es ⊎ OneBeyond pw rows es)

-- ---- the rows otherwise

-- the row at place p is base + value, and base + value + patch·2^W if an entry names p
pub record Patched (code : ℕ) (base : List ℕ) (pc : ℕ) (k l : Block) (out' : List ℤ) (p : ℕ) : Type 0 where
  pub named : (j : ℕ) → Names (width pc) l.values j p
      → get_or out' p (pos 0)
      ≡ as_i64 ((base_value base + (get_or k.values p 0 + patch_of (width pc) (get_or l.values j 0) * 2 ^ width code)) % two64)
  pub other : ((j : ℕ) → Names (width pc) l.values j p → ⊥)
      → get_or out' p (pos 0) ≡ as_i64 ((base_value base + get_or k.values p 0) % two64)

pub record RowsPatched (code : ℕ) (base : List ℕ) (pc gw : ℕ) (k l : Block) (out out' : List ℤ) (r : Answer) : Type 0 where
  pub fitting : TooLarge (width code) (width pc) l.values → ⊥
  pub in_place : OutOfPlace (width pc) (length k.values) l.values → ⊥
  pub room : length k.values ≤ length out
  pub answer : r ≡ ran PatchedBase (width code) (length k.values) (length (layout (patched code base pc gw k l)))
  pub rows : (p : ℕ) → p < length k.values → Patched code base pc k l out' p
  pub others : drop (length k.values) out' ≡ drop (length k.values) out

-- refusal 3 or 7, at the byte where the run begins, every place unchanged
pub record Refused3 (code pc : ℕ) (l : Block) (at : ℕ) (out out' : List ℤ) (r : Answer) : Type 0 where
  pub too_large : TooLarge (width code) (width pc) l.values
  pub answer : r ≡ refused_at 3 at
  pub places : out' ≡ out

pub record Refused7 (code pc : ℕ) (k l : Block) (at : ℕ) (out out' : List ℤ) (r : Answer) : Type 0 where
  pub fitting : TooLarge (width code) (width pc) l.values → ⊥
  pub out-of-place : OutOfPlace (width pc) (length k.values) l.values
  pub answer : r ≡ refused_at 7 at
  pub places : out' ≡ out

-- refusal 8, for a list that nothing else refuses
pub record Refused8 (code pc : ℕ) (k l : Block) (at : ℕ) (out out' : List ℤ) (r : Answer) : Type 0 where
  pub fitting : TooLarge (width code) (width pc) l.values → ⊥
  pub in_place : OutOfPlace (width pc) (length k.values) l.values → ⊥
  pub no_room : length out < length k.values
  pub answer : r ≡ refused_at 8 at
  pub places : out' ≡ out

-- the four outcomes: what each says of the list and the room excludes the others
pub data EitherWay (code : ℕ) (base : List ℕ) (pc gw : ℕ) (k l : Block) (at : ℕ) (out out' : List ℤ) (r : Answer) : Type 0 where
  with-3 : Refused3 code pc l at out out' r → EitherWay code base pc gw k l at out out' r
  with-7 : Refused7 code pc k l at out out' r → EitherWay code base pc gw k l at out out' r
  with-8 : Refused8 code pc k l at out out' r → EitherWay code base pc gw k l at out out' r
  with_rows : RowsPatched code base pc gw k l out out' r → EitherWay code base pc gw k l at out out' r

pub record PatchLists : Type 0 where
  -- any bytes, as many as n entries take, are the block of some n entries
  pub any-bytes : (w n : ℕ) (bs : List ℕ) → AllBelow 256 bs → length bs ≡ bytes_for (n * w)
      → (l : Block) × IsBlock w n l × (block_bytes w n l ≡ bs)
  -- Of every patched run that is good without a list, with any list of up to 31 entries after it, wherever its bytes stand, whatever
  -- follows them and however many places there are: refusal 3, refusal 7, or the run with these rows, or 8 in its place if it lacks room
  pub either_way : (code : ℕ) (base : List ℕ) (pc gw : ℕ) (k l : Block)
      → Valid (patched code base pc gw k (record { values = []; pad = 0 }))
      → length l.values < 32 → IsBlock (entry_width pc gw) (length l.values) l
      → (input : List ℕ) (at : ℕ) (signed : Bool) (out out' : List ℤ) (r : Answer) → RunRead input at signed out out' r
      → (rest : List ℕ) → drop at input ≡ layout (patched code base pc gw k l) ++ rest → EitherWay code base pc gw k l at out out' r
