-- What reads brought. Assumes nothing.
use Rattle.std.proofs.Common.{◌≡◌, ℕ, ◌+◌, ◌<◌, List, [], ◌∷◌, ◌++◌, length, refl, arith, length-append}
use Rattle.blocks.specs.Blocks.{came, joined_blocks}
use Rattle.blocks.specs.Reading.{no_reads, ReadOnce, Brought}
use Rattle.blocks.specs.declared.reading.Reads.{Reads}
use Rattle.blocks.specs.declared.reading.Read.{Read}

-- before the first read nothing came
unread-none : Brought no_reads []
unfolding joined_blocks
unread-none = record { each = refl; bytes = refl }

pub none-brought : (reads : Reads) → reads ≡ no_reads → Brought reads []
none-brought reads e = rw e unread-none

pub unread-only : (blocks : List (List ℕ)) → Brought no_reads blocks → blocks ≡ []
unread-only [] b = refl
unread-only (block ∷ blocks) b = absurd (omega (arith, b.each))

-- one block more
joined-more : (blocks : List (List ℕ)) (block : List ℕ) → length (joined_blocks (blocks ++ (block ∷ []))) ≡ length (joined_blocks blocks) + length block
unfolding joined_blocks
joined-more [] block = omega (arith, length-append block [])
joined-more (b ∷ bs) block = omega (arith, length-append b (joined_blocks (bs ++ (block ∷ []))), length-append b (joined_blocks bs), joined-more bs block)

pub brought-on : (reads : Reads) (blocks : List (List ℕ)) (line input : List ℕ) (r : Read) (block : List ℕ) → Brought reads blocks → ReadOnce reads line input r
    → length blocks < 18446744073709551615 → length block ≡ came r.got → Brought r.reads (blocks ++ (block ∷ []))
brought-on reads blocks line input r block b o h l = rw o.reads (record {
  each = omega (arith, b.each, length-append blocks (block ∷ []));
  bytes = omega (arith, b.bytes, joined-more blocks block);
})
