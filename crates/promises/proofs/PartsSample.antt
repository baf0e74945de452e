-- The sample runs `0A 01 2C` and `46 02 12 30`, one byte at a time, with an empty part between: the two runs, their starts, and the end; and cut short, the
-- first run and then refusal 13 at byte 3, its packed rows cut from byte 5 on. By computing. Assumes nothing.
use Rattle.format.proofs.Common.{◌≡◌, refl, [], ◌∷◌}
use Rattle.format.specs.Digits
use Rattle.format.specs.Fields
use Rattle.format.specs.Runs
use Rattle.format.specs.Runs.{short, direct}
use Rattle.format.specs.Parse
use Rattle.format.specs.Answers.{cutting}
use Rattle.format.specs.Parts as reader
use Rattle.format.specs.Parts.{ended, broke}
use Rattle.promises.specs.Parts
use Rattle.promises.specs.Parts.{read_parts}

byte-by-byte : read_parts ((10 ∷ []) ∷ (1 ∷ []) ∷ [] ∷ (44 ∷ []) ∷ (70 ∷ []) ∷ (2 ∷ []) ∷ (18 ∷ []) ∷ (48 ∷ []) ∷ [])
    ≡ record {
      runs = record { at = 0; run = short 5 (1 ∷ 44 ∷ []) } ∷ record { at = 3; run = direct 3 (record { values = 1 ∷ 2 ∷ 3 ∷ []; pad = 0 }) } ∷ [];
      answer = ended;
    }
unfolding Parts.feed Parts.offer reader.take_part reader.close reader.in_places reader.unless_stopped reader.on_part reader.on_close Parse.parse
    Parse.by_kind Parse.short_run Parse.direct_run Parse.block Parse.bytes Fields.width Fields.widths Digits.number Digits.digits
    Runs.layout Fields.block_bytes
byte-by-byte = refl

cut_short : read_parts ((10 ∷ 1 ∷ 44 ∷ 70 ∷ []) ∷ (2 ∷ 18 ∷ []) ∷ [])
    ≡ record { runs = record { at = 0; run = short 5 (1 ∷ 44 ∷ []) } ∷ []; answer = broke (cutting 13 3 5) }
unfolding Parts.feed Parts.offer reader.take_part reader.close reader.in_places reader.unless_stopped reader.on_part reader.on_close Parse.parse
    Parse.by_kind Parse.short_run Parse.direct_run Parse.block Parse.bytes Fields.width Fields.widths Digits.number Digits.digits
    Runs.layout Fields.block_bytes
cut_short = refl
