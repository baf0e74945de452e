-- The byte writer's answer has as many words as its function says, and each promise determines the number, the words and every byte: it is an equation.
-- Assumes nothing.
use mathlib.Core.Path.{◌≡◌, refl}
use lib.ListN.{length}
use Rattle.std.specs.Prelude.{Ok, Err}
use Rattle.byte_writer.specs.Written.{BytesAnswer}
use Rattle.exports.specs.ByteRuns.{byte_run_words, byte_run_word_count, BooleansWrittenToldDetermined, BytesWrittenToldDetermined}
use Rattle.exports.proofs.BatchTelling.{told-of-one}

pub byte-runs-long : (w : BytesAnswer) → length (byte_run_words w) ≡ byte_run_word_count
unfolding byte_run_words
byte-runs-long (Ok w) = refl
byte-runs-long (Err f) = refl

pub booleans-written-determined : BooleansWrittenToldDetermined
booleans-written-determined flags out out' out'' words words' words'' r r' p q = told-of-one p q

pub bytes-written-determined : BytesWrittenToldDetermined
bytes-written-determined bytes out out' out'' words words' words'' r r' p q = told-of-one p q
