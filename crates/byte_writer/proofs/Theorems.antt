-- The theorems of the byte writer: what is written reads back, enough places are enough, and a promise leaves one outcome. Assumes nothing.
use Rattle.format.proofs.Common.{◌≡◌, refl, sym, ap, ◌∙◌, ℕ, zero, suc, ◌<◌, ◌≤◌, arith, ◌↔◌, le_refl, dec_lt, List, [], ◌∷◌, ◌++◌, map}
use Rattle.format.proofs.Common.{length, drop, length-drop, drop-append_seam, lt-ltb, le-ltb}
use Rattle.format.specs.declared.Kind.TheVariants.{Booleans}
use Rattle.format.specs.Answers.{Answer, ran, refused_at, answer_number}
use Rattle.format.specs.Fields.{bytes_for}
use Rattle.format.specs.Parse.{got}
use Rattle.format.specs.Booleans.{Needed, byte_count, booleans, booleans_into, booleans_of, BooleansRead}
use Rattle.format.proofs.ByteRuns.{runs-complete}
use Rattle.format.proofs.Booleans.{booleans-complete}
use Rattle.format.proofs.Tests.{never}
use Rattle.byte_writer.specs.Choice.{next_run, runs_in, runs_of, written}
use Rattle.byte_writer.specs.Flags.{bit, flag_bytes}
use Rattle.byte_writer.specs.Laws.{enough_for, Exactly, EveryBytes, EveryFlags, BytesCall, BooleansCall}
use Rattle.byte_writer.specs.Laws.{BytesDetermined, BooleansDetermined, RoundTrip}
use Rattle.byte_writer.specs.Written.{BytesAnswer, refused_with, wrote_bytes, in_front, Outcome}
use Rattle.std.specs.Prelude.{Ok, Err}
use Rattle.byte_writer.proofs.Choosing.{after, after_less, runs-valid, runs-bytes}
use Rattle.byte_writer.proofs.Least.{written-enough}
use Rattle.byte_writer.proofs.Packing.{flags-below, length-flags, flags-bits}

-- ---- the runs are only those that the bytes need

needed-in : (f : ℕ) (bs : List ℕ) → length bs ≤ f → Needed (length bs) (runs_in f bs)
unfolding runs_in
needed-in zero [] h = refl
needed-in zero (b ∷ bs) h = absurd (omega arith)
needed-in (suc f) [] h = refl
needed-in (suc f) (b ∷ bs) h =
    (omega arith, rw (length-drop (byte_count (next_run (b ∷ bs))) (b ∷ bs)) at (needed-in f (after (b ∷ bs)) (after_less b bs f h)))

runs-needed : (bs : List ℕ) → Needed (length bs) (runs_of bs)
unfolding runs_of
runs-needed bs = needed-in (length bs) bs (le_refl _)

-- ---- bytes

pub every-bytes : EveryBytes
unfolding written
every-bytes bs h = record {
  valid = runs-valid bs h;
  gives = runs-bytes bs;
  reads = λ rest. runs-complete (length (written bs ++ rest)) (length bs) (runs_of bs) rest (runs-valid bs h) (runs-needed bs) (le_refl _);
  enough = written-enough bs;
}

-- ---- booleans

module _ (fs : List ℕ) where
  flags-read : (rest : List ℕ) → booleans (length fs) (written (flag_bytes fs) ++ rest) ≡ got (runs_of (flag_bytes fs)) rest
  unfolding written
  flags-read rest =
      booleans-complete (length fs) (runs_of (flag_bytes fs)) rest (runs-valid (flag_bytes fs) (flags-below fs))
      (rw (length-flags fs) at (runs-needed (flag_bytes fs)))

  flags-give : booleans_of (length fs) (runs_of (flag_bytes fs)) ≡ map bit fs
  unfolding booleans_of
  flags-give = rw (runs-bytes (flag_bytes fs)) (flags-bits fs)

  read_back : (front rest out out' : List ℕ) (r : Answer)
      → BooleansRead (front ++ (written (flag_bytes fs) ++ rest)) (length front) (length fs) out out' r → length fs ≤ length out
      → (r ≡ ran Booleans 1 (length fs) (length (written (flag_bytes fs)))) × (out' ≡ map bit fs ++ drop (length fs) out)
  unfolding booleans_into written
  read_back front rest out out' r p l =
      let d : drop (length front) (front ++ (written (flag_bytes fs) ++ rest)) ≡ written (flag_bytes fs) ++ rest =
      drop-append_seam front (written (flag_bytes fs) ++ rest) in (
        rw (d, flags-read rest, le-ltb (length out) (length fs) l) at p.answer,
        rw (d, flags-read rest, le-ltb (length out) (length fs) l, flags-give) at p.places,
      )

pub every-flags : EveryFlags
every-flags fs = record {
  size = length-flags fs;
  valid = runs-valid (flag_bytes fs) (flags-below fs);
  reads = flags-read fs;
  gives = flags-give fs;
  enough = rw (length-flags fs) at (written-enough (flag_bytes fs));
  read_back = read_back fs;
}

-- ---- the calls

-- an answer refuses by a number that can be read off, and the other answer is no refusal
module _ {A : Type 0} {refuse : ℕ → A} {wrote : A} {w out out' : List ℕ} {r : A}
    (number : A → ℕ) (reads : (k : ℕ) → number (refuse k) ≡ k) (apart : (k : ℕ) → wrote ≡ refuse k → ⊥)
    (o : Outcome (refuse 8) wrote w out out' r) where
  fits : length w ≤ length out → (r ≡ wrote) × (out' ≡ in_front w out)
  fits h = (rw (le-ltb _ _ h) at o.answer, rw (le-ltb _ _ h) at o.places)

  few : length out < length w → (r ≡ refuse 8) × (out' ≡ out)
  few h = (rw (lt-ltb _ _ h) at o.answer, rw (lt-ltb _ _ h) at o.places)

  only-eight : (k : ℕ) → (r ≡ refuse k) ↔ ((k ≡ 8) × (length out < length w))
  only-eight k = (by (dec_lt (length out) (length w)), λ q. rw q.0 (few q.1).0)
    where
      by : Dec (length out < length w) → r ≡ refuse k → (k ≡ 8) × (length out < length w)
      by (yes h) g = (sym (reads k) ∙ ap number (sym g ∙ (few h).0) ∙ reads 8, h)
      by (no h) g = absurd (apart k (sym (fits (omega arith)).0 ∙ g))

  exactly : (m : ℕ) → length w ≤ enough_for m → Exactly refuse wrote m w out out' r
  exactly m e = record { fits = fits; eight = only-eight; unchanged = λ h. (few h).1; never = λ h. fits (omega arith) }

-- any two outcomes are equal
determined : {A : Type 0} {refusal wrote : A} {w out o o' : List ℕ} {r r' : A}
    → Outcome refusal wrote w out o r → Outcome refusal wrote w out o' r' → (o ≡ o') × (r ≡ r')
determined p q = (p.places ∙ sym q.places, p.answer ∙ sym q.answer)

number_of : BytesAnswer → ℕ
number_of (Ok w) = 0
number_of (Err f) = f.number

bytes_apart : (rows size k : ℕ) → wrote_bytes rows size ≡ refused_with k → ⊥
bytes_apart rows size k e = never (cc)

booleans-apart : (rows size k : ℕ) → ran Booleans 1 rows size ≡ refused_at k 0 → ⊥
booleans-apart rows size k e = never (cc)

pub bytes-call : BytesCall
unfolding number_of
bytes-call bytes out out' r o = exactly number_of (λ k. refl) (bytes_apart _ _) o (length bytes) (written-enough bytes)

pub booleans-call : BooleansCall
booleans-call flags out out' r o =
    let e = rw (length-flags flags) at (written-enough (flag_bytes flags)) in
    exactly answer_number (λ k. refl) (booleans-apart _ _) o (bytes_for (length flags)) e

pub bytes-determined : BytesDetermined
bytes-determined bytes out o o' r r' p q = determined p q

pub booleans-determined : BooleansDetermined
booleans-determined flags out o o' r r' p q = determined p q

-- flags that were written, and read where they were written
pub round_trip : RoundTrip
round_trip flags out out' rows rows' r r' p h q l =
    let w = (booleans-call flags out out' r p).fits h in
    let b = read_back flags [] (drop (length (written (flag_bytes flags))) out) rows rows' r' (rw w.1 at q) l in
    (b.0 ∙ sym w.0, b.1)
