-- What a measured run says of the stream from its byte on: the stream begins with it (`RunAt` of format), or is refused there. Assumes nothing.
use mathlib.Core.Path.{◌≡◌}
use mathlib.Core.Logic.{◌⊎◌, inl, inr}
use Prim.Native.Nat.{ℕ}
use Rattle.std.specs.Prelude.{Some, None, Ok, Err}
use Rattle.std.specs.Result.{result_unwrap_or}
use mathlib.Core.List.{List, []}
use lib.ListN.{drop}
use Rattle.format.specs.Digits.{AllBelow}
use Rattle.format.specs.Parse.{parse}
use Rattle.format.specs.Streams.{broken, stream}
use Rattle.format.specs.Promises.{RunMeasured}
use Rattle.format.specs.declared.Refusal.{Refusal}
use Rattle.format.specs.declared.Run.{Run}
use Rattle.format.specs.Answers.{Answer}
use Rattle.format.proofs.Below.{below-drop}
use Rattle.format.proofs.Runs.{outcome}
use Rattle.format.proofs.Tests.{never}
use Rattle.format.proofs.StreamRoom.{stream-refused}
use Rattle.format.proofs.RunAt.{RunAt, NoRunAt, StandsAt, stands_at}

module _ (s : List ℕ) (p : ℕ) where
  abbrev pub OneRun : Run → Type 0
  OneRun r = RunAt s p (parse (drop p s)) r

  abbrev pub NoRun : Refusal → Type 0
  NoRun f = NoRunAt s p (parse (drop p s)) f

  abbrev pub Step : Answer → Type 0
  Step a = StandsAt s p (parse (drop p s)) a

  pub step_is : (a : Answer) → AllBelow 256 s → RunMeasured s p a → Step a
  step_is a h g = stands_at s p (parse (drop p s)) a (outcome (drop p s) (below-drop 256 p s h)) g

pub broken-here : {s : List ℕ} {p : ℕ} {f : Refusal} (q : NoRun s p f) → stream (drop p s) ≡ broken [] q.reason (drop p s)
broken-here {s} {p} q = stream-refused (drop p s) q.reason q.read

-- a measure of which a refusal is taken for the end
module _ {s : List ℕ} {p : ℕ} (h : AllBelow 256 s) (a : Answer) (g : RunMeasured s p a) where
  pub run-there : {r : Run} → result_unwrap_or a None ≡ Some r → OneRun s p r
  run-there {r} e = go a (step_is s p a h g) e
    where
      go : (x : Answer) → Step s p x → result_unwrap_or x None ≡ Some r → OneRun s p r
      go (Ok m) t e = rw e at t
      go (Err f) t e = never (cc)

  pub no-run-there : result_unwrap_or a None ≡ None → (drop p s ≡ []) ⊎ ((f : Refusal) × NoRun s p f)
  no-run-there e = go a (step_is s p a h g) e
    where
      go : (x : Answer) → Step s p x → result_unwrap_or x None ≡ None → (drop p s ≡ []) ⊎ ((f : Refusal) × NoRun s p f)
      go (Ok m) t e = inl (rw e at t)
      go (Err f) t e = inr (f, t)
