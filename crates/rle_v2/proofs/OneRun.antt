-- One run of a stream in n places: what stands at a byte (`RunAt` of format), and that the run's rows have room. Assumes nothing.
use mathlib.Core.Path.{◌≡◌}
use Prim.Native.Nat.{ℕ, ◌-◌, ◌≤◌}
use mathlib.Core.List.{List}
use lib.ListN.{length, drop}
use Rattle.format.specs.Digits.{AllBelow}
use Rattle.format.specs.Runs.{Description}
use Rattle.format.specs.Parse.{Parsed, parse, into}
use Rattle.format.specs.Promises.{answer_of}
use Rattle.format.specs.declared.Refusal.{Refusal}
use Rattle.format.specs.Answers.{Answer}
use Rattle.format.specs.declared.Run.{Run}
use Rattle.format.proofs.Below.{below-drop}
use Rattle.format.proofs.RunAt.{RunAt, NoRunAt, StandsAt, stands_at, in-places, into-fits}

module _ (s : List ℕ) (p n : ℕ) where
  abbrev found : Parsed Description
  found = into n (parse (drop p s))

  abbrev pub OneRun : Run → Type 0
  OneRun r = RunAt s p found r

  abbrev pub NoRun : Refusal → Type 0
  NoRun f = NoRunAt s p found f

  abbrev pub Step : Answer → Type 0
  Step a = StandsAt s p found a

  pub step_is : (a : Answer) → AllBelow 256 s → a ≡ answer_of p (length s - p) found → Step a
  step_is a h g = stands_at s p found a (in-places n (drop p s) (below-drop 256 p s h)) g

pub fits : {s : List ℕ} {p : ℕ} (n : ℕ) {r : Run} → OneRun s p n r → r.rows.rows ≤ n
fits {s} {p} n o = rw o.rows_are (into-fits n (parse (drop p s)) o.read)
