-- One run converted, as the functions of a turn are stated. Assumes nothing.
use Rattle.std.specs.Prelude.{Option, Some, None, Result, Ok, Err, ◌≡◌, ℕ, ◌+◌, ◌-◌, ◌/◌, ◌%◌, ◌≤◌, Bool, not, ◌&&◌, List, [], ◌++◌, length, take, drop, ltb, eqb}
use Rattle.format.specs.declared.Form.{Form}
use Rattle.format.specs.declared.Form.TheVariants.{Direct, PackedDelta}
use Rattle.format.specs.declared.Refusal.{Refusal}
use Rattle.format.specs.Fields.{pick}
use Rattle.format.specs.Kept.{is_kept}
use Rattle.format.specs.Runs.{Description, Valid, layout}
use Rattle.format.specs.Parse.{Reason, refused, parse, into}
use Rattle.format.specs.Answers.{refusal}
use Rattle.convert.specs.declared.turn.Turn.{Turn}
use Rattle.convert.specs.Convert.{is_odd, converted}

-- by the first byte of a run: whether its width is odd, and the form that it is then written in
unfoldable pub odd_first : ℕ → Bool
odd_first b = not (eqb (b / 64 % 2) 0) && not (is_kept (b / 2 % 32))

unfoldable pub form_first : ℕ → Form
form_first b = pick (ltb b 128) Direct PackedDelta

module _ (signed : Bool) (s : List ℕ) (p : ℕ) where
  -- a run stands there, and the first bytes of `run` are those that it is converted to
  pub record Turned (run : List ℕ) (t : Turn) : Type 0 where
    pub which : Description
    pub valid : Valid which
    pub split : drop p s ≡ layout which ++ drop (p + t.taken.bytes) s
    pub within : p + t.taken.bytes ≤ length s
    pub taken_is : t.taken.bytes ≡ length (layout which)
    pub odd_is : t.odd ≡ is_odd which
    pub given_is : t.given.bytes ≡ length (layout (converted signed which))
    pub small : t.given.bytes ≤ 4356
    pub bytes : take t.given.bytes run ≡ layout (converted signed which)

  -- what stands there is refused, with room for any run
  pub record NoRun (f : Refusal) : Type 0 where
    pub reason : Reason
    pub read : into 512 (parse (drop p s)) ≡ refused reason
    pub refusal_is : f ≡ refusal p (length s - p) reason

  abbrev pub StepIs : List ℕ → Result (Option Turn) Refusal → Type 0
  StepIs run (Ok None) = drop p s ≡ []
  StepIs run (Ok (Some t)) = Turned run t
  StepIs run (Err f) = NoRun f
