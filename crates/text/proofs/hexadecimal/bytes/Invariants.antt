-- Each turn writes the byte of one pair, and the loop ends at the first pair that is not two digits, or with the line (`Begun` says what holds
-- before each turn). Assumes nothing.
use Rattle.text.proofs.HexDigits.{Begun}
use Rattle.text.proofs.hexadecimal.bytes.Given as goal

abbrev pub invariant-loop-i : goal.invariant-loop-i
invariant-loop-i l = Begun l.line l.initial.frame l.frame l.i
