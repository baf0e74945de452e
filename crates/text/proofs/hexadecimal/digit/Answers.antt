-- Each range of characters is one of the definition's. Assumes nothing.
use Rattle.format.proofs.Common.{arith}
use Rattle.text.proofs.HexDigits.{value-digit, value-upper, value-lower, no-value}
use Rattle.text.proofs.hexadecimal.digit.Goals as goal

pub returns-in-48-to-57 : goal.returns-in-48-to-57
returns-in-48-to-57 c = omega (arith, value-digit c.args.c (omega arith) (omega arith))

pub returns-in-65-to-70 : goal.returns-in-65-to-70
returns-in-65-to-70 c = omega (arith, value-upper c.args.c (omega arith) (omega arith))

pub returns-in-97-to-102 : goal.returns-in-97-to-102
returns-in-97-to-102 c = omega (arith, value-lower c.args.c (omega arith) (omega arith))

pub returns-in_default : goal.returns-in_default
returns-in_default c = no-value c.args.c (λ h. omega arith) (λ h. omega arith) (λ h. omega arith)

pub returns-in_default-2 : goal.returns-in_default-2
returns-in_default-2 c = no-value c.args.c (λ h. omega arith) (λ h. omega arith) (λ h. omega arith)

pub returns-in_default-3 : goal.returns-in_default-3
returns-in_default-3 c = no-value c.args.c (λ h. omega arith) (λ h. omega arith) (λ h. omega arith)

pub returns-in_default-4 : goal.returns-in_default-4
returns-in_default-4 c = no-value c.args.c (λ h. omega arith) (λ h. omega arith) (λ h. omega arith)
