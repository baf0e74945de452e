-- Each promise is an equation for the answer, so any two answers are equal. Assumes nothing.
use Rattle.std.proofs.Common.{sym, ◌∙◌}
use Rattle.blocks.specs.Outcomes.{LineEndDetermined, NotReadyDetermined, InputPlacesDetermined}

pub line-end-determined : LineEndDetermined
line-end-determined input at r r' p q = p ∙ sym q

pub not-ready-determined : NotReadyDetermined
not-ready-determined error r r' p q = p ∙ sym q

pub input-places-determined : InputPlacesDetermined
input-places-determined r r' p q = p ∙ sym q
