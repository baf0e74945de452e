-- Each promise is an equation for the number and for every lent word, so any two outcomes are equal. Assumes nothing.
use mathlib.Core.Path.{sym, ◌∙◌}
use Prim.Native.Nat.{ℕ}
use mathlib.Core.List.{List}
use Rattle.answer_words.specs.Outcomes.{ToldDetermined, AnswerPutDetermined, StreamPutDetermined, ReaderPutDetermined, StepToldDetermined, LayDetermined, ReaderOfDetermined, CutCaseDetermined, CutByteDetermined}

pub told-determined : (B : Type 0) (words_of : B → List ℕ) (number_of : B → ℕ) → ToldDetermined B words_of number_of
told-determined B words_of number_of b words words' words'' r r' p q = (p.words_are ∙ sym q.words_are, p.number_is ∙ sym q.number_is)

pub answer-put-determined : AnswerPutDetermined
answer-put-determined = told-determined _ _ _

pub stream-put-determined : StreamPutDetermined
stream-put-determined = told-determined _ _ _

pub reader-put-determined : ReaderPutDetermined
reader-put-determined = told-determined _ _ _

pub step-told-determined : StepToldDetermined
step-told-determined step state words state' state'' words' words'' r r' p q =
    (p.state-is ∙ sym q.state-is, p.words_are ∙ sym q.words_are, p.number_is ∙ sym q.number_is)

pub lay-determined : LayDetermined
lay-determined said words words' words'' p q = p ∙ sym q

pub reader-of-determined : ReaderOfDetermined
reader-of-determined state r r' p q = p ∙ sym q

pub cut-case-determined : CutCaseDetermined
cut-case-determined field r r' p q = p ∙ sym q

pub cut-byte-determined : CutByteDetermined
cut-byte-determined field r r' p q = p ∙ sym q
