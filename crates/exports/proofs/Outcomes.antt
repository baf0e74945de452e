-- Each promise is an equation for the number, the words and every other place, so any two outcomes are equal. Assumes nothing.
use mathlib.Core.Path.{refl}
use Rattle.promises.proofs.Outcomes.{determined, pair, equation-determined}
use Rattle.exports.specs.Outcomes.{LoadedDetermined, RunToldDetermined, StreamToldDetermined, BooleansToldDetermined, ValueToldDetermined, WriteToldDetermined, VersionDetermined}

pub loaded-determined : LoadedDetermined
loaded-determined input flag out = determined _ _ _ (record { number = refl; bytes = refl }) (λ p r a. (a.bytes, a.number))

pub run-told-determined : RunToldDetermined
run-told-determined input at flag rows words =
    determined _ (_, _) _ (record { told = record { number_is = refl; words_are = refl }; places-are = refl })
    (λ p r a. (pair a.places-are a.told.words_are, a.told.number_is))

pub stream-told-determined : StreamToldDetermined
stream-told-determined input at flag rows words =
    determined _ (_, _) _ (record { told = record { number_is = refl; words_are = refl }; places-are = refl })
    (λ p r a. (pair a.places-are a.told.words_are, a.told.number_is))

pub booleans-told-determined : BooleansToldDetermined
booleans-told-determined input at n out words =
    determined _ (_, _) _ (record { told = record { number_is = refl; words_are = refl }; places-are = refl })
    (λ p r a. (pair a.places-are a.told.words_are, a.told.number_is))

pub value-told-determined : ValueToldDetermined
value-told-determined input at n words = determined _ _ _ (record { number_is = refl; words_are = refl }) (λ p r a. (a.words_are, a.number_is))

pub write-told-determined : WriteToldDetermined
write-told-determined rows flag form width out words =
    determined _ (_, _) _ (record { told = record { number_is = refl; words_are = refl }; places-are = refl })
    (λ p r a. (pair a.places-are a.told.words_are, a.told.number_is))

pub version-determined : VersionDetermined
version-determined = equation-determined _ _
