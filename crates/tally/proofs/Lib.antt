-- The theorems of specs/Laws.antt, specs/Text.antt and specs/Outcomes.antt.
pub mod Order
pub mod Combining
pub mod Limits
pub mod Sizes
pub mod WideSums
pub mod Decimal
pub mod Held
pub mod Taking
pub mod Lines
pub mod TextDigits
pub mod TextLengths
pub mod Examples
pub mod Outcomes
