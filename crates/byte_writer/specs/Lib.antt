-- The definitions that the contracts cite, and the statements of the theorems.
pub mod Choice
pub mod Flags
pub mod Steps
pub mod Written
pub mod Laws
pub mod ReadBack
