-- What a line of the program is answered with (FORMAT.md, "The programs"), and that any two outcomes are equal.
pub mod Line
pub mod Outcomes
