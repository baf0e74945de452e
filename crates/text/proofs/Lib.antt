-- The laws that the programs' rooms cite.
pub mod Texts
pub mod HexDigits
