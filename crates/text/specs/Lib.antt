-- Texts: the bytes of a word, numbers in decimal, hexadecimal, and a text that was written into the caller's buffer.
pub mod Ascii
pub mod Decimal
pub mod Hexadecimal
pub mod Written
