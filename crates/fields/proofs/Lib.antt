pub mod Numerals
pub mod Decoding
