pub mod Identifiers
pub mod RoundTrip
pub mod Holders
pub mod Optionals
pub mod Lists
pub mod Tails
pub mod Sequences
pub mod Levels
