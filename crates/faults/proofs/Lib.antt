pub mod Spots
pub mod Tokens
pub mod First
pub mod Withins
