pub mod Names
pub mod Entries
pub mod Lookup
pub mod Claims
