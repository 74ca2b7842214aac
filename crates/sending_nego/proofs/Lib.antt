pub mod Extensions
pub mod Offering
pub mod Replying
