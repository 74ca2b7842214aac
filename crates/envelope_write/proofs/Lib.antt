pub mod Sums
pub mod Identifiers
pub mod Puts
pub mod Stores
pub mod Trips
