pub mod Turns
pub mod Firsts
pub mod Tails
pub mod Wholes
pub mod Bounds
pub mod Scanning
pub mod Windows
