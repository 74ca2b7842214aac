pub mod Shorts
pub mod Stepping
pub mod Turns
pub mod Windows
pub mod Covers
pub mod Bounds
pub mod Joins
