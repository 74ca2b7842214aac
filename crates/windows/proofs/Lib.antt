pub mod Stepping
pub mod Windows
pub mod Covers
