pub mod Bounds
pub mod Steps
pub mod Runs
pub mod Sizes
