pub mod Sweeps
pub mod Sums
pub mod Marks
pub mod Numbered
