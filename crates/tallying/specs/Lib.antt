pub mod Files
pub mod Tally
pub mod Counting
