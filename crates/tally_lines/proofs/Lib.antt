pub mod Chained
pub mod Sizes
