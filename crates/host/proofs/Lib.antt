pub mod Counting
pub mod Windows
pub mod Ends
pub mod Following
