pub mod Judging
pub mod Takes
pub mod Calls
