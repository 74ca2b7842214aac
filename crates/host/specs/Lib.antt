pub mod Host
pub mod Following
