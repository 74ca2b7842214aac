pub mod Faults
pub mod Claims
