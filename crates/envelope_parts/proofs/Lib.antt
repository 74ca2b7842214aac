pub mod Clamped
pub mod Nths
pub mod Mechanisms
