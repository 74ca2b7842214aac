pub mod Lines
pub mod Fit
