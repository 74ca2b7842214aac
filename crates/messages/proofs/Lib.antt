pub mod Fronts
pub mod Steps
