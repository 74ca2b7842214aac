pub mod Openings
pub mod Choices
