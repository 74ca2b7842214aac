pub mod Answers
pub mod Messages
pub mod Vectors
pub mod Tables
pub mod Fronts
