pub mod Lists
pub mod Sets
pub mod Longer
pub mod Answers
