pub mod Sames
pub mod Views
pub mod Keeps
pub mod Wipes
pub mod Seen
pub mod Masks
