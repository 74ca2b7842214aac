pub mod Listed
pub mod Fields
pub mod Layouts
pub mod Bounds
pub mod Pieces
pub mod Walked
