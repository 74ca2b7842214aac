pub mod Stable
pub mod Entering
pub mod Views
pub mod Mosts
