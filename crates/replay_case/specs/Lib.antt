pub mod Given
pub mod Case
pub mod Steps
