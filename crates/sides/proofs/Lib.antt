pub mod Cutting
pub mod Turns
pub mod InRow
pub mod Heard
pub mod Spoken
pub mod Examples
