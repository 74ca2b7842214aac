pub mod Envelope
pub mod Reading
pub mod Answers
pub mod Claims
