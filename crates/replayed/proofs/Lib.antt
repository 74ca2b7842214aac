pub mod Messages
pub mod Writes
pub mod Played
pub mod Steps
pub mod Shut
pub mod Replayed
