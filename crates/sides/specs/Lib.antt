pub mod Merging
pub mod Turning
pub mod Replay
pub mod Claims
pub mod Worked
