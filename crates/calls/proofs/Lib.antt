pub mod Refusals
pub mod Sizes
pub mod Writes
pub mod Lefts
pub mod Replies
