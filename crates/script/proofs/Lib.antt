pub mod Places
pub mod Ids
pub mod Lines
pub mod Items
