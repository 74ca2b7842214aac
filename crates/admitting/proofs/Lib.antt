pub mod Lists
pub mod Allowed
pub mod Admits
