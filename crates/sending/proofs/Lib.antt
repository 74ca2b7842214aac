pub mod Schemes
pub mod Named
