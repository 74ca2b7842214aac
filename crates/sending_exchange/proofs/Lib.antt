pub mod Exchanges
pub mod Tellings
