pub mod Offers
pub mod Table
