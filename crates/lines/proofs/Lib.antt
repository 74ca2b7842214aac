pub mod Chained
pub mod Lists
pub mod Contents
pub mod Shorts
