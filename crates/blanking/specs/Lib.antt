pub mod Covered
pub mod Blanked
pub mod Masked
pub mod Wiped
