pub mod Verifies
