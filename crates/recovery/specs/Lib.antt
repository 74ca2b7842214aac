pub mod Recovery
pub mod Pieces
pub mod Scans
