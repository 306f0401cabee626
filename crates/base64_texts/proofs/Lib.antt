pub mod Scan
pub mod Groups
