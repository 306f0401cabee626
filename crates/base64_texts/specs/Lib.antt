pub mod Base64
pub mod Cursor
