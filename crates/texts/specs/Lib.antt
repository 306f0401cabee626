pub mod Bytes
pub mod Pages
pub mod Digits
pub mod Methods
pub mod Booleans
pub mod Streams
