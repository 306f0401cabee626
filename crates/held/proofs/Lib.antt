pub mod InMessage
pub mod Sayings
