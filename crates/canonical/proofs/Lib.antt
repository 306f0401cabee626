pub mod Known
pub mod Messages
pub mod Pieces
pub mod Texts
pub mod Values
