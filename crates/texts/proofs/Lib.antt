pub mod Numerals
pub mod Fronts
pub mod Bare
pub mod Written
pub mod Drained
