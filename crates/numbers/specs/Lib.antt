pub mod Signs
pub mod Ints
pub mod Doubles
