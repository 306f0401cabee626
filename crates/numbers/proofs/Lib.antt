pub mod DoublesAre
pub mod DoublesBack
pub mod IntsAre
pub mod IntsBack
pub mod Spelled
