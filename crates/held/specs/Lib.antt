pub mod Texts
pub mod Stored
pub mod Told
pub mod Formed
