pub mod AsNodes
pub mod Groups
pub mod Kids
pub mod Places
