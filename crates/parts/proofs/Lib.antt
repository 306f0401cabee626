pub mod Begun
pub mod Closed
pub mod Cuts
pub mod Found
pub mod OneWay
pub mod Spelled
pub mod Turns
pub mod Walk
