pub mod Names
pub mod Tags
pub mod Cutting
pub mod Declarations
pub mod Next
pub mod Readers
