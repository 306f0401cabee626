pub mod References
pub mod Decoding
pub mod Spelling
pub mod Left
pub mod Checking
pub mod Rule
