pub mod Numbers
pub mod Commands
