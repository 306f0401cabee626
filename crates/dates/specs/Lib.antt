pub mod Calendar
pub mod Moments
pub mod Dates
