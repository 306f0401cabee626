pub mod Answers
pub mod Holding
pub mod Order
pub mod Sorted
pub mod Repeats
