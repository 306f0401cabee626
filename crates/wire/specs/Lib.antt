pub mod Kinds
pub mod Rows
pub mod Trees
pub mod Levels
pub mod Refusals
pub mod RowLaws
