pub mod Pages
pub mod Texts
pub mod Tables
pub mod Nodes
