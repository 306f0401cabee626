pub mod TellApart
pub mod RowKinds
