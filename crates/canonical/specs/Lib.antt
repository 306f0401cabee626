pub mod Forms
pub mod KnownForms
pub mod Laws
