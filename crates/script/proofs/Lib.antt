pub mod Examples
pub mod LineForms
