pub mod Find
pub mod Last
pub mod Entries
pub mod Four
