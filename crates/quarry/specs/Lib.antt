pub mod Quarry
pub mod Rows
