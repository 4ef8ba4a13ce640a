pub mod Ascending
pub mod Rules
