pub mod Values
pub mod Judged
