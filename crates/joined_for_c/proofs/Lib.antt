pub mod ByValue
pub mod Readers
pub mod Theorem
