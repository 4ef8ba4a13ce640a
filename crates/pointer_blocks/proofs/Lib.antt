pub mod Putting
pub mod OrderPacked
