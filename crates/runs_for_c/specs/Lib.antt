pub mod Ran
pub mod Counted
pub mod Told
