pub mod Answered
pub mod Inspected
pub mod Told
