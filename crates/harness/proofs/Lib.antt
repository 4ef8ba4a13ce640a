pub mod Finishing
pub mod Choices
