pub mod Choices
pub mod Finished
