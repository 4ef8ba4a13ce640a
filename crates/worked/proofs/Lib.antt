pub mod Examples
pub mod FinalExamples
pub mod QuarryList
