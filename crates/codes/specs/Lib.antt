pub mod Answered
pub mod StepNumbers
pub mod Judged
pub mod Inner
