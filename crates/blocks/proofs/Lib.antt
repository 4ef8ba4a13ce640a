pub mod Putting
pub mod Noting
pub mod Naming
pub mod JobSteps
pub mod Examples
