pub mod Splits
pub mod ProgramSteps
pub mod RewriteSteps
pub mod PlaceNumbers
pub mod PlaceSteps
