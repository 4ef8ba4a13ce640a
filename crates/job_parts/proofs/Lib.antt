pub mod ListedSteps
