pub mod Runs
pub mod Items
pub mod ReadBack
pub mod Theorem
