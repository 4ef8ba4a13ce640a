pub mod Runs
pub mod Items
pub mod ReadOut
pub mod Claim
