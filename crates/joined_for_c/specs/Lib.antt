pub mod Items
pub mod Claim
