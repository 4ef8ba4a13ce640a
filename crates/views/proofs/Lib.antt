pub mod Views
pub mod Seen
pub mod Opening
