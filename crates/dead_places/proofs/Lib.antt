pub mod DeadPlaces
pub mod Examples
pub mod Lines
