pub mod StandingPointers
pub mod FreePlace
pub mod Values
