pub mod Running
pub mod Counting
pub mod Examples
pub mod Typed
