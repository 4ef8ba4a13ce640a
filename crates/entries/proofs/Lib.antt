mod Chunks
pub mod Turns
