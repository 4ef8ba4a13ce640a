pub mod Asked
pub mod Drafted
