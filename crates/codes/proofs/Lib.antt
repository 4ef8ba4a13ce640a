pub mod Numbered
pub mod Fits
