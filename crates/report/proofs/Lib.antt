pub mod Fits
pub mod Inside
pub mod Read
