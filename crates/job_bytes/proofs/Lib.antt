pub mod Numbers
pub mod RoundTrip
pub mod Filling
pub mod JobOver
pub mod Examples
