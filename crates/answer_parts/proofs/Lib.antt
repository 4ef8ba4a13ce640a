pub mod HexDigits
pub mod HexRoundTrip
pub mod Sums
pub mod Texts
