pub mod Locating
pub mod EqualCopies
pub mod Drafting
pub mod Asking
pub mod JobSound
pub mod Examples
